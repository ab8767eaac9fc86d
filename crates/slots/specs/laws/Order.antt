-- Lists of numbers, of which the order of use is one: how often a number stands in a list, what is left without it, and that
-- a list of distinct values of a function below n has at most n elements. Scans that find one place. Assumes nothing.
use Rattle.std.specs.Prelude.{ℕ, zero, suc, ◌+◌, ◌-◌, ◌<◌, ◌≤◌, ◌≡◌, refl, List, [], ◌∷◌, ◌++◌, Bool, true, false, ◌||◌, eqb, length}
use Rattle.std.proofs.Common.{◌∙◌, sym, ap, subst, arith, eq-eqb, ne_eqb, eqb-true}
use Rattle.std.proofs.Math.Option.{Option, some, none}
use Rattle.std.proofs.Math.Decide.{ℕ_discrete}
use Rattle.std.proofs.lemmas.Bool.{eqb-false}
use Rattle.lists.specs.Below.{from, below}
use Rattle.lists.specs.laws.Below.{every_from, any_from, all_from_lem}
use Rattle.lists.specs.Bools.{if_then}
use Rattle.lists.specs.laws.Bools.{not_both, or_drop}
use Rattle.lists.specs.Scans.{Every, done, more, all_of, any_of, first}
use Rattle.lists.specs.laws.Scans.{head, tail, every_map, every_two, every_all_of, first_some, first_none}
use Rattle.slots.specs.Table.{without, times}

-- one answer
module _ {A : Type 0} {o : Option A} where
  pub not_some : {x : A} → o ≡ none → o ≡ some x → ⊥
  not_some p q = let z : ◌≡◌ {A = ℕ} 0 1 = cc in omega arith

  pub same_some : {x y : A} → o ≡ some x → o ≡ some y → x ≡ y
  same_some p q = cc

-- one element more, in front or at the end
pub times_here : (x : ℕ) (l : List ℕ) → times x (x ∷ l) ≡ suc (times x l)
unfolding times
times_here x l = rw (eq-eqb x x refl)

pub times_next : (z x : ℕ) (l : List ℕ) → (x ≡ z → ⊥) → times z (x ∷ l) ≡ times z l
unfolding times
times_next z x l n = rw (ne_eqb x z n)

pub times_last : (z x : ℕ) (l : List ℕ) → times z (l ++ (x ∷ [])) ≡ times z (x ∷ l)
unfolding times
times_last z x [] = refl
times_last z x (y ∷ ys) = go (eqb y z) (eqb x z) (times_last z x ys)
  where
    go : (a b : Bool) → times z (ys ++ (x ∷ [])) ≡ if_then b (suc (times z ys)) (times z ys)
        → if_then a (suc (times z (ys ++ (x ∷ [])))) (times z (ys ++ (x ∷ []))) ≡ if_then b (suc (if_then a (suc (times z ys)) (times z ys))) (if_then a (suc (times z ys)) (times z ys))
    go true true e = ap suc e
    go true false e = ap suc e
    go false true e = e
    go false false e = e

pub every_last : {P : ℕ → Type 0} (x : ℕ) (l : List ℕ) → Every P l → P x → Every P (l ++ (x ∷ []))
every_last x [] e p = more p done
every_last x (y ∷ ys) e p = more (head e) (every_last x ys (tail e) p)

-- what holds of every element holds of one that stands there; what it fails for stands nowhere
pub every_there : {P : ℕ → Type 0} (x : ℕ) (l : List ℕ) → Every P l → 1 ≤ times x l → P x
unfolding times
every_there x [] e h = absurd (omega arith)
every_there {P} x (y ∷ ys) e h = go (eqb y x) refl h (every_there x ys (tail e))
  where
    go : (b : Bool) → eqb y x ≡ b → 1 ≤ if_then b (suc (times x ys)) (times x ys) → (1 ≤ times x ys → P x) → P x
    go true q h ih = subst P (eqb-true y x q) (head e)
    go false q h ih = ih h

pub times_none : {P : ℕ → Type 0} (x : ℕ) (l : List ℕ) → Every P l → (P x → ⊥) → times x l ≡ 0
times_none {P} x l e n = go (times x l) refl
  where
    go : (k : ℕ) → times x l ≡ k → k ≡ 0
    go zero h = refl
    go (suc k) h = absurd (n (every_there x l e (omega arith)))

pub times_out : (x : ℕ) (l : List ℕ) → times x l ≡ 0 → Every (λ y. y ≡ x → ⊥) l
unfolding times
times_out x [] h = done
times_out x (y ∷ ys) h = go (eqb y x) refl h (times_out x ys)
  where
    go : (b : Bool) → eqb y x ≡ b → if_then b (suc (times x ys)) (times x ys) ≡ 0 → (times x ys ≡ 0 → Every (λ y. y ≡ x → ⊥) ys)
        → Every (λ y. y ≡ x → ⊥) (y ∷ ys)
    go true q h ih = absurd (omega arith)
    go false q h ih = more (eqb-false y x q) (ih h)

-- the list without x: the same elements, x once less
pub every_without : {P : ℕ → Type 0} (x : ℕ) (l : List ℕ) → Every P l → Every P (without x l)
unfolding without
every_without x [] e = done
every_without {P} x (y ∷ ys) e = go (eqb y x) (every_without x ys (tail e))
  where
    go : (b : Bool) → Every P (without x ys) → Every P (if_then b ys (y ∷ without x ys))
    go true ih = tail e
    go false ih = more (head e) ih

pub without_same : (x : ℕ) (l : List ℕ) → times x (without x l) ≡ times x l - 1
unfolding times without
without_same x [] = refl
without_same x (y ∷ ys) = go (eqb y x) refl (without_same x ys)
  where
    go : (b : Bool) → eqb y x ≡ b → times x (without x ys) ≡ times x ys - 1 → times x (if_then b ys (y ∷ without x ys)) ≡ if_then b (suc (times x ys)) (times x ys) - 1
    go true q ih = omega arith
    go false q ih = rw q ih

pub without_other : (z x : ℕ) (l : List ℕ) → (z ≡ x → ⊥) → times z (without x l) ≡ times z l
unfolding times without
without_other z x [] n = refl
without_other z x (y ∷ ys) n = go (eqb y x) refl (without_other z x ys n)
  where
    go : (b : Bool) → eqb y x ≡ b → times z (without x ys) ≡ times z ys → times z (if_then b ys (y ∷ without x ys)) ≡ if_then (eqb y z) (suc (times z ys)) (times z ys)
    go true q ih = sym (times_next z y ys (λ e. n (sym e ∙ eqb-true y x q)))
    go false q ih = rw ih

pub without_none : (x : ℕ) (l : List ℕ) → times x l ≡ 0 → without x l ≡ l
unfolding times without
without_none x [] h = refl
without_none x (y ∷ ys) h = go (eqb y x) h (without_none x ys)
  where
    go : (b : Bool) → if_then b (suc (times x ys)) (times x ys) ≡ 0 → (times x ys ≡ 0 → without x ys ≡ ys) → if_then b ys (y ∷ without x ys) ≡ y ∷ ys
    go true h ih = absurd (omega arith)
    go false h ih = rw (ih h)

pub without_length : (x : ℕ) (l : List ℕ) → 1 ≤ times x l → length l ≡ suc (length (without x l))
unfolding times without
without_length x [] h = absurd (omega arith)
without_length x (y ∷ ys) h = go (eqb y x) h (without_length x ys)
  where
    go : (b : Bool) → 1 ≤ if_then b (suc (times x ys)) (times x ys) → (1 ≤ times x ys → length ys ≡ suc (length (without x ys)))
        → suc (length ys) ≡ suc (length (if_then b ys (y ∷ without x ys)))
    go true h ih = refl
    go false h ih = ap suc (ih h)

-- distinct elements, each of them f of a number below n: no more than n
pub pigeons : (f : ℕ → ℕ) (n : ℕ) (l : List ℕ) → ((z : ℕ) → times z l ≤ 1) → Every (λ x. (i : ℕ) × (i < n) × (f i ≡ x)) l → length l ≤ n
pigeons f zero [] d e = omega arith
pigeons f zero (x ∷ xs) d e = absurd (omega (arith, (head e).1))
pigeons f (suc n) l d e =
    let g : times (f n) (without (f n) l) ≡ 0 = omega (arith, without_same (f n) l, d (f n)) in
    let r = every_map less (without (f n) l) (every_two (without (f n) l) (every_without (f n) l e) (times_out (f n) (without (f n) l) g)) in
    shorter (ℕ_discrete (times (f n) l) 0) (pigeons f n (without (f n) l) (λ z. once z (ℕ_discrete z (f n)) g) r)
  where
    less : (x : ℕ) → ((i : ℕ) × (i < suc n) × (f i ≡ x)) × (x ≡ f n → ⊥) → (i : ℕ) × (i < n) × (f i ≡ x)
    less x h = (h.0.0, go (ℕ_discrete h.0.0 n), h.0.2)
      where
        go : Dec (h.0.0 ≡ n) → h.0.0 < n
        go (yes q) = absurd (h.1 (sym h.0.2 ∙ ap f q))
        go (no q) = omega (arith, q, h.0.1)

    once : (z : ℕ) → Dec (z ≡ f n) → times (f n) (without (f n) l) ≡ 0 → times z (without (f n) l) ≤ 1
    once z (yes q) g = rw q (omega arith)
    once z (no q) g = omega (arith, without_other z (f n) l q, d z)

    shorter : Dec (times (f n) l ≡ 0) → length (without (f n) l) ≤ n → length l ≤ suc n
    shorter (yes q) h = omega (arith, ap length (without_none (f n) l q))
    shorter (no q) h = omega (arith, without_length (f n) l (omega (arith, q)))

-- a test of every number in a row
pub all_below : (t : ℕ → Bool) (a n : ℕ) → ((i : ℕ) → a ≤ i → i < a + n → t i ≡ true) → all_of t (from a n) ≡ true
all_below t a n h = every_all_of t (λ i k. h i k.0 k.1) (from a n) (every_from a n)

-- every number below n passes t, unless it passes s
module _ (s t : ℕ → Bool) (n : ℕ) where
  pub unless : all_of (λ i. s i || t i) (below n) ≡ true → (i : ℕ) → i < n → s i ≡ false → t i ≡ true
  unless e i h f = or_drop (s i) (t i) (all_from_lem (λ i. s i || t i) 0 n i (omega arith) (omega arith) e) f

  pub unless_back : ((i : ℕ) → i < n → s i ≡ false → t i ≡ true) → all_of (λ i. s i || t i) (below n) ≡ true
  unless_back h = all_below (λ i. s i || t i) 0 n (λ i _ k. go i (s i) (h i (omega arith)))
    where
      go : (i : ℕ) (b : Bool) → (b ≡ false → t i ≡ true) → (b || t i) ≡ true
      go i true f = refl
      go i false f = f refl

-- the first that passes: the only one; still the first where fewer pass
pub first_only : (t : ℕ → Bool) (n i : ℕ) → i < n → t i ≡ true → ((j : ℕ) → j < n → t j ≡ true → j ≡ i) → first t (below n) ≡ some i
first_only t n i h e u = go (first t (below n)) refl
  where
    go : (o : Option ℕ) → first t (below n) ≡ o → o ≡ some i
    go none q = absurd (not_both (any_of t (below n)) (any_from t 0 n i (omega arith) (omega arith) e) (first_none t (below n) q))
    go (some j) q = let r = first_some t (below n) j (every_from 0 n) q in ap some (u j (omega (arith, r.1.1)) r.0)

pub first_fewer : (s t : ℕ → Bool) (l : List ℕ) (i : ℕ) → ((j : ℕ) → t j ≡ true → s j ≡ true) → first s l ≡ some i → t i ≡ true → first t l ≡ some i
unfolding first
first_fewer s t [] i f h e = h
first_fewer s t (x ∷ xs) i f h e = go (s x) refl (t x) refl h (first_fewer s t xs i f)
  where
    go : (a : Bool) → s x ≡ a → (b : Bool) → t x ≡ b → if_then a (some x) (first s xs) ≡ some i
        → (first s xs ≡ some i → t i ≡ true → first t xs ≡ some i) → if_then b (some x) (first t xs) ≡ some i
    go true p true q h ih = h
    go true p false q h ih = let z : x ≡ i = cc in absurd (not_both (t x) (rw z e) q)
    go false p true q h ih = absurd (not_both (s x) (f x q) p)
    go false p false q h ih = ih h e
