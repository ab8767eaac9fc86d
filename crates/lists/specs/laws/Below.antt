-- Laws of specs/Below: the numbers below a bound, one by one and together. Assumes nothing.
use Rattle.std.specs.Prelude.{ℕ, zero, suc, ◌+◌, ◌<◌, ◌≤◌, ◌≡◌, refl, Bool, true, false, ◌||◌, length, get_or}
use Rattle.std.proofs.Common.{◌∙◌, ap, arith}
use mathlib.Core.List.{List, [], ◌∷◌, map}
use Rattle.std.proofs.Math.Decide.{ℕ_discrete}
use Rattle.lists.specs.Bools.{if_then}
use Rattle.lists.specs.laws.Bools.{both, or_right}
use Rattle.lists.specs.Scans.{Every, done, more, keep, any_of, all_of}
use Rattle.lists.specs.laws.Scans.{head, tail, every_map}
use Rattle.lists.specs.Below.{Rising, flat, from, step, zip}

pub length_from : (a n : ℕ) → length (from a n) ≡ n
unfolding from
length_from a zero = refl
length_from a (suc n) = ap suc (length_from (suc a) n)

pub every_from : (a n : ℕ) → Every (λ k. (a ≤ k) × (k < a + n)) (from a n)
unfolding from
every_from a zero = done
every_from a (suc n) = more {x = a} (omega arith) (every_map (λ k h. omega arith) (from (suc a) n) (every_from (suc a) n))

pub any_from : (t : ℕ → Bool) (a n k : ℕ) → a ≤ k → k < a + n → t k ≡ true → any_of t (from a n) ≡ true
unfolding from any_of
any_from t a zero k h m e = absurd (omega arith)
any_from t a (suc n) k h m e = go (ℕ_discrete a k) (λ ne. any_from t (suc a) n k (omega (arith, ne)) (omega arith) e)
  where
    go : Dec (a ≡ k) → ((a ≡ k → ⊥) → any_of t (from (suc a) n) ≡ true) → (t a || any_of t (from (suc a) n)) ≡ true
    go (yes z) ih = rw (z, e)
    go (no ne) ih = or_right (t a) (any_of t (from (suc a) n)) (ih ne)

pub all_from_lem : (t : ℕ → Bool) (a n k : ℕ) → a ≤ k → k < a + n → all_of t (from a n) ≡ true → t k ≡ true
unfolding from all_of
all_from_lem t a zero k h m e = absurd (omega arith)
all_from_lem t a (suc n) k h m e =
    let b = both (t a) (all_of t (from (suc a) n)) e in
    go (ℕ_discrete a k) b.0 (λ ne. all_from_lem t (suc a) n k (omega (arith, ne)) (omega arith) b.1)
  where
    go : Dec (a ≡ k) → t a ≡ true → ((a ≡ k → ⊥) → t k ≡ true) → t k ≡ true
    go (yes z) c ih = rw z at c
    go (no ne) c ih = ih ne

pub get_from : {B : Type 0} (f : ℕ → B) (d : B) (a n k : ℕ) → k < n → get_or (map f (from a n)) k d ≡ f (a + k)
unfolding from
get_from f d a zero k h = absurd (omega arith)
get_from f d a (suc n) zero h = ap f (omega arith)
get_from f d a (suc n) (suc k) h = get_from f d (suc a) n k (omega arith) ∙ ap f (omega arith)

pub rising_lower : {a : ℕ} (b : ℕ) {l : List ℕ} → b ≤ a → Rising a l → Rising b l
rising_lower b h flat = flat
rising_lower b h (step {x = x} k r) = step {a = b} {x = x} (omega arith) r

pub rising_above : (a : ℕ) (l : List ℕ) → Rising a l → Every (λ k. a ≤ k) l
rising_above a l flat = done
rising_above a l (step {x = x} {xs = xs} k r) = more k (every_map (λ y h. omega arith) xs (rising_above (suc x) xs r))

pub rising_keep : (t : ℕ → Bool) (a n : ℕ) → Rising a (keep t (from a n))
unfolding from keep
rising_keep t a zero = flat
rising_keep t a (suc n) = go (t a) (rising_keep t (suc a) n)
  where
    go : (b : Bool) → Rising (suc a) (keep t (from (suc a) n)) → Rising a (if_then b (a ∷ keep t (from (suc a) n)) (keep t (from (suc a) n)))
    go true r = step {a = a} {x = a} (omega arith) r
    go false r = rising_lower a (omega arith) r

module _ {A B : Type 0} where
  pub every_zip : {P : A → Type 0} {Q : B → Type 0} (xs : List A) (ys : List B) → Every P xs → Every Q ys → Every (λ g. P g.0 × Q g.1) (zip xs ys)
  unfolding zip
  every_zip [] ys p q = done
  every_zip (x ∷ xs) [] p q = done
  every_zip (x ∷ xs) (y ∷ ys) p q = more (head p, head q) (every_zip xs ys (tail p) (tail q))

  pub every_of_map : {P : B → Type 0} (f : A → B) (l : List A) → Every (λ x. P (f x)) l → Every P (map f l)
  every_of_map f [] e = done
  every_of_map f (x ∷ xs) e = more (head e) (every_of_map f xs (tail e))
