-- Laws of specs/Scans: what holds of every element, of those that pass, of the first that does. Assumes nothing.
use Rattle.std.specs.Prelude.{ℕ, Bool, ◌&&◌, ◌||◌}
use Rattle.std.proofs.Math.Path.{◌≡◌, refl}
use Rattle.std.proofs.Common.{◌∙◌, sym, true≢false, arith}
use mathlib.Core.List.{List, [], ◌∷◌}
use Rattle.std.proofs.Math.Bool.{true, false, not}
use Rattle.std.proofs.lemmas.Bool.{false≢true}
use Rattle.std.proofs.Math.Option.{some, none}
use Rattle.lists.specs.Bools.{if_then}
use Rattle.lists.specs.laws.Bools.{both, and_make, and_left, or_false, or_none, or_right}
use Rattle.lists.specs.Scans.{Every, all_of, any_of, done, first, keep, more}

module _ {A : Type 0} where
  pub head : {P : A → Type 0} {x : A} {xs : List A} → Every P (x ∷ xs) → P x
  head (more p e) = p

  pub tail : {P : A → Type 0} {x : A} {xs : List A} → Every P (x ∷ xs) → Every P xs
  tail (more p e) = e

  pub every_map : {P Q : A → Type 0} (f : (x : A) → P x → Q x) (l : List A) → Every P l → Every Q l
  every_map f l done = done
  every_map f l (more {x = x} {xs = xs} p e) = more (f x p) (every_map f xs e)

  pub every_two : {P Q : A → Type 0} (l : List A) → Every P l → Every Q l → Every (λ x. P x × Q x) l
  every_two [] p q = done
  every_two (x ∷ xs) p q = more (head p, head q) (every_two xs (tail p) (tail q))

  pub every_all : {P : A → Type 0} (f : (x : A) → P x) (l : List A) → Every P l
  every_all f [] = done
  every_all f (x ∷ xs) = more (f x) (every_all f xs)

  -- what passed passes, and what held of all holds of those that passed
  pub every_keep : {P : A → Type 0} (t : A → Bool) (l : List A) → Every P l → Every (λ x. (t x ≡ true) × P x) (keep t l)
  unfolding keep
  every_keep t [] e = done
  every_keep {P} t (x ∷ xs) e = go (t x) refl (every_keep t xs (tail e))
    where
      go : (b : Bool) → t x ≡ b → Every (λ x. (t x ≡ true) × P x) (keep t xs) → Every (λ x. (t x ≡ true) × P x) (if_then b (x ∷ keep t xs) (keep t xs))
      go true q ih = more (q, head e) ih
      go false q ih = ih

  pub every_all_of : {P : A → Type 0} (t : A → Bool) (f : (x : A) → P x → t x ≡ true) (l : List A) → Every P l → all_of t l ≡ true
  unfolding all_of
  every_all_of t f [] e = refl
  every_all_of t f (x ∷ xs) e = and_make (t x) (all_of t xs) (f x (head e)) (every_all_of t f xs (tail e))

  pub all_of_every : (t : A → Bool) (l : List A) → all_of t l ≡ true → Every (λ x. t x ≡ true) l
  unfolding all_of
  all_of_every t [] e = done
  all_of_every t (x ∷ xs) e = let b = both (t x) (all_of t xs) e in more b.0 (all_of_every t xs b.1)

  -- nothing passes
  pub any_none : (t : A → Bool) (l : List A) → any_of t l ≡ false → Every (λ x. t x ≡ false) l
  unfolding any_of
  any_none t [] e = done
  any_none t (x ∷ xs) e = let b = or_false (t x) (any_of t xs) e in more b.0 (any_none t xs b.1)

  pub none_any : (t : A → Bool) (l : List A) → Every (λ x. t x ≡ false) l → any_of t l ≡ false
  unfolding any_of
  none_any t [] e = refl
  none_any t (x ∷ xs) e = or_none (t x) (any_of t xs) (head e) (none_any t xs (tail e))

  -- something passes: one element with what holds of every one
  pub any_some : {P : A → Type 0} (t : A → Bool) (l : List A) → Every P l → any_of t l ≡ true → (x : A) × (t x ≡ true) × P x
  unfolding any_of
  any_some t [] e h = absurd (false≢true h)
  any_some {P} t (x ∷ xs) e h = go (t x) refl h (any_some t xs (tail e))
    where
      go : (b : Bool) → t x ≡ b → (b || any_of t xs) ≡ true → (any_of t xs ≡ true → (x : A) × (t x ≡ true) × P x) → (x : A) × (t x ≡ true) × P x
      go true q h ih = (x, q, head e)
      go false q h ih = ih h

  -- something passes t and nothing passes both t and s: something passes t among those that do not pass s
  pub any_stays : (t s : A → Bool) (l : List A) → any_of t l ≡ true → any_of (λ x. t x && s x) l ≡ false → any_of t (keep (λ x. not (s x)) l) ≡ true
  unfolding any_of keep
  any_stays t s [] h n = absurd (false≢true h)
  any_stays t s (x ∷ xs) h n = go (t x) refl (s x) refl h n (any_stays t s xs)
    where
      go : (a : Bool) → t x ≡ a → (b : Bool) → s x ≡ b → (a || any_of t xs) ≡ true → ((a && b) || any_of (λ x. t x && s x) xs) ≡ false
          → (any_of t xs ≡ true → any_of (λ x. t x && s x) xs ≡ false → any_of t (keep (λ x. not (s x)) xs) ≡ true)
          → any_of t (if_then (not b) (x ∷ keep (λ x. not (s x)) xs) (keep (λ x. not (s x)) xs)) ≡ true
      go true p true q h n ih = absurd (true≢false n)
      go true p false q h n ih = rw p
      go false p true q h n ih = ih h n
      go false p false q h n ih = rw p (ih h n)

  -- something among those that pass one test passes another: something passes both
  pub any_keep : (s t : A → Bool) (l : List A) → any_of s (keep t l) ≡ any_of (λ x. s x && t x) l
  unfolding any_of keep
  any_keep s t [] = refl
  any_keep s t (x ∷ xs) = go (s x) refl (t x) (any_keep s t xs)
    where
      go : (a : Bool) → s x ≡ a → (b : Bool) → any_of s (keep t xs) ≡ any_of (λ x. s x && t x) xs
          → any_of s (if_then b (x ∷ keep t xs) (keep t xs)) ≡ (a && b || any_of (λ x. s x && t x) xs)
      go true q true ih = rw q
      go true q false ih = ih
      go false q true ih = rw q ih
      go false q false ih = ih

  pub any_keep_none : (u s : A → Bool) (l : List A) → any_of u l ≡ false → any_of u (keep s l) ≡ false
  any_keep_none u s l n =
      any_keep u s l ∙ none_any (λ x. u x && s x) l (every_map (λ x k. and_left (u x) (s x) k) l (any_none u l n))

  -- one that passes both tests
  pub any_both : {P : A → Type 0} (t : A → Bool) (l : List A) → Every P l → any_of t l ≡ true → (u : A → Bool) → ((x : A) → P x → t x ≡ true → u x ≡ true) → any_of u l ≡ true
  unfolding any_of
  any_both t [] e h u f = h
  any_both {P} t (x ∷ xs) e h u f = go (t x) refl (u x) refl h (any_both t xs (tail e))
    where
      go : (a : Bool) → t x ≡ a → (b : Bool) → u x ≡ b → (a || any_of t xs) ≡ true → (any_of t xs ≡ true → (u : A → Bool) → ((x : A) → P x → t x ≡ true → u x ≡ true) → any_of u xs ≡ true) → (b || any_of u xs) ≡ true
      go a p true q h ih = refl
      go true p false q h ih = absurd (false≢true (sym q ∙ f x (head e) p))
      go false p false q h ih = ih h u f

  pub first_some : {P : A → Type 0} (t : A → Bool) (l : List A) (x : A) → Every P l → first t l ≡ some x → (t x ≡ true) × P x
  unfolding first
  first_some t [] x e h = let z : ◌≡◌ {A = ℕ} 0 1 = cc in absurd (omega arith)
  first_some {P} t (y ∷ ys) x e h = go (t y) refl h (first_some t ys x (tail e))
    where
      go : (b : Bool) → t y ≡ b → if_then b (some y) (first t ys) ≡ some x → (first t ys ≡ some x → (t x ≡ true) × P x) → (t x ≡ true) × P x
      go true q h ih = let s : y ≡ x = cc in (rw s at q, rw s at (head e))
      go false q h ih = ih h

  pub first_none : (t : A → Bool) (l : List A) → first t l ≡ none → any_of t l ≡ false
  unfolding first any_of
  first_none t [] h = refl
  first_none t (y ∷ ys) h = go (t y) h (first_none t ys)
    where
      go : (b : Bool) → if_then b (some y) (first t ys) ≡ none → (first t ys ≡ none → any_of t ys ≡ false) → (b || any_of t ys) ≡ false
      go true h ih = let z : ◌≡◌ {A = ℕ} 0 1 = cc in absurd (omega arith)
      go false h ih = ih h

  pub none_first : (t : A → Bool) (l : List A) → any_of t l ≡ false → first t l ≡ none
  unfolding first any_of
  none_first t [] h = refl
  none_first t (y ∷ ys) h = let b = or_false (t y) (any_of t ys) h in rw b.0 (none_first t ys b.1)

  -- an element that passes a test is one that does
  pub every_self : (l : List A) → Every (λ x. (u : A → Bool) → u x ≡ true → any_of u l ≡ true) l
  unfolding any_of
  every_self [] = done
  every_self (x ∷ xs) = more {x = x} (λ u h. rw h) (every_map (λ y f u h. or_right (u x) (any_of u xs) (f u h)) xs (every_self xs))

  -- the one that is found passes another test too
  pub first_any : (t u : A → Bool) (l : List A) (x : A) → first t l ≡ some x → u x ≡ true → any_of u l ≡ true
  unfolding first any_of
  first_any t u [] x h k = let z : ◌≡◌ {A = ℕ} 0 1 = cc in absurd (omega arith)
  first_any t u (y ∷ ys) x h k = go (t y) h (first_any t u ys x)
    where
      go : (b : Bool) → if_then b (some y) (first t ys) ≡ some x → (first t ys ≡ some x → u x ≡ true → any_of u ys ≡ true) → (u y || any_of u ys) ≡ true
      go true h ih = let z : y ≡ x = cc in rw (z, k)
      go false h ih = or_right (u y) (any_of u ys) (ih h k)

  pub some_any : (t : A → Bool) (l : List A) (x : A) → first t l ≡ some x → any_of t l ≡ true
  unfolding first any_of
  some_any t [] x h = let z : ◌≡◌ {A = ℕ} 0 1 = cc in absurd (omega arith)
  some_any t (y ∷ ys) x h = go (t y) h (some_any t ys x)
    where
      go : (b : Bool) → if_then b (some y) (first t ys) ≡ some x → (first t ys ≡ some x → any_of t ys ≡ true) → (b || any_of t ys) ≡ true
      go true h ih = refl
      go false h ih = ih h
