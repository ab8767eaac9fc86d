-- Flags beside a list, one to an element from the first on: the elements whose flag is set, and the others. A missing flag is
-- not set. Flags that say what a test says pick what the test keeps. Assumes nothing.
use Rattle.std.specs.Prelude.{suc, ◌≤◌, ◌≡◌, Bool, take, get_or}
use Rattle.std.proofs.Math.Path.{refl, ap}
use Rattle.std.proofs.Math.Bool.{true, false, not}
use mathlib.Core.List.{List, [], ◌∷◌, ◌++◌, map}
use native.Mathlib.Omega.{arith}
use Rattle.std.proofs.Math.ListN.{length}
use Rattle.lists.specs.Bools.{if_then}
use Rattle.lists.specs.Scans.{keep}

module _ {A : Type 0} where
  unfoldable pub picked : List Bool → List A → List A
  picked fs [] = []
  picked [] (x ∷ xs) = []
  picked (f ∷ fs) (x ∷ xs) = if_then f (x ∷ picked fs xs) (picked fs xs)

  unfoldable pub others : List Bool → List A → List A
  others fs [] = []
  others [] (x ∷ xs) = x ∷ xs
  others (f ∷ fs) (x ∷ xs) = if_then f (others fs xs) (x ∷ others fs xs)

  -- one element more, by its flag
  pub picked_snoc : (fs : List Bool) (l : List A) (x : A) → picked fs (l ++ (x ∷ [])) ≡ picked fs l ++ if_then (get_or fs (length l) false) (x ∷ []) []
  unfolding picked
  picked_snoc [] [] x = refl
  picked_snoc (true ∷ fs) [] x = refl
  picked_snoc (false ∷ fs) [] x = refl
  picked_snoc [] (y ∷ l) x = refl
  picked_snoc (true ∷ fs) (y ∷ l) x = ap (λ (r : List A). y ∷ r) (picked_snoc fs l x)
  picked_snoc (false ∷ fs) (y ∷ l) x = picked_snoc fs l x

  pub others_snoc : (fs : List Bool) (l : List A) (x : A) → others fs (l ++ (x ∷ [])) ≡ others fs l ++ if_then (get_or fs (length l) false) [] (x ∷ [])
  unfolding others
  others_snoc [] [] x = refl
  others_snoc (true ∷ fs) [] x = refl
  others_snoc (false ∷ fs) [] x = refl
  others_snoc [] (y ∷ l) x = refl
  others_snoc (true ∷ fs) (y ∷ l) x = others_snoc fs l x
  others_snoc (false ∷ fs) (y ∷ l) x = ap (λ (r : List A). y ∷ r) (others_snoc fs l x)

  pub length_others : (fs : List Bool) (l : List A) → length (others fs l) ≤ length l
  unfolding others
  length_others fs [] = omega arith
  length_others [] (x ∷ xs) = omega arith
  length_others (true ∷ fs) (x ∷ xs) = omega (arith, length_others fs xs)
  length_others (false ∷ fs) (x ∷ xs) = omega (arith, length_others fs xs)

  -- flags that say what a test says
  module _ (t : A → Bool) where
    pub picked_keep : (fs : List Bool) (l : List A) → take (length l) fs ≡ map t l → picked fs l ≡ keep t l
    unfolding picked keep
    picked_keep fs [] e = refl
    picked_keep [] (x ∷ xs) e = absurd (omega (arith, ap length e))
    picked_keep (f ∷ fs) (x ∷ xs) e =
        let h : f ≡ t x = cc in
        rw h (ap (λ (r : List A). if_then (t x) (x ∷ r) r) (picked_keep fs xs (cc)))

    pub others_keep : (fs : List Bool) (l : List A) → take (length l) fs ≡ map t l → others fs l ≡ keep (λ x. not (t x)) l
    unfolding others keep
    others_keep fs [] e = refl
    others_keep [] (x ∷ xs) e = absurd (omega (arith, ap length e))
    others_keep (f ∷ fs) (x ∷ xs) e =
        let h : f ≡ t x = cc in
        rw h (go (t x) (others_keep fs xs (cc)))
      where
        go : (b : Bool) → others fs xs ≡ keep (λ x. not (t x)) xs → if_then b (others fs xs) (x ∷ others fs xs) ≡ if_then (not b) (x ∷ keep (λ x. not (t x)) xs) (keep (λ x. not (t x)) xs)
        go true ih = ih
        go false ih = ap (λ (r : List A). x ∷ r) ih

-- how many there are does not depend on what they are
pub others_count : {A B : Type 0} (fs : List Bool) (l : List A) (k : List B) → length l ≡ length k → length (others fs l) ≡ length (others fs k)
unfolding others
others_count fs [] [] e = refl
others_count fs [] (y ∷ k) e = absurd (omega arith)
others_count fs (x ∷ l) [] e = absurd (omega arith)
others_count [] (x ∷ l) (y ∷ k) e = e
others_count (true ∷ fs) (x ∷ l) (y ∷ k) e = others_count fs l k (omega arith)
others_count (false ∷ fs) (x ∷ l) (y ∷ k) e = ap suc (others_count fs l k (omega arith))
