-- Scans of a list: the elements that pass a test, whether some or all do, the first that does; facts that hold of every
-- element, so that membership is never needed.
use Rattle.std.specs.Prelude.{List, [], ◌∷◌, Bool, true, false, ◌&&◌, ◌||◌}
use Rattle.std.proofs.Math.Option.{Option, some, none}
use Rattle.lists.specs.Bools.{if_then}

-- P holds of every element
pub data Every {A : Type 0} (P : A → Type 0) : List A → Type 0 where
  done : Every P []
  more : {x : A} {xs : List A} → P x → Every P xs → Every P (x ∷ xs)

module _ {A : Type 0} where
  -- the elements that pass
  unfoldable pub keep : (A → Bool) → List A → List A
  keep t [] = []
  keep t (x ∷ xs) = if_then (t x) (x ∷ keep t xs) (keep t xs)

  unfoldable pub any_of : (A → Bool) → List A → Bool
  any_of t [] = false
  any_of t (x ∷ xs) = t x || any_of t xs

  unfoldable pub all_of : (A → Bool) → List A → Bool
  all_of t [] = true
  all_of t (x ∷ xs) = t x && all_of t xs

  unfoldable pub first : (A → Bool) → List A → Option A
  first t [] = none
  first t (x ∷ xs) = if_then (t x) (some x) (first t xs)
