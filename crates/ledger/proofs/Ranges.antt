-- The library's ranges are our numbers in a row, and its test of all of them is ours. Assumes nothing.
use Prim.Native.Nat.{ℕ, zero, suc}
use mathlib.Core.Path.{◌≡◌, refl, ap}
use mathlib.Core.Bool.{Bool, ◌&&◌}
use mathlib.Core.List.{List, [], ◌∷◌}
use native.Mathlib.Numerals.{add-one}
use Rattle.std.specs.List.{list_all, range_with_len}
use Rattle.lists.specs.Below.{from, below}
use Rattle.lists.specs.Scans.{all_of}

range_from : (a n : ℕ) → range_with_len a n ≡ from a n
unfolding from
range_from a zero = refl
range_from a (suc n) = rw (add-one a) (ap (λ (l : List ℕ). a ∷ l) (range_from (suc a) n))

pub range_below : (n : ℕ) → range_with_len 0 n ≡ below n
range_below n = range_from 0 n

pub all_pass : {A : Type 0} (t : A → Bool) (l : List A) → list_all t l ≡ all_of t l
unfolding all_of
all_pass t [] = refl
all_pass t (x ∷ l) = ap (λ (b : Bool). t x && b) (all_pass t l)
