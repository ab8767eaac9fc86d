-- What holds of every element holds of the one that stands in a place. Assumes nothing.
use Prim.Native.Nat.{ℕ}
use mathlib.Core.List.{List, ◌∷◌}
use mathlib.Core.Path.{◌≡◌, subst}
use lib.ListN.{drop}
use Rattle.lists.specs.laws.Maps.{every_drop}
use Rattle.lists.specs.laws.Scans.{head}
use Rattle.lists.specs.Scans.{Every}

pub every_at : {A : Type 0} {P : A → Type 0} (l : List A) (i : ℕ) {x : A} {r : List A} → Every P l → drop i l ≡ x ∷ r → P x
every_at {P = P} l i a d = head (subst (Every P) d (every_drop i l a))
