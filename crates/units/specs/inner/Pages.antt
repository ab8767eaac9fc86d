-- Pages in an array, as a struct has them: the first n of it count. Assumes nothing.
use Rattle.std.specs.Prelude.{ℕ, List, map, take}
use Rattle.units.specs.declared.Page.{Page}

-- the numbers of the first n pages of an array
abbrev pub numbers_of : ℕ → List Page → List ℕ
numbers_of n l = map (λ p. p.0) (take n l)
