-- The slices that a read may hand out a part of, as numbers: 0 the base, 1 the side file.
use Rattle.std.specs.Prelude.{ℕ}
use Rattle.desk.specs.declared.Source.{Source}
use Rattle.desk.specs.declared.Source.TheVariants as Slice

abbrev pub number : Source → ℕ
number Slice.Base = 0
number Slice.Side = 1
