-- What refresh and read ask alike: 3 of the held buffer, 12 and 13 of the two headers together. Between the two stand the
-- tests of the side file by itself, whole for a refresh, header and length for a read; behind them what either asks alone.
use Rattle.std.specs.Prelude.{List, [], ◌∷◌, ◌++◌, ℕ}
use Rattle.units.specs.Refusals as Refusals
use Rattle.units.specs.Tests.{Test, passes}
use Rattle.sidefile.specs.Encode.{header_of}
use Rattle.sidefile.specs.Judge.{held_tests}
use Rattle.sidefile.specs.declared.Header.{Header}
use Rattle.desk.specs.Take.{same_settings, within_lag}

unfoldable pub kept_tests : List ℕ → List Test
kept_tests held = (Refusals.state, passes (held_tests held)) ∷ []

unfoldable pub pair_tests : Header → Header → List Test
pair_tests held side = (Refusals.damaged, same_settings held.settings side.settings) ∷ (Refusals.lag, within_lag held side) ∷ []

abbrev pub follow_tests : List ℕ → List ℕ → List Test → List Test → List Test
follow_tests held side judged last = kept_tests held ++ (judged ++ (pair_tests (header_of held) (header_of side) ++ last))
