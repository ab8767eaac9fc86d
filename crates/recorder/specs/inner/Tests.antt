-- What a call asks before it looks for a slot or a place: the tests that one function judges, read and write but for 7, grow but
-- for 7, close but for 10.
use Rattle.std.specs.Prelude.{ℕ, List, ◌++◌, take}
use Rattle.units.specs.Tests.{Test}
use Rattle.recorder.specs.Calls.{span_tests, grow_tests}
use Rattle.recorder.specs.Close.{close_tests}
use Rattle.recorder.specs.Rules.{standing}
use Rattle.recorder.specs.Outcome.{lent}
use Rattle.recorder.specs.World.{World}
use Rattle.recorder.specs.declared.Files.{Files}
use Rattle.recorder.specs.declared.State.{State}

-- the world of a state and the lent slices
abbrev pub among : Files → State → World
among f s = lent s f.ledger.now f.base.now f.side.now f.buffer.now f.kinds.now

-- the first of the tests of a close
unfoldable pub last_tick : World → List Test
last_tick w = take 1 (close_tests w)

abbrev pub access_tests : World → ℕ → ℕ → ℕ → List Test
access_tests w p offset n = standing w ++ span_tests w p offset n

abbrev pub growth_tests : World → ℕ → List Test
growth_tests w kind = standing w ++ grow_tests w kind

abbrev pub early_tests : World → List Test
early_tests w = standing w ++ last_tick w
