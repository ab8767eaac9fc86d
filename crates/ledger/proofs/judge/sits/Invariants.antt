use mathlib.Core.Path.{◌≡◌}
use lib.Dec.{eqb}
use lib.ListN.{get_or}
use Rattle.lists.specs.Below.{below}
use Rattle.lists.specs.Scans.{any_of}
use Rattle.ledger.proofs.judge.sits.Given as goal

abbrev pub invariant-loop-seat : goal.invariant-loop-seat
invariant-loop-seat l = l.found ≡ any_of (λ k. eqb (get_or l.fn.seats k (record { 0 = 0 })).0 l.page.0) (below l.seat-index)
