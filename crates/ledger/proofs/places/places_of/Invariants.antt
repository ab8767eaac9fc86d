use mathlib.Core.Path.{◌≡◌}
use lib.ListN.{take}
use Rattle.octets.specs.inner.Flags.{flags}
use Rattle.ledger.specs.inner.Flagged.{picked}
use Rattle.ledger.specs.inner.Tables.{held_by}
use Rattle.ledger.specs.View.{entries_in}
use Rattle.ledger.proofs.places.places_of.Given as goal

abbrev pub invariant-loop-i : goal.invariant-loop-i
invariant-loop-i l = flags l.held ≡ held_by (picked (flags l.marked) (take l.i (entries_in l.n l.s)))
