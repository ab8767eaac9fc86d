use mathlib.Core.Path.{◌≡◌}
use mathlib.Core.List.{map}
use lib.ListN.{take, drop}
use Rattle.octets.specs.inner.Flags.{flags}
use Rattle.units.specs.Sizes.{entry_row}
use Rattle.sidefile.specs.inner.Table.{entries_at, places_fit}
use Rattle.sidefile.proofs.Scans.{fresh}
use Rattle.ledger.specs.inner.Tables.{held_by}
use Rattle.ledger.specs.View.{indexed, entries_in}
use Rattle.ledger.proofs.places.held_places.Given as goal

abbrev pub invariant-loop-i : goal.invariant-loop-i
invariant-loop-i l =
    (places_fit l.most (map indexed (entries_in l.n l.s)) ≡ fresh l.most (flags l.held) (drop l.i (entries_at 0 entry_row l.n l.s)))
    × (flags l.held ≡ held_by (take l.i (entries_in l.n l.s)))
