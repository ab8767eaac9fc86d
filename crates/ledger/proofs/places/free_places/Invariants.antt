use Prim.Native.Nat.{◌≤◌}
use mathlib.Core.Path.{◌≡◌}
use lib.ListN.{length}
use Rattle.units.specs.Sizes as Sizes
use Rattle.ledger.specs.Entries.{is_reusable}
use Rattle.ledger.specs.View.{entries_in}
use Rattle.ledger.proofs.Giving.{Found}
use Rattle.ledger.proofs.places.free_places.Given as goal

abbrev pub invariant-loop-q : goal.invariant-loop-q
invariant-loop-q l =
    (l.count ≤ l.wanted)
    × (length l.places ≡ 16)
    × Found (is_reusable l.settings (Sizes.wait l.settings) l.tick (entries_in l.n l.s) l.s) l.m l.wanted l.places l.count l.q
