use Rattle.std.proofs.Common.{◌≡◌, length}
use Rattle.units.specs.inner.Pages.{numbers_of}
use Rattle.slots.specs.Table.{set_order, times}
use Rattle.slots.specs.inner.Answers.{relisted}
use Rattle.slots.proofs.Listing.{moving}
use Rattle.slots.proofs.Slots.relist.Given as goal

abbrev pub invariant-loop-i : goal.invariant-loop-i
invariant-loop-i l =
    (length l.self.order ≡ 16)
    × (times l.gone.0 (numbers_of l.i l.self.order) ≡ 1)
    × (relisted l.gone.0 l.initial.carry.0 l.initial.self ≡ set_order (moving l.gone.0 l.i l.carry l.self.order) l.self.used l.self)
