use Rattle.std.proofs.Common.{◌≡◌, false, get_or}
use Rattle.slots.specs.Table.{victim}
use Rattle.slots.proofs.Turns.{victim_from}
use Rattle.slots.proofs.Slots.victim.Given as goal

abbrev pub invariant-loop-page : goal.invariant-loop-page
invariant-loop-page l = victim l.slots (λ i. get_or l.mask i false) l.fn.self ≡ victim_from l.slots l.mask l.fn.self l.page-index
