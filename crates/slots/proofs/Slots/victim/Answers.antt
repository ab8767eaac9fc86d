use Rattle.std.proofs.Common.{arith, ◌∙◌, sym, []}
use Rattle.slots.specs.inner.Lent.{table_of}
use Rattle.slots.specs.laws.Sits.{slot_found}
use Rattle.slots.proofs.Turns.{victim_start, victim_end, victim_next}
use Rattle.slots.proofs.Slots.victim.Goals as goal
use Rattle.slots.proofs.Slots.victim.Goals.{in-Some+else-not-mask-i, in_default}

pub loop-page-init : goal.loop-page-init
loop-page-init c = victim_start c.args.slots c.args.mask c.args.self

pub bounds-mask-i : goal.bounds-mask-i
bounds-mask-i c = omega (arith, (slot_found c.args.slots (table_of c.args.self.pages []) _ c.in-Some.i (sym c.in-Some.ensures)).0)

pub loop-page-preserved : goal.loop-page-preserved
loop-page-preserved c =
    let a = c.args in
    c.loop-page.invariant
    ∙ victim_next a.slots a.mask a.self c.loop-page.page-index c.loop-page-test.true
    ∙ elim c.match-slot_in.branch [ in-Some+else-not-mask-i w ↦ rw (sym w.in-Some.ensures) (rw w.if-not-mask-i.false) | in_default w ↦ rw (sym w.in_default.ensures) ]

pub returns-then-not-mask-i : goal.returns-then-not-mask-i
returns-then-not-mask-i c =
    let a = c.args in
    sym (c.loop-page.invariant
    ∙ victim_next a.slots a.mask a.self c.loop-page.page-index c.loop-page-test.true ∙ rw (sym c.in-Some.ensures) (rw c.if-not-mask-i.true))

pub returns-after-loop-page : goal.returns-after-loop-page
returns-after-loop-page c = sym (c.loop-page.invariant ∙ victim_end c.args.slots c.args.mask c.args.self c.loop-page.page-index c.loop-page-test.false)
