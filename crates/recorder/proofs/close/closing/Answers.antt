use Rattle.std.proofs.Common.{refl, ◌∙◌, sym}
use Rattle.std.proofs.lemmas.Result.{err_from_is_err_and}
use Rattle.recorder.specs.inner.Carried.{Closes}
use Rattle.recorder.specs.inner.Handed.{flagged, filed, seen}
use Rattle.recorder.specs.inner.Planned.{Plans}
use Rattle.recorder.specs.World.{World}
use Rattle.recorder.proofs.Bringing.{alone}
use Rattle.recorder.proofs.Planning.{same_suffices, plans_alone, planned_in}
use Rattle.recorder.proofs.close.closing.Goals as goal
use Rattle.recorder.proofs.close.closing.Goals.{Start}

-- a world that is closed
abbrev world : Start → World → World
world c w = let a = c.args in filed a.base.now a.side.now a.buffer.now (seen a.state.now a.ledger.now w)

-- the plan is one of it, without the files
alike : (c : Start) (w : World) → Closes (world c w) c.args.tick → Plans (alone (world c w)) c.args.tick
alike c w k = plans_alone (world c w) c.args.tick k.plans

pub fill-requires : goal.fill-requires
fill-requires c =
    let s = (goal.at.fill-requires c).Start in
    record { empty = c.empty-plan.ensures; plans = (alone (world s c.requires.0), alike s c.requires.0 c.requires.1) }

pub returns-in_err-fill : goal.returns-in_err-fill
returns-in_err-fill c v k =
    let s = (goal.at.returns-in_err-fill c).Start in
    let w = world s v in
    let e = err_from_is_err_and c.from_residual.result c.from_residual.ensures.1 in
    let f = (c.in_err-fill.ensures (alone w) (alike s v k)).0 in
    rw (e.1, e.2) (sym (same_suffices w) ∙ f.0, f.1, refl, refl, refl)

pub carry_out-requires : goal.carry_out-requires
carry_out-requires c =
    let s = (goal.at.carry_out-requires c).Start in
    let v = c.requires.0 in
    let k = c.requires.1 in
    let w = world s v in
    let f = c.in_ok-fill.ensures (alone w) (alike s v k) in
    (flagged s.args.state.now.slots.changed v, record { closes = k; enough = sym (same_suffices w) ∙ f.0; planned = planned_in w _ f.1 })

pub returns : goal.returns
returns c v k =
    let s = (goal.at.returns c).Start in
    let w = world s v in
    let f = c.in_ok-fill.ensures (alone w) (alike s v k) in
    let enough = sym (same_suffices w) ∙ f.0 in
    (enough, c.carry_out.ensures (flagged s.args.state.now.slots.changed v) (record { closes = k; enough = enough; planned = planned_in w _ f.1 }))
