use Rattle.std.proofs.Common.{rules, arith}
use Rattle.octets.specs.Number.{Octets}
use Rattle.recorder.specs.inner.Carried.{Carries}
use Rattle.recorder.specs.inner.Handed.{handed, filed}
use Rattle.recorder.specs.World.{World}
use Rattle.recorder.proofs.Carrying.{Anew, limited, rows_few, places_below, can_settle, can_put, put_anew, few_after, fits_after, long_after, pages_after, front_in, carried}
use Rattle.recorder.proofs.close.carry_out.Goals as goal
use Rattle.recorder.proofs.close.carry_out.Goals.{After-put_all-n}

-- the world that is closed, and what is known once its ledger is renewed
abbrev world : After-put_all-n → World → World
world c w = let a = c.args in let s = a.state.now in filed a.base.now a.side.now a.buffer.now (handed s.settings s.end s.entries s.slots.pages a.ledger.now w)

anew : (c : After-put_all-n) (w : World) → Carries (world c w) c.args.tick c.args.plan.now
    → Anew (world c w) c.args.tick c.args.plan.now c.write_images-sums.result c.put_all-n.result c.put_all-n.new.s
unfolding Octets
anew c w k =
    put_anew (record { carries = k; octets = search rules; made = c.write_images-sums.ensures.0 })
    (record { count = c.settle-kept.ensures.0; bytes = c.settle-kept.ensures.1 })
    _ c.put_all-n.ensures.0 _ c.put_all-n.ensures.1

pub settle-kept-requires : goal.settle-kept-requires
settle-kept-requires c = (can_settle c.requires.1, omega (arith, rows_few c.requires.1))

pub write_images-sums-requires : goal.write_images-sums-requires
write_images-sums-requires c =
    let k = c.requires.1 in
    (limited k, k.closes.buffer_long, k.closes.side_long, k.planned.most, places_below k)

pub put_all-n-requires : goal.put_all-n-requires
unfolding Octets
put_all-n-requires c =
    can_put (record { carries = c.requires.1; octets = search rules; made = c.write_images-sums.ensures.0 })
    (record { count = c.settle-kept.ensures.0; bytes = c.settle-kept.ensures.1 })

pub write_due-requires : goal.write_due-requires
write_due-requires c =
    let k = c.requires.1 in
    let r = anew (goal.at.write_due-requires c).After-put_all-n c.requires.0 k in
    (limited k, long_after r, k.closes.buffer_long, k.closes.base_long, pages_after r)

pub write_front-requires : goal.write_front-requires
write_front-requires c =
    let r = anew (goal.at.write_front-requires c).After-put_all-n c.requires.0 c.requires.1 in
    (limited c.requires.1, few_after r, long_after r, front_in r c.write_images-sums.new.side c.write_images-sums.auto.side)

pub overflow_cast-result : goal.overflow_cast-result
overflow_cast-result c =
    omega (arith, fits_after (anew (goal.at.overflow_cast-result c).After-put_all-n c.requires.0 c.requires.1))

pub returns : goal.returns
returns c w k =
    carried (anew (goal.at.returns c).After-put_all-n w k) _ c.write_due.ensures _ c.write_images-sums.ensures.1 _ c.write_front.ensures
