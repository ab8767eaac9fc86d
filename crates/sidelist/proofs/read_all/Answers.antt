use Rattle.std.proofs.Common.{◌∙◌, refl, arith, take}
use Rattle.sidelist.proofs.Keeping.{taken_none, taken_more}
use Rattle.sidelist.proofs.read_all.Goals as goal

pub loop-total-init : goal.loop-total-init
loop-total-init g c = record { long = refl; within = omega arith; so_far = taken_none _ _ }

pub loop-total-preserved : goal.loop-total-preserved
loop-total-preserved g c =
    let l = c.loop-total in
    let ys = take c.in_ok-n.n c.read_some.new.chunk in
    let came = c.in_ok-n.ensures.came in
    let k = c.keep-total.ensures in
    record {
      long = c.read_some.auto.chunk ∙ l.invariant.long;
      within = omega (arith, k.1, came.0, came.1, c.read_some.auto.chunk, l.invariant.long, c.loop-total-test.true);
      so_far = taken_more _ _ _ _ l.kept _ ys l.total _ l.invariant.so_far c.in_ok-n.ensures.known.0 k.0 k.1;
    }
