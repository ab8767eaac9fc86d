use Rattle.std.proofs.Common.{arith}
use Rattle.std.proofs.Math.ListN.{length-set}
use Rattle.recorder.proofs.Copying.{images_next, sums_next}
use Rattle.recorder.proofs.stores.write_images.Goals as goal

pub loop-j-preserved : goal.loop-j-preserved
loop-j-preserved c =
    let l = c.loop-j in
    let p = c.args.plan.now in (
      simp length-set l.invariant.0,
      sums_next _ p.pages l.sums l.j _ l.invariant.1 (omega (arith, l.invariant.0, c.requires.3)) (omega (arith, c.requires.3)) _ c.held-image.ensures c.checksum.ensures,
      images_next _ p.pages p.places l.j c.args.side.now _ _ l.invariant.2 _ c.image_at.ensures.0 _ c.held-image.ensures c.copy.ensures,
    )
