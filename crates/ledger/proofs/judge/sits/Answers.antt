use Rattle.ledger.proofs.Judging.{sits_next}
use Rattle.ledger.proofs.judge.sits.Goals as goal

pub loop-seat-preserved : goal.loop-seat-preserved
loop-seat-preserved c =
    let l = c.loop-seat in
    sits_next c.args.slots c.args.seats.now c.args.page.0 l.seat-index l.found c.eq-found.result l.invariant c.loop-seat-test.true c.eq-found.ensures
