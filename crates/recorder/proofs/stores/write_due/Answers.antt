use Rattle.std.proofs.Common.{refl, arith}
use Rattle.recorder.proofs.Copying.{page_in}
use Rattle.recorder.proofs.stores.write_due.Goals as goal

pub copy-requires : goal.copy-requires
copy-requires c =
    let a = c.args in
    let fits =
    page_in a.state.now a.buffer.now _ _ c.held-page.ensures c.loop-i.base a.n a.ledger.now c.loop-i.i _ refl c.entry_at-e.ensures c.loop-i-test.true c.requires.4
    (omega (arith, c.requires.3, c.loop-i.auto.base)) in
    (omega arith, omega (arith, fits))
