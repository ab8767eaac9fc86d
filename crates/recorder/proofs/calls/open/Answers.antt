use Rattle.std.proofs.Common.{rules, ◌≡◌, arith}
use Rattle.std.specs.Prelude.{Err}
use Rattle.recorder.specs.Outcome.{lent}
use Rattle.recorder.specs.World.{zero_state}
use Rattle.recorder.proofs.Accepted.{Opening, opening}
use Rattle.recorder.proofs.Replied.{open_refused, open_done}
use Rattle.recorder.proofs.calls.open.Goals as goal
use Rattle.recorder.proofs.calls.open.Goals.{In_ok-opens}

-- what the lent slices have once the tests have passed
passed : (c : In_ok-opens)
    → Opening c.args.settings c.args.end c.args.tick.0 (lent zero_state c.args.ledger.now c.args.base.now c.args.side.now c.args.buffer.now c.args.kinds.now)
passed c = opening _ _ _ _ c.in_ok-opens.ensures

pub returns-in_err-opens : goal.returns-in_err-opens
returns-in_err-opens c =
    let refused : c.from_residual.result ≡ Err c.in_err-opens.field-0.0 = search rules in
    rw refused (open_refused _ _ _ _ _ c.in_err-opens.ensures)

pub ledger_length-requires : goal.ledger_length-requires
ledger_length-requires c = (passed (goal.at.ledger_length-requires c).In_ok-opens).asked.limited

pub clear-requires : goal.clear-requires
clear-requires c = omega (arith, c.ledger_length.ensures.0, (passed (goal.at.clear-requires c).In_ok-opens).asked.ledger_long)

pub write_empty-requires : goal.write_empty-requires
write_empty-requires c =
    let o = passed (goal.at.write_empty-requires c).In_ok-opens in
    (o.asked.limited, o.index_long)

pub returns : goal.returns
returns c =
    open_done _ _ _ _ (passed (goal.at.returns c).In_ok-opens) _ c.first.ensures _ c.ledger_length.ensures.0 _ c.clear.ensures _ c.write_empty.ensures
