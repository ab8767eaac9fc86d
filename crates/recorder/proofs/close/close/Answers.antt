use Rattle.std.proofs.lemmas.Result.{err_from_is_err_and}
use Rattle.recorder.specs.Outcome.{lent}
use Rattle.recorder.specs.World.{World}
use Rattle.recorder.proofs.Ending.{bare, can_close, ended_done, ended_refused}
use Rattle.recorder.proofs.close.close.Goals as goal
use Rattle.recorder.proofs.close.close.Goals.{Start}

-- the world that is closed
abbrev world : Start → World
world c = let a = c.args in lent a.state.now a.ledger.now a.base.now a.side.now a.buffer.now a.kinds.now

pub closing-requires : goal.closing-requires
closing-requires c =
    let w = world (goal.at.closing-requires c).Start in
    (bare w, can_close w c.in_ok-closes.ensures)

pub returns-in_err-entries : goal.returns-in_err-entries
returns-in_err-entries c =
    let w = world (goal.at.returns-in_err-entries c).Start in
    let e = err_from_is_err_and c.from_residual-in_err-entries.result c.from_residual-in_err-entries.ensures.1 in
    rw e.1 (rw e.2 (ended_refused w c.in_ok-closes.ensures _ _ _ _ (c.in_err-entries.ensures (bare w) (can_close w c.in_ok-closes.ensures))))

pub returns : goal.returns
returns c =
    let w = world (goal.at.returns c).Start in
    rw c.unmark-state.ensures
    (ended_done w c.in_ok-closes.ensures _ _ _ _ (c.in_ok-entries.ensures (bare w) (can_close w c.in_ok-closes.ensures)))
