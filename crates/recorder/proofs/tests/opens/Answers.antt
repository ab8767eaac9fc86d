use Rattle.std.proofs.Common.{arith, length-take, sym, ◌≤◌, length}
use Rattle.recorder.proofs.Judging.{long_kinds}
use Rattle.recorder.proofs.tests.opens.Goals as goal

pub slice_bounds-kinds_known-end : goal.slice_bounds-kinds_known-end
slice_bounds-kinds_known-end c =
    let a = c.args in
    let long : a.settings.capacity ≤ length a.files.now.kinds.now = long_kinds _ _ _ _ _ _ _ (sym c.if-not-long_enough.ensures) in
    omega (arith, length-take a.end a.files.now.kinds.now)
