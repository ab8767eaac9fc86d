use Rattle.std.proofs.Common.{◌≡◌, drop}
use Rattle.ledger.specs.View.{entries_in}
use Rattle.recorder.specs.inner.Copies.{shown, due_laid}
use Rattle.recorder.proofs.stores.write_due.Given as goal

abbrev pub invariant-loop-i : goal.invariant-loop-i
invariant-loop-i l =
    due_laid (shown l.state.settings l.state.slots.pages l.buffer) l.tick (drop l.i (entries_in l.n l.ledger)) l.base
    ≡ due_laid (shown l.state.settings l.state.slots.pages l.buffer) l.tick (entries_in l.n l.ledger) l.initial.base
