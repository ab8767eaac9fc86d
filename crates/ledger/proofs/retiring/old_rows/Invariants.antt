use mathlib.Core.Path.{◌≡◌}
use Rattle.octets.specs.inner.Flags.{flags}
use Rattle.ledger.specs.inner.Changed.{is_old}
use Rattle.ledger.proofs.Flagging.{flagged_up_to}
use Rattle.ledger.proofs.retiring.old_rows.Given as goal

abbrev pub invariant-loop-i : goal.invariant-loop-i
invariant-loop-i l = flags l.old ≡ flagged_up_to (is_old l.wait l.tick) 144 l.n l.s l.i
