use mathlib.Core.Path.{◌≡◌}
use Rattle.ledger.proofs.Indexing.{index_up_to}
use Rattle.ledger.proofs.index.write_index.Given as goal

abbrev pub invariant-loop-i : goal.invariant-loop-i
invariant-loop-i l = l.side ≡ index_up_to l.s l.n l.initial.side l.i
