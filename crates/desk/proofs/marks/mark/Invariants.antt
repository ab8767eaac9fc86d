use mathlib.Core.Path.{◌≡◌}
use lib.ListN.{drop}
use Rattle.sidefile.specs.inner.Tables.{entries_in}
use Rattle.desk.proofs.Raised.{raised}
use Rattle.desk.proofs.marks.mark.Given as goal

abbrev pub invariant-loop-i : goal.invariant-loop-i
invariant-loop-i l = raised l.held (entries_in l.index) l.initial.marks ≡ raised l.held (drop l.i (entries_in l.index)) l.marks
