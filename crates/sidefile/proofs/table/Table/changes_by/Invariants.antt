use Rattle.std.proofs.Common.{◌≡◌, drop}
use Rattle.sidefile.specs.inner.Table.{changes_fit}
use Rattle.sidefile.specs.inner.Tables.{entries_in}
use Rattle.sidefile.proofs.table.Table.changes_by.Given as goal

abbrev pub invariant-loop-i : goal.invariant-loop-i
invariant-loop-i l = changes_fit l.tick (entries_in l.self) ≡ changes_fit l.tick (drop l.i (entries_in l.self))
