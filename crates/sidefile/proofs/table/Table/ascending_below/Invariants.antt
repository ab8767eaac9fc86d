use Rattle.std.proofs.Common.{◌≡◌, drop}
use Rattle.sidefile.specs.inner.Table.{pages_fit}
use Rattle.sidefile.specs.inner.Tables.{entries_in}
use Rattle.sidefile.proofs.Scans.{rising}
use Rattle.sidefile.proofs.table.Table.ascending_below.Given as goal

abbrev pub invariant-loop-i : goal.invariant-loop-i
invariant-loop-i l = pages_fit l.end (entries_in l.self) ≡ rising l.end l.low (drop l.i (entries_in l.self))
