-- The lines of the first i entries.
use Rattle.std.proofs.Common.{◌*◌, take}
use Rattle.sidefile.specs.inner.Tables.{entries_in}
use Rattle.listing.specs.Text.{entry_lines}
use Rattle.listing.specs.inner.Written.{Adds}
use Rattle.listing.proofs.text.Text.entries.Given as goal

abbrev pub invariant-loop-i : goal.invariant-loop-i
invariant-loop-i l = Adds l.initial.self (entry_lines (take l.i (entries_in l.index))) (l.i * 33) l.self
