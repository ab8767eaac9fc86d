use Rattle.std.proofs.Common.{◌≡◌, drop}
use Rattle.octets.specs.inner.Flags.{flags}
use Rattle.sidefile.specs.inner.Table.{places_fit}
use Rattle.sidefile.specs.inner.Tables.{entries_in}
use Rattle.sidefile.proofs.Scans.{fresh}
use Rattle.sidefile.proofs.table.Table.places_apart.Given as goal

abbrev pub invariant-loop-i : goal.invariant-loop-i
invariant-loop-i l = places_fit l.most (entries_in l.self) ≡ fresh l.most (flags l.met) (drop l.i (entries_in l.self))
