-- What is kept is that of the bytes that came so far. The measure is how many the count still lets come.
use Rattle.std.proofs.Common.{◌≡◌, ◌+◌, ◌-◌, ◌<◌, length}
use Rattle.sidelist.proofs.Keeping.{Taken}
use Rattle.sidelist.proofs.read_all.Given as goal

abbrev pub invariant-loop-total : goal.invariant-loop-total
invariant-loop-total g l = record {
  long : length l.chunk ≡ 65536;
  within : l.total < 0x7fff_ffff_ffff_0000 + 65536;
  so_far : Taken (g.R.Read.remaining l.initial.from) (g.R.Read.remaining l.from) l.initial.kept l.kept l.total;
}

abbrev pub decreases-loop-total : goal.decreases-loop-total
decreases-loop-total g l = 0x7fff_ffff_ffff_0000 + 65536 - l.total
