use Rattle.std.proofs.Common.{length}
use Rattle.lookup3.specs.Hash.{hashlittle}
use Rattle.lookup3.proofs.Turns.{Gives}
use Rattle.lookup3.proofs.hashlittle.Given as goal

abbrev pub invariant-loop-left : goal.invariant-loop-left
invariant-loop-left l = Gives l.words l.left (hashlittle l.bytes l.start)

abbrev pub decreases-loop-left : goal.decreases-loop-left
decreases-loop-left l = length l.left
