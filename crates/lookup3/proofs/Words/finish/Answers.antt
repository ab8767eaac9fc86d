use Rattle.std.proofs.Common.{rules}
use Rattle.lookup3.specs.Hash.{final}
use Rattle.lookup3.proofs.Words.finish.Goals as goal

pub returns : goal.returns
unfolding final
returns c = search rules
