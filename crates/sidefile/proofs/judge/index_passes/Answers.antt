use Rattle.std.proofs.Common.{rules, tests}
use Rattle.sidefile.specs.Encode.{checksum}
use Rattle.octets.specs.Part.{part}
use Rattle.sidefile.proofs.Index.{judged}
use Rattle.sidefile.proofs.judge.index_passes.Goals as goal

pub returns-then-zeros : goal.returns-then-zeros
unfolding checksum part
returns-then-zeros c =
    let j = judged c.header_of-header.result c.args.s.now c.index-index.result c.header_of-header.ensures c.index-index.ensures in
    rw j (search (rules, tests))

pub returns-else-zeros : goal.returns-else-zeros
returns-else-zeros c =
    let j = judged c.header_of-header.result c.args.s.now c.index-index.result c.header_of-header.ensures c.index-index.ensures in
    rw j (search (rules, tests))
