use Rattle.std.proofs.Common.{arith, length, ◌∙◌}
use lib.Seq.{take_all}
use Rattle.octets.specs.laws.Part.{part_zero}
use Rattle.recorder.proofs.spans.write_span.Goals as goal

pub returns : goal.returns
returns c =
    let bs = c.args.bytes.now in
    c.copy.ensures ∙ rw (part_zero bs (length bs), take_all (length bs) bs (omega arith))
