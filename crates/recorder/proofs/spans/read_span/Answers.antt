use Rattle.std.proofs.Common.{◌+◌, ◌*◌, length, ◌∙◌}
use Rattle.octets.specs.Part.{part}
use Rattle.octets.specs.laws.Part.{lay_whole, length_part}
use Rattle.recorder.proofs.spans.read_span.Goals as goal

-- a slice filled from end to end
pub returns : goal.returns
returns c =
    let a = c.args in
    let at = a.k * a.size + a.offset in
    let n = length a.into.now in
    c.copy.ensures ∙ lay_whole a.into.now (part a.from.now at n) (length_part a.from.now at n c.requires)
