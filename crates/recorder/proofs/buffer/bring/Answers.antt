use Rattle.std.proofs.Common.{arith, ℕ, ◌*◌, ◌∙◌, ap}
use Rattle.octets.specs.Part.{part, lay}
use Rattle.octets.specs.Rows.{row}
use Rattle.recorder.proofs.buffer.bring.Goals as goal

pub returns-in-Taken : goal.returns-in-Taken
unfolding row
returns-in-Taken c =
    let a = c.args in
    c.copy.ensures
    ∙ rw c.in-Taken.is (ap (λ (at : ℕ). lay a.buffer.now (c.in-Taken.seat.slot * a.size) (part a.base.now at a.size)) (omega arith))
