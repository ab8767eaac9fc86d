use Rattle.std.proofs.Common.{sym, ◌∙◌}
use Rattle.recorder.proofs.Bringing.{ruled_within, slot_lent, chosen_hit, chosen_taken, chosen_none}
use Rattle.recorder.proofs.buffer.slot_for.Goals as goal

pub slot_in-requires : goal.slot_in-requires
slot_in-requires c = (ruled_within _ c.requires.0).slots_most

pub returns-in-Some : goal.returns-in-Some
returns-in-Some c = chosen_hit _ _ c.requires.0 _ c.requires.1 c.in-Some.slot (slot_lent _ _ _ ∙ sym c.in-Some.ensures)

pub returns-in_err-seat : goal.returns-in_err-seat
returns-in_err-seat c =
    rw c.from_residual.ensures
    (chosen_none _ _ c.requires.0 _ c.requires.1 (slot_lent _ _ _ ∙ sym c.in_default.ensures) (c.in_err-seat.ensures _ c.requires.1))

pub returns : goal.returns
returns c =
    chosen_taken _ _ c.requires.0 _ c.requires.1 (slot_lent _ _ _ ∙ sym c.in_default.ensures) c.in_ok-seat.seat (c.in_ok-seat.ensures _ c.requires.1)
