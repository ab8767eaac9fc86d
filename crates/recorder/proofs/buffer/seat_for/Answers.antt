use Rattle.recorder.proofs.Bringing.{ruled_within, ruled_used, seated_by}
use Rattle.recorder.proofs.buffer.seat_for.Goals as goal

pub seat-requires : goal.seat-requires
seat-requires c = ((ruled_within _ c.requires).slots_most, ruled_used _ c.requires)

pub returns : goal.returns
returns c = seated_by _ _ c.requires c.unclean_slots-mask.ensures.whole _ _ c.unclean_slots-mask.ensures.unclean c.seat.ensures
