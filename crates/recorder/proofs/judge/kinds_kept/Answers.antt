use Rattle.recorder.proofs.Judging.{ruled_slots, ruled_below, ruled_entries}
use Rattle.recorder.proofs.judge.kinds_kept.Goals as goal

pub slots_fit-requires : goal.slots_fit-requires
slots_fit-requires c = (ruled_slots _ _ c.requires.0, ruled_below _ _ c.requires.0 _ c.requires.1)

pub kinds_fit-requires : goal.kinds_fit-requires
kinds_fit-requires c = ruled_entries _ _ c.requires.0 _ c.requires.1
