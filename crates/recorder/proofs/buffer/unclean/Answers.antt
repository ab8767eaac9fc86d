use Rattle.recorder.proofs.Bringing.{search_asks}
use Rattle.recorder.proofs.buffer.unclean.Goals as goal

pub owed_page-requires : goal.owed_page-requires
owed_page-requires c = search_asks _ _ c.requires.0
