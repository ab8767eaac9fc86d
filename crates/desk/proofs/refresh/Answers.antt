use Rattle.desk.proofs.Raised.{markable}
use Rattle.desk.proofs.refresh.Goals as goal

pub mark-requires : goal.mark-requires
mark-requires c = markable _ _ c.in_ok-judge_whole.ensures _ c.header_of-header.ensures c.if-marks-header.false
