use Rattle.octets.specs.laws.Flagging.{flags_clear}
use Rattle.recorder.proofs.plan.Plan.empty.Goals as goal

pub returns : goal.returns
returns c = flags_clear 18
