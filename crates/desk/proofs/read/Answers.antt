use mathlib.Core.Path.{refl}
use Rattle.desk.proofs.Spans.{handed_out}
use Rattle.desk.proofs.read.Goals as goal

pub returns-in-Side : goal.returns-in-Side
returns-in-Side c = handed_out _ _ _ _ _ c.locate.ensures _ c.unwrap_or-span.ensures _ c.args.side c.in-Side.is refl refl refl

pub returns-in-Base : goal.returns-in-Base
returns-in-Base c = handed_out _ _ _ _ _ c.locate.ensures _ c.unwrap_or-span.ensures _ c.args.base c.in-Base.is refl refl refl
