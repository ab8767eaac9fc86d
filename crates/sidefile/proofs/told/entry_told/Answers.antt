use Rattle.std.proofs.Common.{◌∙◌, sym, rules}
use Rattle.sidefile.proofs.Telling.{entry_refused, entry_fits}
use Rattle.sidefile.proofs.told.entry_told.Goals as goal

pub returns-in_default : goal.returns-in_default
returns-in_default c = c.missing.ensures ∙ sym (entry_refused _ _ c.in_default.ensures.judged _)

pub entry-x-requires : goal.entry-x-requires
entry-x-requires c = (entry_fits _ c.in-Ok.ensures.judged _ c.in-Ok.ensures.read _ c.if-header-i.false, search rules)
