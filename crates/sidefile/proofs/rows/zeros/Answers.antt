use Rattle.std.proofs.Common.{rules, tests, ◌∙◌, true, ◌&&◌, eqb}
use Rattle.std.proofs.lemmas.Iterator.{YieldsList-from_slice}
use Rattle.std.proofs.lemmas.Iterator.Consumers.{fold_from_yields_List}
use Rattle.octets.specs.Part.{part}
use Rattle.sidefile.proofs.Scans.{all_zero}
use Rattle.sidefile.proofs.rows.zeros.Goals as goal

pub returns : goal.returns
unfolding part
returns c =
    let a = c.args in
    fold_from_yields_List _ (λ clear b. clear && eqb b 0) true _ c.fold.ensures.ran
    (YieldsList-from_slice (part a.s.now a.at a.n) (search rules))
    (λ clear b r q k. search (rules, tests))
    ∙ all_zero (part a.s.now a.at a.n)
