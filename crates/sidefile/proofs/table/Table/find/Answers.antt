use Rattle.std.proofs.Common.{rules, tests, refl, ◌∙◌, arith, eqb}
use Rattle.std.proofs.lemmas.Iterator.{YieldsList-from_range}
use Rattle.std.proofs.lemmas.Iterator.Search.{position_from_yields_List}
use Rattle.octets.specs.Rows.{row}
use Rattle.sidefile.specs.inner.Table.{column}
use Rattle.sidefile.proofs.Rowwise.{found_rowwise}
use Rattle.sidefile.proofs.table.Table.find.Goals as goal

pub returns : goal.returns
returns c =
    let t = c.args.self.now in
    position_from_yields_List (λ i. eqb (column 0 (row t.at t.width i t.bytes.now)) c.args.page.0) _ _ _ c.position.ensures.ran
    (YieldsList-from_range 0 t.rows t.rows refl (omega arith))
    (λ x b q k. search (rules, tests))
    ∙ found_rowwise _ _ _ _ _
