use Prim.Native.Nat.{◌<◌}
use mathlib.Core.Path.{refl, ◌∙◌}
use mathlib.Core.Bool.{Bool}
use native.Mathlib.Omega.{arith}
use lib.Dec.{eqb}
use lib.ListN.{length, get_or}
use Rattle.std.proofs.Common.{rules, tests}
use Rattle.std.proofs.lemmas.Iterator.{YieldsList-from_range, serves_from_Range}
use Rattle.std.proofs.lemmas.Iterator.Search.{all_from_yields_List}
use Rattle.octets.specs.Rows.{row}
use Rattle.units.specs.Sizes.{entry_row}
use Rattle.sidefile.specs.inner.Table.{column}
use Rattle.ledger.specs.Entries.{page_of}
use Rattle.ledger.specs.View.{entry_of}
use Rattle.ledger.specs.declared.Entry.{Entry}
use Rattle.ledger.specs.laws.Read.{page_column, every_row}
use Rattle.ledger.proofs.Judging.{entries_all}
use Rattle.ledger.proofs.judge.kinds_fit.Goals as goal

pub all-requires-clause-callable : goal.all-requires-clause-callable
unfolding column entry_of
all-requires-clause-callable c =
    let a = c.args in
    serves_from_Range (λ x q k. search (rules, tests)) (λ x l h. let k : column 0 (row 0 entry_row x a.s.now) < length a.kinds.now = every_row a.n a.s.now x h c.requires.1 in search (rules, tests))

pub returns : goal.returns
returns c =
    let a = c.args in
    let t : Entry → Bool = λ e. eqb (get_or a.kinds.now (page_of e) 0) 0 in
    all_from_yields_List (λ i. t (entry_of (row 0 entry_row i a.s.now))) _ _ c.all.result c.all.ensures.ran (YieldsList-from_range 0 a.n a.n refl (omega arith)) (λ x b q k. search (rules, tests, page_column))
    ∙ entries_all t a.n a.s.now
