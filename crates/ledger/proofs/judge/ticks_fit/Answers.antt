use mathlib.Core.Path.{refl, ◌∙◌}
use mathlib.Core.Bool.{Bool}
use native.Mathlib.Omega.{arith}
use Rattle.std.proofs.Common.{rules, tests}
use Rattle.std.proofs.lemmas.Iterator.{YieldsList-from_range}
use Rattle.std.proofs.lemmas.Iterator.Search.{all_from_yields_List}
use Rattle.octets.specs.Rows.{row}
use Rattle.units.specs.Sizes.{entry_row}
use Rattle.ledger.specs.View.{entry_of}
use Rattle.ledger.specs.declared.Entry.{Entry}
use Rattle.ledger.specs.inner.Fits as Fits
use Rattle.ledger.specs.inner.Fits.{ticks_fit}
use Rattle.ledger.proofs.Judging.{entries_all}
use Rattle.ledger.proofs.judge.ticks_fit.Goals as goal

pub returns : goal.returns
returns c =
    let a = c.args in
    let t : Entry → Bool = ticks_fit a.wait a.closed (Fits.sits a.slots a.seats.now) in
    all_from_yields_List (λ i. t (entry_of (row 0 entry_row i a.s.now))) _ _ c.all.result c.all.ensures.ran (YieldsList-from_range 0 a.n a.n refl (omega arith)) (λ x b q k. search (rules, tests))
    ∙ entries_all t a.n a.s.now
