use Rattle.std.proofs.Common.{rules, tests, refl, ◌≡◌, true, false}
use Rattle.std.proofs.lemmas.Iterator.{cases_from_all, YieldsList-from_range}
use Rattle.lists.specs.Below.{from}
use Rattle.slots.specs.inner.Judged.{row_kept}
use Rattle.slots.proofs.Turns.{all_told}
use Rattle.slots.proofs.Slots.rows_kept.Goals as goal

pub returns : goal.returns
unfolding from
returns c =
    let a = c.args in
    all_told (row_kept a.slots a.self.now) _ c.all.result
    (cases_from_all _ _ _ (λ i. row_kept a.slots a.self.now i ≡ true) (λ i. row_kept a.slots a.self.now i ≡ false) c.all.ensures.ran (YieldsList-from_range 0 16 16 (search rules) refl) (λ x q k. search (rules, tests)) (λ x q k. search (rules, tests)))
