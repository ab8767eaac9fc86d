use Rattle.std.proofs.Common.{rules, tests, ◌≡◌, length, take, [], arith}
use Rattle.std.proofs.lemmas.Iterator.{IsFirst-from_position, YieldsList-from_slice}
use Rattle.lists.specs.laws.Maps.{length_mapped}
use Rattle.units.specs.declared.Page.{Page}
use Rattle.slots.specs.inner.Lent.{table_of}
use Rattle.slots.proofs.Turns.{slot_found_by}
use Rattle.slots.proofs.lookup.slot_in.Goals as goal

pub returns : goal.returns
returns c =
    let a = c.args in
    let long : length a.pages.now ≡ 16 = search (rules, length_mapped) in
    slot_found_by a.slots (table_of a.pages.now []) a.page.0 (omega arith) _
    (IsFirst-from_position _ _ _ (λ (p : Page). p.0 ≡ a.page.0) (λ (p : Page). p.0 ≡ a.page.0 → ⊥) c.position.ensures.ran
    (YieldsList-from_slice (take a.slots a.pages.now) (search rules)) (λ x q k. search (rules, tests)) (λ x q k. search (rules, tests)))
