use mathlib.Core.Path.{◌≡◌, ◌∙◌, sym}
use mathlib.Core.Bool.{true}
use mathlib.Core.List.{map}
use native.Mathlib.Omega.{arith}
use Rattle.lists.specs.Scans.{all_of}
use Rattle.units.specs.Sizes.{places, wait}
use Rattle.sidefile.specs.inner.Table.{pages_fit, places_fit}
use Rattle.ledger.specs.inner.Fits.{sits, ticks_fit}
use Rattle.ledger.specs.laws.Read.{entries_indexed}
use Rattle.ledger.specs.View.{indexed, entries_in}
use Rattle.ledger.proofs.Judging.{held_judged, judge_all}
use Rattle.ledger.proofs.judge.keeps_rules.Goals as goal
use Rattle.ledger.proofs.judge.keeps_rules.Goals.{then-ascending_below, else-ascending_below, then-ticks_fit, else-ticks_fit}

pub returns-then-held_places : goal.returns-then-held_places
returns-then-held_places c =
    let a = c.args in
    let es = entries_in a.n a.s.now in
    let seated = sits a.settings.slots a.seats in
    elim c.if-ticks_fit.branch [
      | then-ticks_fit u ↦ elim c.if-ascending_below.branch [
        | then-ascending_below v ↦
            let m = u.places.ensures in
            let pages : pages_fit a.end (map indexed es) ≡ true = rw (← entries_indexed a.n a.s.now) (sym c.ascending_below.ensures ∙ v.if-ascending_below.true) in
            let ticks : all_of (ticks_fit (wait a.settings) a.closed seated) es ≡ true =
            rw (← v.wait.ensures) (sym v.ticks_fit.ensures ∙ sym v.value-is ∙ u.if-ticks_fit.true) in
            let fit : u.held_places.result ≡ true = sym u.value-is ∙ c.if-held_places.true in
            let apart : places_fit (places a.settings) (map indexed es) ≡ true = rw (← m.0) (sym u.held_places.ensures.0 ∙ fit) in
            judge_all a.settings a.end a.closed seated a.n a.s.now pages ticks apart c.places_fit.result
            (c.places_fit.ensures ∙ held_judged a.settings a.closed a.s.now es _ (rw u.held-is (u.held_places.ensures.1 fit)) (omega (arith, m.0, m.1)))
        | else-ascending_below v ↦ cc
      ]
      | else-ticks_fit u ↦ cc
    ]
