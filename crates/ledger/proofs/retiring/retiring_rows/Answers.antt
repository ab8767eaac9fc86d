use Prim.Native.Nat.{ℕ, ◌<◌}
use mathlib.Core.Path.{◌≡◌, ◌∙◌, sym, ap}
use mathlib.Core.List.{List, map}
use native.Mathlib.Omega.{arith}
use lib.ListN.{length, take, get_or, length-set}
use lib.Seq.{take_all}
use Rattle.octets.specs.inner.Flags.{flags}
use Rattle.units.specs.inner.Pages.{numbers_of}
use Rattle.ledger.specs.inner.Changed.{entry_ticks}
use Rattle.ledger.specs.inner.Numbers.{length_numbers, number_at}
use Rattle.ledger.specs.inner.Search.{found_entry, found_none}
use Rattle.ledger.specs.laws.Rowed.{length_entries_in}
use Rattle.ledger.specs.View.{entries_in}
use Rattle.ledger.proofs.Flagging.{goes, goes_all, goes_marked, goes_unmarked, tick_next}
use Rattle.ledger.proofs.retiring.retiring_rows.Goals as goal
use Rattle.ledger.proofs.retiring.retiring_rows.Goals.{in-None, in-Some}

pub loop-j-preserved : goal.loop-j-preserved
loop-j-preserved c =
    let a = c.args in
    let es = entries_in a.n a.s.now in
    let cs = numbers_of a.k a.pages.now in
    let j = c.loop-j.j in
    let h : j < length cs = omega (arith, length_numbers (λ x. x.0) a.k a.pages.now (omega arith)) in
    let p = (get_or a.pages.now j (record { 0 = 0 })).0 in
    let here : p ≡ get_or cs j 0 = sym (number_at (λ x. x.0) a.k a.pages.now (record { 0 = 0 }) j h) in
    let v = c.loop-j.invariant in
    let marked = goes_marked a.wait a.tick es cs j h p here a.n (length_entries_in a.n a.s.now) (flags c.loop-j.going) v.0 c.requires.3 in
    let unmarked = goes_unmarked a.wait a.tick es cs j h p here a.n (length_entries_in a.n a.s.now) (flags c.loop-j.going) v.0 c.requires.3 in
    let tick = tick_next a.wait a.tick es cs j h p here c.loop-j.entered (omega arith) v.1 in
    elim c.match-find.branch [ in-Some u ↦ rw (u.going-is, u.entered-is) (ap (take a.n) u.raise.ensures ∙ marked u.in-Some.i (sym c.find.ensures ∙ u.in-Some.is), tick u.at.result.entered (rw (found_entry p a.n a.s.now u.in-Some.i (sym c.find.ensures ∙ u.in-Some.is)) (λ i. (u.at.ensures i).entered)), simp length-set v.2) | in-None u ↦ rw (u.going-is, u.entered-is) (unmarked (sym c.find.ensures ∙ u.in-None.is), tick a.tick (rw (found_none p a.n a.s.now (sym c.find.ensures ∙ u.in-None.is))), simp length-set v.2) ]

pub returns : goal.returns
returns c =
    let a = c.args in
    let es = entries_in a.n a.s.now in
    let cs = numbers_of a.k a.pages.now in
    let e : a.k ≡ c.loop-j.j = omega arith in
    let w : take c.loop-j.j cs ≡ cs = take_all c.loop-j.j cs (omega (arith, length_numbers (λ x. x.0) a.k a.pages.now (omega arith))) in (
      c.loop-j.invariant.0 ∙ ap (λ (ps : List ℕ). map (goes a.wait a.tick es ps) es) w ∙ goes_all a.wait a.tick es cs,
      ap (λ (m : ℕ). take m c.loop-j.entered) e ∙ c.loop-j.invariant.1 ∙ ap (entry_ticks a.tick es) w,
      c.loop-j.invariant.2,
    )
