-- A take or a refresh at the close, or later in the same open tick, leaves a held buffer with the index of that close: what
-- demand 3 says of a desk holds after each of them. Assumes nothing.
use Rattle.std.specs.Prelude.{ℕ, ◌≤◌, ◌≡◌, refl, List, [], ◌∷◌, Bool, true, false, leb, length}
use Rattle.std.proofs.Common.{◌∙◌, sym, ap, subst, arith, leb-true}
use Rattle.lists.specs.Bools.{if_then}
use Rattle.octets.specs.Part.{part}
use Rattle.units.specs.Sizes.{index_end, side_length}
use Rattle.units.specs.Refusals as Refusals
use Rattle.units.specs.Tests.{tested}
use Rattle.units.specs.laws.Tests.{tested_behind}
use Rattle.units.specs.declared.Settings.{Settings}
use Rattle.sidefile.specs.Judge.{whole_tests}
use Rattle.sidefile.specs.laws.Lengths.{index_end_named}
use Rattle.sidefile.specs.declared.Header.{Header}
use Rattle.recorder.specs.World.{World}
use Rattle.recorder.specs.Runs.{Call, run, reply, Recording, opening, reached}
use Rattle.desk.specs.Take.{Taken, untaken, held_length, taken, take_tests, take_reply, refresh_reply}
use Rattle.promises.specs.alike.AlikeDesk.{take_slices}
use Rattle.promises.specs.Demand.{later, HoldsIndex, SideNow}
use Rattle.promises.specs.worlds.Fronts.{Front}
use Rattle.promises.specs.worlds.Good.{Good}
use Rattle.promises.specs.worlds.Reached.{good_reply, good_run, good_reached, tick_reply, tick_run, side_reply, settings_run, settings_reached}
use Rattle.promises.specs.desks.Refreshed.{refresh_is_take}
use Rattle.promises.specs.desks.Taken.{Took, side_header, side_accepted, took_take}

-- while no tick is closed, the side file is not written
side_run : (cs : List Call) (w : World) → Good w → (run cs w).state.closed.0 ≡ w.state.closed.0 → (run cs w).side ≡ w.side
unfolding run
side_run [] w g h = refl
side_run (c ∷ cs) w g h =
    let v = (reply c w).world in
    let g' = good_reply c w g in
    let a : v.state.closed.0 ≡ w.state.closed.0 = omega (arith, tick_reply c w g, tick_run cs v g') in
    side_run cs v g' (h ∙ sym a) ∙ side_reply c w g a

-- an accepted take had room
took_accepted : (w : World) → Good w → (held : List ℕ) → (take_reply w.side held).number ≡ 0 → Took w (take_reply w.side held).held
unfolding take_reply take_tests tested
took_accepted w g held a = took_take w g held (go (leb (held_length w.side) (length held)) refl)
  where
    last : Taken
    last = record { number = 0; held = taken w.side held; marks = [] }

    number : (if_then (leb (held_length w.side) (length held)) last (untaken held [] Refusals.short)).number ≡ 0
    number =
        ap (λ (t : Taken). t.number)
        (sym (tested_behind (untaken held []) last (whole_tests (length w.side) w.side) ((Refusals.short, leb (held_length w.side) (length held)) ∷ []) (side_accepted w g)))
        ∙ a

    go : (b : Bool) → leb (held_length w.side) (length held) ≡ b → index_end w.state.settings ≤ length held
    go true e =
        let n : held_length w.side ≡ index_end w.state.settings = ap (λ (h : Header). index_end h.settings) (side_header w g) ∙ index_end_named w.state.settings in
        omega (arith, n, leb-true (held_length w.side) (length held) e)
    go false e = absurd (omega (arith, number, ap (λ (c : Bool). (if_then c last (untaken held [] Refusals.short)).number) e))

-- a desk that is lent the side file then, as far as a desk looks
module _ (r : Recording) (h : (opening r).number ≡ 0) (more : List Call) (same : (later r more).state.closed.0 ≡ (reached r).state.closed.0)
    (side : List ℕ) (s : SideNow r (later r more) side) where
  abbrev w : World
  w = later r more

  good : Good w
  good = good_run more (reached r) (good_reached r h)

  settings : w.state.settings ≡ r.settings
  settings = settings_run more (reached r) (good_reached r h) ∙ settings_reached r h

  same_take : (held : List ℕ) → take_reply w.side held ≡ take_reply side held
  same_take = take_slices w good side (subst (λ (t : Settings). Front (side_length t) w.side side) (sym settings) (sym s))

  pub take_holds : (held : List ℕ) → (take_reply side held).number ≡ 0 → HoldsIndex r (take_reply side held).held
  take_holds held a =
      ap (λ (x : Taken). part x.held 0 (index_end r.settings)) (sym (same_take held))
      ∙ subst (λ (t : Settings). part (take_reply w.side held).held 0 (index_end t) ≡ part w.side 0 (index_end t)) settings
      (took_accepted w good held (ap (λ (x : Taken). x.number) (same_take held) ∙ a))
      ∙ ap (λ (xs : List ℕ). part xs 0 (index_end r.settings)) (side_run more (reached r) (good_reached r h) same)

  pub refresh_holds : (held marks : List ℕ) → (refresh_reply side held marks).number ≡ 0 → HoldsIndex r (refresh_reply side held marks).held
  refresh_holds held marks a =
      let t = refresh_is_take side held marks a in
      ap (λ (xs : List ℕ). part xs 0 (index_end r.settings)) t.1 ∙ take_holds held t.0
