-- What a close answers, by the verdict on its tests and by its plan. Assumes nothing.
use Rattle.std.proofs.Common.{ℕ, ◌<◌, ◌≡◌, refl, ◌∙◌, sym, ap, true, false, List, [], ◌∷◌, ◌++◌, append_assoc, arith}
use Rattle.std.proofs.Math.Dec.{ltb}
use Rattle.std.proofs.Math.Option.{Option, some, none}
use Rattle.std.specs.Prelude.{Ok, Err}
use borrow.Author.Tests.{ltb-true}
use Rattle.lists.specs.laws.Bools.{both}
use Rattle.lists.specs.Scans.{all_of}
use Rattle.units.specs.Refusals as Refusals
use Rattle.units.specs.Refusals.{code}
use Rattle.units.specs.Sizes.{top, side_length, base_length, buffer_length}
use Rattle.units.specs.Tests.{Test, passes, verdict, tested}
use Rattle.units.specs.laws.Tests.{passes_both, verdict_none, refused_before, refused_last, accepted_last}
use Rattle.units.specs.declared.refusal.Refusal.{Refusal}
use Rattle.slots.specs.Table.{slot_of, unmarked}
use Rattle.recorder.specs.inner.Carried.{Closes, Ended}
use Rattle.recorder.specs.inner.Tests.{last_tick, early_tests}
use Rattle.recorder.specs.Close.{open_tick, changed_in, changes, free_places, given, fresh_entries, staying, after, due_entries, image_stores, base_stores, front_stores, stores, ledger_after, closed, suffices, close_tests, close_reply}
use Rattle.recorder.specs.laws.Facts.{Stands, stands_facts}
use Rattle.recorder.specs.Outcome.{lent}
use Rattle.recorder.specs.Rules.{rules, standing}
use Rattle.recorder.specs.World.{World, refuse, accept, set_closed, set_entries, set_slots, set_kinds, slot_count, entries_of, slot_bytes, slot_for, bytes_at, bytes_in}
use Rattle.recorder.proofs.Testing.{code_some}

-- The kinds play no part once the tests have passed.
module _ (w : World) where
  abbrev pub bare : World
  bare = set_kinds [] w

  held_bare : bytes_in bare ≡ bytes_in w
  unfolding bytes_in slot_for slot_bytes
  held_bare = λ i p. one (slot_of (slot_count w) w.state.slots p) i
    where
      one : (o : Option ℕ) → bytes_at bare o ≡ bytes_at w o
      one none = refl
      one (some j) = refl

  closed_bare : closed bare ≡ set_kinds [] (closed w)
  unfolding closed stores image_stores base_stores front_stores due_entries ledger_after after fresh_entries given changes changed_in free_places staying entries_of
  closed_bare = rw held_bare

  suffices_bare : suffices bare ≡ suffices w
  unfolding suffices after fresh_entries given changes changed_in free_places staying entries_of
  suffices_bare = rw held_bare

-- the test of 10, after all others
module _ (w : World) where
  abbrev last : List Test
  last = (Refusals.no_place, suffices w) ∷ []

  in_parts : close_reply w ≡ tested (early_tests w ++ last) (refuse w []) (accept (closed w) [])
  unfolding close_reply close_tests last_tick
  in_parts = ap (λ (ts : List Test). tested ts (refuse w []) (accept (closed w) [])) (sym (append_assoc (standing w) (last_tick w) last))

  pub close_refused : (r : Refusal) → code r ≡ verdict (early_tests w) → refuse w [] (code r) ≡ close_reply w
  close_refused r e = sym (in_parts ∙ refused_before (refuse w []) (accept (closed w) []) (early_tests w) last (code r) e (code_some r))

  -- the tests before it have passed
  module _ (e : 0 ≡ verdict (early_tests w)) where
    passed : passes (early_tests w) ≡ true
    unfolding standing last_tick close_tests all_of
    passed = verdict_none (early_tests w) refl (sym e)

    pub close_short : suffices w ≡ false → refuse w [] Refusals.no_place ≡ close_reply w
    close_short s = sym (in_parts ∙ refused_last (refuse w []) (accept (closed w) []) (early_tests w) _ _ passed s)

    pub close_done : suffices w ≡ true → accept (closed w) [] ≡ close_reply w
    close_done s = sym (in_parts ∙ accepted_last (refuse w []) (accept (closed w) []) (early_tests w) _ _ passed s)

    pub close_stands : Stands w
    close_stands = stands_facts w (passes_both (standing w) (last_tick w) passed).0

    pub close_low : w.state.closed.0 < top
    unfolding last_tick close_tests passes
    close_low = ltb-true w.state.closed.0 top (both (ltb w.state.closed.0 top) true (passes_both (standing w) (last_tick w) passed).1).0

    -- what the close asks from there on
    pub can_close : Closes (bare w) (open_tick w)
    unfolding base_length side_length buffer_length rules slot_for
    can_close =
        let r = close_stands in
        record {
          plans = (r.ruled, refl);
          base_long = omega (arith, r.long.base_long);
          side_long = r.long.side_long;
          buffer_long = omega (arith, r.long.buffer_long);
          low = close_low;
        }

    -- nothing was written, or all of it
    pub ended_refused : (refusal : Refusal) (ledger base side : List ℕ) → Ended (bare w) (Err refusal) ledger base side
        → refuse (lent w.state ledger base side w.buffer w.kinds) [] (code refusal) ≡ close_reply w
    ended_refused refusal ledger base side f =
        (λ i. refuse (lent w.state (f.2 i) (f.3 i) (f.4 i) w.buffer w.kinds) [] (code (f.1 i))) ∙ close_short (sym (suffices_bare w) ∙ f.0)

    pub ended_done : (n : ℕ) (ledger base side : List ℕ) → Ended (bare w) (Ok n) ledger base side
        → accept (lent (set_closed (open_tick w) (set_entries n (set_slots (unmarked w.state.slots) w.state))) ledger base side w.buffer w.kinds) [] ≡ close_reply w
    unfolding closed
    ended_done n ledger base side (z, f) =
        let e : lent (set_closed (open_tick w) (set_entries n (set_slots (unmarked w.state.slots) w.state))) ledger base side w.buffer [] ≡ closed (bare w)
        = λ i. lent (set_closed (open_tick w) (set_entries (f.0 i) (set_slots (unmarked w.state.slots) w.state))) (f.1 i) (f.2 i) (f.3 i) w.buffer [] in
        ap (λ (v : World). accept (set_kinds w.kinds v) []) (e ∙ closed_bare w) ∙ close_done (sym (suffices_bare w) ∙ z)
