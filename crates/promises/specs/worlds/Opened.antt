-- An accepted open makes a good world, whatever world it is lent: header and index are those of an empty index at tick B, the
-- ledger has no entry and no retired place, every slot is empty. Assumes nothing.
use Rattle.std.specs.Prelude.{ℕ, zero, suc, ◌<◌, ◌≡◌, true, false, ltb, take, get_or, replicate}
use Rattle.std.proofs.Math.Path.{refl, ap}
use Rattle.std.proofs.Common.{◌∙◌, sym, subst, arith, ltb-true}
use mathlib.Core.List.{List, [], ◌∷◌, ◌++◌}
use Rattle.std.proofs.Math.ListN.{length}
use Rattle.lists.specs.laws.Bools.{both, not_both}
use Rattle.lists.specs.Scans.{Every, done, all_of}
use Rattle.octets.specs.Part.{part}
use Rattle.octets.specs.laws.Part.{length_lay, part_lay_same}
use Rattle.units.specs.Ages.{tick}
use Rattle.units.specs.laws.Bounds.{Within, limits_within, first_image_least}
use Rattle.units.specs.Sizes.{index_end, ledger_length}
use Rattle.units.specs.Tests.{passes}
use Rattle.units.specs.laws.Tests.{tested_passes, tested_accepted}
use Rattle.units.specs.declared.Settings.{Settings}
use Rattle.sidefile.specs.Encode.{header_for, index_bytes}
use Rattle.sidefile.specs.laws.Lengths.{length_encoded}
use Rattle.sidefile.specs.Judge.{ascending, apart}
use Rattle.slots.specs.laws.Moves.{no_slots_vacant, no_slots_changed, no_slots_rules}
use Rattle.slots.specs.laws.Sits.{Whole}
use Rattle.slots.specs.Table.{vacant, changed_at, no_slots}
use Rattle.ledger.specs.inner.Placed.{ledger_opened, opened_entries, opened_free}
use Rattle.ledger.specs.View.{retired}
use Rattle.ledger.specs.declared.Entry.{Entry}
use Rattle.recorder.specs.laws.Asked.{Opens, numbered_open, open_facts}
use Rattle.recorder.specs.World.{World, Reply, refuse, accept, set_state, zero_state, entries_of}
use Rattle.recorder.specs.Calls.{open_state, open_tests, opened, open_reply}
use Rattle.recorder.specs.laws.Facts.{RuleFacts, Lengths, KindFacts, Ruled}
use Rattle.promises.specs.worlds.Good.{front_at, Good}

-- kind bytes that are all 0 or 1; past the table's end a kind reads as 0
kinds_two : (n : ℕ) (ks : List ℕ) → all_of (λ k. ltb k 2) (take n ks) ≡ true → (p : ℕ) → p < n → get_or ks p 0 < 2
unfolding all_of
kinds_two zero ks h p b = absurd (omega arith)
kinds_two (suc n) [] h p b = omega arith
kinds_two (suc n) (k ∷ ks) h zero b = ltb-true k 2 (both _ _ h).0
kinds_two (suc n) (k ∷ ks) h (suc p) b = kinds_two n ks (both (ltb k 2) (all_of (λ k. ltb k 2) (take n ks)) h).1 p (omega arith)

-- the arrays of a new recording
whole_none : Whole no_slots
unfolding no_slots
whole_none = record { pages = refl; changed = refl; order = refl }

-- an accepted open: what its tests say, and the world after it
module _ (s : Settings) (end B : ℕ) (w : World) (h : (open_reply s end B w).number ≡ 0) where
  open_passes : passes (open_tests s end B w) ≡ true
  unfolding open_reply
  open_passes = tested_accepted (refuse (set_state zero_state w) []) (accept (opened s end B w) []) (λ r. r.number) (λ n. refl) (open_tests s end B w) (numbered_open s end B w) h

  pub open_asked : Opens s end B w
  open_asked = open_facts s end B w open_passes

  pub open_is : (open_reply s end B w).world ≡ opened s end B w
  unfolding open_reply
  open_is = ap (λ (r : Reply). r.world) (tested_passes (refuse (set_state zero_state w) []) (accept (opened s end B w) []) (open_tests s end B w) open_passes)

-- The opened world.
module _ (s : Settings) (end B : ℕ) (w : World) where
  abbrev W : World
  W = opened s end B w

  no_entries : entries_of W ≡ []
  unfolding opened open_state entries_of
  no_entries = opened_entries s w.ledger

  -- whatever is to hold of every entry holds
  every_entry : {P : Entry → Type 0} → Every P (entries_of W)
  every_entry {P} = subst (Every P) (sym no_entries) done

  all_vacant : (i : ℕ) → i < 16 → vacant W.state.slots i ≡ true
  unfolding opened open_state
  all_vacant i h = no_slots_vacant i h

  none_marked : (i : ℕ) → changed_at W.state.slots i ≡ false
  unfolding opened open_state
  none_marked i = no_slots_changed i

  module _ (o : Opens s end B w) where
    sized : Within s
    sized = limits_within s o.limited

    opened_rules : RuleFacts W
    unfolding opened open_state ascending apart
    opened_rules =
        record {
          limited = o.limited;
          ledger_long = rw (length_lay w.ledger 0 (replicate (ledger_length s) 0)) o.ledger_long;
          ended = o.ended;
          counted = omega arith;
          slots = no_slots_rules s.slots end sized.slots_most;
          ascends = rw no_entries;
          each = every_entry;
          alone = rw no_entries;
          rested = λ q h r. absurd (not_both (retired s (ledger_opened s w.ledger) q) r (opened_free s w.ledger o.ledger_long q h));
        }

    opened_lengths : Lengths s W
    unfolding opened open_state
    opened_lengths =
        let l = length_lay w.side 0 (header_for s (tick B) end [] ++ index_bytes s []) in
        record {
          base_long = o.lengths.base_long;
          side_long = omega (arith, o.lengths.side_long);
          buffer_long = o.lengths.buffer_long;
          kinds_long = o.lengths.kinds_long;
        }

    opened_kinds : KindFacts W
    unfolding opened open_state
    opened_kinds =
        record {
          slot_kinds = λ i h v. absurd (not_both (vacant no_slots i) (no_slots_vacant i (omega (arith, sized.slots_most))) v);
          entry_kinds = every_entry;
        }

    pub ruled_opened : Ruled W
    unfolding opened open_state
    ruled_opened =
        record {
          whole = whole_none;
          tick = o.early;
          small = every_entry;
          facts = opened_rules;
          lengths = opened_lengths;
          kinds = opened_kinds;
        }

    opened_front : part W.side 0 (index_end s) ≡ front_at W end
    unfolding opened open_state
    opened_front =
        let F = header_for s (tick B) end [] ++ index_bytes s [] in
        let l : length F ≡ index_end s = length_encoded s (tick B) end [] (omega arith) in
        rw (no_entries, ← l) (part_lay_same w.side 0 F (omega (arith, o.lengths.side_long, first_image_least s sized)))

    pub good_opened : Good W
    unfolding opened open_state
    good_opened =
        record {
          ruled = ruled_opened;
          two = kinds_two end w.kinds o.kinds;
          ending = end;
          ended = omega arith;
          front = opened_front;
          early = every_entry;
          sums = every_entry;
          slots = λ i h v c. absurd (not_both (vacant no_slots i) (no_slots_vacant i (omega (arith, sized.slots_most))) v);
          written = every_entry;
          newer = λ p h k m. absurd (omega arith);
        }

-- The world of an accepted open.
module _ (s : Settings) (end B : ℕ) (w : World) (h : (open_reply s end B w).number ≡ 0) where
  abbrev after : World
  after = (open_reply s end B w).world

  opens : Opens s end B w
  opens = open_asked s end B w h

  same : after ≡ opened s end B w
  same = open_is s end B w h

  pub ruled_open : Ruled after
  ruled_open = subst Ruled (sym same) (ruled_opened s end B w opens)

  pub good_open : Good after
  good_open = subst Good (sym same) (good_opened s end B w opens)

  pub open_ending : good_open.ending ≡ end
  unfolding good_open good_opened
  open_ending = refl

  pub open_entries : entries_of after ≡ []
  open_entries = ap entries_of same ∙ no_entries s end B w

  pub open_vacant : (i : ℕ) → i < 16 → vacant after.state.slots i ≡ true
  open_vacant i k = ap (λ (v : World). vacant v.state.slots i) same ∙ all_vacant s end B w i k

  pub open_unchanged : (i : ℕ) → changed_at after.state.slots i ≡ false
  open_unchanged i = ap (λ (v : World). changed_at v.state.slots i) same ∙ none_marked s end B w i

  -- what it is: the state of an open, and the lent files but for the side file's front and the ledger
  pub open_state_lem : after.state ≡ open_state s end B
  unfolding opened
  open_state_lem = ap (λ (v : World). v.state) same

  pub open_base : after.base ≡ w.base
  unfolding opened
  open_base = ap (λ (v : World). v.base) same

  pub open_buffer : after.buffer ≡ w.buffer
  unfolding opened
  open_buffer = ap (λ (v : World). v.buffer) same

  pub open_kinds : after.kinds ≡ w.kinds
  unfolding opened
  open_kinds = ap (λ (v : World). v.kinds) same
