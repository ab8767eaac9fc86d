-- Two worlds that no call tells apart. Demand 3 asks for equal settings, starting files, kinds and calls; it does not ask for
-- equal page buffers, nor for equal ledgers before the open, nor for slices of equal length. So two recordings may differ in
-- every byte that lies behind what the settings ask for, and in every slot that is empty. Here: the relation, what both of
-- two such worlds say, and that one keeps the state rules if the other does. Assumes nothing.
use Rattle.std.specs.Prelude.{ℕ, ◌*◌, ◌<◌, ◌≤◌, ◌≡◌, List, map, false, length}
use Rattle.std.proofs.Common.{◌∙◌, ap, subst, arith}
use Rattle.std.proofs.Math.Path.{sym}
use Rattle.std.proofs.Math.Option.{some}
use Rattle.lists.specs.Scans.{Every}
use Rattle.lists.specs.laws.Scans.{every_map, every_two}
use Rattle.units.specs.Sizes.{entry_row, place_row, places, places_at, first_image, side_length, base_length, ledger_length}
use Rattle.sidefile.specs.Judge.{ascending, apart}
use Rattle.slots.specs.laws.Sits.{slot_found, slot_occupied}
use Rattle.slots.specs.Table.{vacant}
use Rattle.ledger.specs.Entries.{page_of, place_of}
use Rattle.ledger.specs.laws.Rowed.{Small, entries_in_front}
use Rattle.ledger.specs.View.{indexed, place_row_at, retired, retired_at}
use Rattle.ledger.specs.declared.Entry.{Entry}
use Rattle.recorder.specs.World.{World, set_state, page_size, slot_count, entries_of, kind_of, slot_bytes, base_bytes, image_bytes, slot_for}
use Rattle.recorder.specs.declared.State.{State}
use Rattle.recorder.specs.laws.Facts.{Ruled, EntryFacts, Lengths, seats, end_small}
use Rattle.promises.specs.worlds.Fronts.{Front, front_take, front_row, front_get}

-- w with the slices of v
abbrev pub with_slices : World → World → World
with_slices w v = set_state w.state v

-- v's slices are long enough for w's state, and have the bytes of w's wherever a call in that state looks
pub record Lent (w v : World) : Type 0 where
  pub ledger_long : ledger_length w.state.settings ≤ length v.ledger
  pub lengths : Lengths w.state.settings v
  pub ledger : Front (ledger_length w.state.settings) w.ledger v.ledger
  pub base : Front (base_length w.state.settings) w.base v.base
  pub side : Front (side_length w.state.settings) w.side v.side
  pub kinds : Front w.state.settings.capacity w.kinds v.kinds
  pub buffer : (i : ℕ) → i < slot_count w → vacant w.state.slots i ≡ false → slot_bytes w i ≡ slot_bytes (with_slices w v) i

pub record Alike (w v : World) : Type 0 where
  pub state : w.state ≡ v.state
  pub lent : Lent w v

-- what is shown of w and v's slices in w's state holds of w and v
unfoldable pub alike_by : (P : World → Type 0) (w v : World) → Alike w v → P (with_slices w v) → P v
alike_by P w v a p = subst (λ (x : State). P (set_state x v)) a.state p

-- a page in the file is one that the base can have
pub in_file : (w : World) → Ruled w → (p : ℕ) → p < w.state.end → p < w.state.settings.capacity
in_file w r p h = omega (arith, r.facts.ended)

module _ (w v : World) (r : Ruled w) (l : Lent w v) where
  -- the same entries, places, kinds, pages and images
  pub same_entries : entries_of w ≡ entries_of (with_slices w v)
  unfolding entries_of ledger_length places_at
  same_entries =
      entries_in_front w.state.entries w.ledger v.ledger
      (front_take (ledger_length w.state.settings) w.ledger v.ledger l.ledger (w.state.entries * entry_row) (omega (arith, r.facts.counted)))

  pub same_row : (q : ℕ) → q < places w.state.settings → place_row_at w.state.settings w.ledger q ≡ place_row_at w.state.settings v.ledger q
  unfolding place_row_at ledger_length
  same_row q h =
      front_row (ledger_length w.state.settings) w.ledger v.ledger l.ledger (places_at w.state.settings) place_row (places w.state.settings) q (omega arith) h

  pub same_retired : (q : ℕ) → q < places w.state.settings → retired w.state.settings w.ledger q ≡ retired w.state.settings v.ledger q
  unfolding retired
  same_retired q h = rw (same_row q h)

  pub same_retired_at : (q : ℕ) → q < places w.state.settings → retired_at w.state.settings w.ledger q ≡ retired_at w.state.settings v.ledger q
  unfolding retired_at
  same_retired_at q h = rw (same_row q h)

  pub same_kind : (p : ℕ) → p < w.state.settings.capacity → kind_of w p ≡ kind_of v p
  same_kind p h = front_get w.state.settings.capacity w.kinds v.kinds l.kinds p 0 h

  pub same_base : (p : ℕ) → p < w.state.settings.capacity → base_bytes w p ≡ base_bytes (with_slices w v) p
  unfolding base_bytes base_length
  same_base p h = front_row (base_length w.state.settings) w.base v.base l.base 0 (page_size w) w.state.settings.capacity p (omega arith) h

  pub same_image : (q : ℕ) → q < places w.state.settings → image_bytes w q ≡ image_bytes (with_slices w v) q
  unfolding image_bytes side_length
  same_image q h = front_row (side_length w.state.settings) w.side v.side l.side (first_image w.state.settings) (page_size w) (places w.state.settings) q (omega arith) h

  pub same_slot : (p i : ℕ) → p < w.state.end → slot_for w p ≡ some i → slot_bytes w i ≡ slot_bytes (with_slices w v) i
  unfolding slot_for
  same_slot p i h e =
      l.buffer i (slot_found (slot_count w) w.state.slots p i e).0
      (slot_occupied (slot_count w) w.state.slots p i (omega (arith, end_small w r)) e)

  -- one keeps the state rules if the other does
  entry_slices : (e : Entry) → EntryFacts w e → EntryFacts (with_slices w v) e
  unfolding slot_for
  entry_slices e f =
      record {
        page_below = f.page_below;
        entered_first = f.entered_first;
        changed_before = f.changed_before;
        owed_held = f.owed_held;
        place_below = f.place_below;
        not_retired = sym (same_retired (place_of e) f.place_below) ∙ f.not_retired;
      }

  pub ruled_slices : Ruled (with_slices w v)
  ruled_slices =
      let s = w.state.settings in
      record {
        whole = r.whole;
        tick = r.tick;
        small = subst (Every Small) same_entries r.small;
        facts = record {
          limited = r.facts.limited;
          ledger_long = l.ledger_long;
          ended = r.facts.ended;
          counted = r.facts.counted;
          slots = r.facts.slots;
          ascends = ap (λ (es : List Entry). ascending 0 (map indexed es)) (sym same_entries) ∙ r.facts.ascends;
          each = subst (Every (EntryFacts (with_slices w v))) same_entries (every_map entry_slices (entries_of w) r.facts.each);
          alone = ap (λ (es : List Entry). apart (map indexed es)) (sym same_entries) ∙ r.facts.alone;
          rested = λ q h k. rw (same_retired_at q h) at (r.facts.rested q h (same_retired q h ∙ k));
        };
        lengths = let n = l.lengths in record { base_long = n.base_long; side_long = n.side_long; buffer_long = n.buffer_long; kinds_long = n.kinds_long };
        kinds = record {
          slot_kinds = λ i h k. sym (same_kind _ (in_file w r _ ((seats w r).low i h k))) ∙ r.kinds.slot_kinds i h k;
          entry_kinds =
              subst (Every (λ e. kind_of v (page_of e) ≡ 0)) same_entries
              (every_map (λ e f. sym (same_kind (page_of e) (in_file w r (page_of e) f.0.page_below)) ∙ f.1) (entries_of w)
              (every_two (entries_of w) r.facts.each r.kinds.entry_kinds));
        };
      }

pub ruled_alike : (w v : World) → Ruled w → Alike w v → Ruled v
ruled_alike w v r a = alike_by Ruled w v a (ruled_slices w v r a.lent)
