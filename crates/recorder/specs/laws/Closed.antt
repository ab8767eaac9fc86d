-- What a close leaves alone, in any world: settings, e, kinds, page buffer, the slots' pages and every length; no slot is
-- changed any more. And what its lists of entries are in the words of the ledger's laws, so that these can be cited of a
-- world; and that they are read back from its ledger. Assumes nothing.
use Rattle.std.specs.Prelude.{ℕ, ◌<◌, ◌≤◌, ◌≡◌, true, false, leb, length}
use Rattle.std.proofs.Math.Path.{refl, ap}
use Rattle.std.proofs.Common.{◌∙◌, sym, arith}
use Rattle.std.proofs.Math.Option.{some}
use borrow.Author.Tests.{leb-true}
use Rattle.lists.specs.laws.Bools.{both}
use Rattle.lists.specs.Scans.{Every}
use Rattle.octets.specs.laws.Part.{length_lay}
use Rattle.octets.specs.laws.Rows.{length_row}
use Rattle.units.specs.laws.Bounds.{places_most}
use Rattle.units.specs.Sizes.{top, entries}
use Rattle.sidefile.specs.laws.Decode.{checksum_below}
use Rattle.sidefile.specs.Encode.{image_sum}
use Rattle.slots.specs.laws.Moves.{unmark_same, unmark_changed, unmark_sits}
use Rattle.slots.specs.laws.Sits.{Sits, slot_found, slot_occupied, changed_slot}
use Rattle.slots.specs.Table.{to_page, page_at, vacant, changed_at, unmarked}
use Rattle.ledger.specs.laws.Closing.{Closing, new_of, later_of, small_later}
use Rattle.ledger.specs.laws.Due.{due_of}
use Rattle.ledger.specs.laws.Guarded.{later_read}
use Rattle.ledger.specs.laws.Rowed.{Small}
use Rattle.recorder.specs.Close.{open_tick, changed_in, changes, free_places, given, fresh_entries, staying, after, due_entries, stores, ledger_after, closed, suffices}
use Rattle.recorder.specs.World.{World, page_size, slot_count, entries_of, kind_of, slot_bytes, slot_for, bytes_in}
use Rattle.recorder.specs.laws.Facts.{Ruled, within, end_small, seats}
use Rattle.recorder.specs.laws.Stored.{length_to_side, length_to_base}

module _ (w : World) where
  -- State and slices.

  pub settings_closed : (closed w).state.settings ≡ w.state.settings
  unfolding closed
  settings_closed = refl

  pub tick_closed : (closed w).state.closed ≡ open_tick w
  unfolding closed
  tick_closed = refl

  pub end_closed : (closed w).state.end ≡ w.state.end
  unfolding closed
  end_closed = refl

  pub count_closed : (closed w).state.entries ≡ length (after w)
  unfolding closed
  count_closed = refl

  pub slots_closed : (closed w).state.slots ≡ unmarked w.state.slots
  unfolding closed
  slots_closed = refl

  pub kinds_closed : (closed w).kinds ≡ w.kinds
  unfolding closed
  kinds_closed = refl

  pub buffer_closed : (closed w).buffer ≡ w.buffer
  unfolding closed
  buffer_closed = refl

  pub base_length_closed : length (closed w).base ≡ length w.base
  unfolding closed
  base_length_closed = length_to_base (stores w) w.base

  pub side_length_closed : length (closed w).side ≡ length w.side
  unfolding closed
  side_length_closed = length_to_side (stores w) w.side

  pub ledger_length_closed : length (closed w).ledger ≡ length w.ledger
  unfolding closed
  ledger_length_closed = length_lay w.ledger 0 (ledger_after w)

  -- The slots: the same pages with the same bytes, none changed.

  pub still_closed : (i : ℕ) → changed_at (closed w).state.slots i ≡ false
  unfolding closed
  still_closed i = unmark_changed w.state.slots i

  pub page_closed : (i : ℕ) → page_at (closed w).state.slots i ≡ page_at w.state.slots i
  unfolding closed
  page_closed i = (unmark_same w.state.slots).page i

  pub vacant_closed : (i : ℕ) → vacant (closed w).state.slots i ≡ vacant w.state.slots i
  unfolding closed
  vacant_closed i = (unmark_same w.state.slots).vacancy i

  pub slot_closed : (p : ℕ) → slot_for (closed w) p ≡ slot_for w p
  unfolding closed slot_for
  slot_closed p = (unmark_same w.state.slots).slot (slot_count w) p

  pub slot_bytes_closed : (i : ℕ) → slot_bytes (closed w) i ≡ slot_bytes w i
  unfolding closed slot_bytes
  slot_bytes_closed i = refl

  -- The entries, in the ledger's words.

  abbrev pub closing_of : Closing
  closing_of =
      record {
        settings = w.state.settings;
        closed = w.state.closed;
        end = w.state.end;
        changed_in = changed_in w;
        old = entries_of w;
        ledger = w.ledger;
        sum = λ p. image_sum (to_page p) (bytes_in w p);
      }

  pub fresh_new : fresh_entries w ≡ new_of closing_of
  unfolding fresh_entries given changes free_places
  fresh_new = refl

  pub after_later : after w ≡ later_of closing_of
  unfolding after fresh_entries given changes free_places staying
  after_later = refl

  pub due_of_lem : due_entries w ≡ due_of closing_of
  unfolding due_entries after fresh_entries given changes free_places staying
  due_of_lem = refl

  -- 10 was not answered
  pub enough : suffices w ≡ true → (length (changes w) ≤ length (free_places w)) × (length (after w) ≤ entries w.state.settings)
  unfolding suffices
  enough sf =
      let b = both (leb (length (changes w)) (length (free_places w))) (leb (length (after w)) (entries w.state.settings)) sf in
      (leb-true (length (changes w)) (length (free_places w)) b.0, leb-true (length (after w)) (entries w.state.settings) b.1)

-- Slots of a world that follows the rules.

module _ (w : World) (r : Ruled w) where
  -- a changed page is in a slot
  pub changed_held : (p : ℕ) → changed_in w p ≡ true → (i : ℕ) × (slot_for w p ≡ some i)
  unfolding changed_in slot_for
  changed_held p h = changed_slot (slot_count w) w.state.slots p h

  -- a slot's bytes are those of its page, and a page long
  pub bytes_held : (p i : ℕ) → slot_for w p ≡ some i → bytes_in w p ≡ slot_bytes w i
  unfolding bytes_in
  bytes_held p i h = rw h

  pub length_held : (p i : ℕ) → slot_for w p ≡ some i → length (bytes_in w p) ≡ page_size w
  unfolding slot_for bytes_in slot_bytes
  length_held p i h =
      rw h (length_row 0 (page_size w) w.buffer (slot_count w) r.lengths.buffer_long i (slot_found (slot_count w) w.state.slots p i h).0)

  -- a page in a slot is a metadata page
  pub held_kind : (p i : ℕ) → p < w.state.end → slot_for w p ≡ some i → kind_of w p ≡ 0
  unfolding slot_for
  held_kind p i b h =
      let f = slot_found (slot_count w) w.state.slots p i h in
      ap (kind_of w) (sym f.1) ∙ r.kinds.slot_kinds i f.0 (slot_occupied (slot_count w) w.state.slots p i (omega (arith, end_small w r)) h)

  pub sits_closed : Sits (slot_count w) w.state.end (closed w).state.slots
  unfolding closed
  sits_closed = unmark_sits (seats w r)

-- The entries after the close, as they are read back.

module _ (w : World) (r : Ruled w) (sf : suffices w ≡ true) (lt : w.state.closed.0 < top) where
  pub small_closed : Every Small (after w)
  unfolding image_sum
  small_closed =
      rw (after_later w)
      (small_later (closing_of w) (omega arith) (omega (arith, end_small w r)) (omega (arith, places_most w.state.settings (within w r))) sums r.small)
    where
      sums : (p : ℕ) → image_sum (to_page p) (bytes_in w p) ≤ top
      sums p = omega (arith, checksum_below (bytes_in w p))

  pub entries_closed : entries_of (closed w) ≡ after w
  unfolding entries_of closed ledger_after after fresh_entries given changes free_places staying
  entries_closed = later_read (closing_of w) r.facts.ledger_long (enough w sf).1 small_closed
