-- A close keeps the recorder's world good, with e as it is then for its end: each checksum is that of its image, a slot has what
-- a desk would read, and what is not owed any more is in the base. Assumes nothing.
use Rattle.std.specs.Prelude.{ℕ, ◌<◌, ◌≡◌, Bool, true, ◌⊎◌}
use Rattle.std.proofs.Math.Path.{refl, sym, ap, subst}
use Rattle.std.proofs.Common.{◌∙◌, inl, inr, arith}
use Rattle.std.proofs.Math.Bool.{false}
use mathlib.Core.List.{List}
use Rattle.std.proofs.Math.Option.{Option, some, none}
use Rattle.lists.specs.laws.Bools.{not_both, false_of, or_false}
use Rattle.lists.specs.Scans.{Every, any_of}
use Rattle.lists.specs.laws.Scans.{every_map, every_two, first_none}
use Rattle.units.specs.Sizes.{top}
use Rattle.sidefile.specs.Encode.{image_sum}
use Rattle.slots.specs.laws.Sits.{slot_found, slot_occupied, changed_found}
use Rattle.slots.specs.Table.{page_at, vacant}
use Rattle.ledger.specs.laws.Aged.{stay_split, leaving_written, due_unchanged, due_changed, not_due}
use Rattle.ledger.specs.laws.Closing.{IsStay, changed_entry, left_leaving}
use Rattle.ledger.specs.laws.Due.{due_in}
use Rattle.ledger.specs.Entries.{page_of, place_of, has, find, is_owed}
use Rattle.ledger.specs.laws.Ordered.{any_put, find_some}
use Rattle.ledger.specs.declared.Entry.{Entry}
use Rattle.recorder.specs.Close.{open_tick, changed_in, changes, free_places, fresh_entries, staying, after, closed, suffices}
use Rattle.recorder.specs.World.{World, slot_count, wait_of, entries_of, slot_bytes, base_bytes, image_bytes, slot_for, bytes_in}
use Rattle.recorder.specs.laws.Closed.{page_closed, vacant_closed, slot_bytes_closed, closing_of, fresh_new, after_later, enough, bytes_held, entries_closed}
use Rattle.promises.specs.closes.ClosedFiles.{NewIn, StayIn, images_after, base_none, Based, base_after}
use Rattle.promises.specs.closes.ClosedRules.{early_closed, front_closed, ruled_closed}
use Rattle.recorder.specs.laws.Facts.{EntryFacts, end_small, seats}
use Rattle.promises.specs.worlds.Good.{Good, view, view_by}

-- what a desk reads of a page that has an entry, and of one that has none
module _ (w : World) (p : ℕ) where
  pub view_some : (e : Entry) → find p (entries_of w) ≡ some e → view w p ≡ image_bytes w (place_of e)
  unfolding view
  view_some e h = rw h

  pub view_none : find p (entries_of w) ≡ none → view w p ≡ base_bytes w p
  unfolding view
  view_none h = rw h

-- what is known of each entry before the close
record Old (w : World) (e : Entry) : Type 0 where
  facts : EntryFacts w e
  summed : image_sum e.page (image_bytes w (place_of e)) ≡ e.sum
  written : is_owed (wait_of w) w.state.closed e ≡ false → image_bytes w (place_of e) ≡ base_bytes w (page_of e)

module _ (w : World) (g : Good w) (sf : suffices w ≡ true) (lt : w.state.closed.0 < top) where
  old_facts : Every (Old w) (entries_of w)
  old_facts =
      every_map (λ e h. record { facts = h.0; summed = h.1.0; written = h.1.1 }) (entries_of w)
      (every_two (entries_of w) g.ruled.facts.each (every_two (entries_of w) g.sums g.written))

  -- each entry after the close, with its image
  abbrev Later : Entry → Type 0
  Later e = NewIn w g.ruled sf lt e ⊎ (StayIn w g.ruled sf lt e × Old w e)

  later_facts : Every Later (after w)
  later_facts = images_after w g.ruled sf lt old_facts

  -- a page that did not change: its slot has what a desk would read before the close
  unchanged_held : (p i : ℕ) → p < w.state.end → slot_for w p ≡ some i → changed_in w p ≡ false → slot_bytes w i ≡ view w p
  unfolding slot_for changed_in
  unchanged_held p i b h c =
      let f = slot_found (slot_count w) w.state.slots p i h in
      let small : p < 4294967295 = omega (arith, end_small w g.ruled) in
      g.slots i f.0 (slot_occupied (slot_count w) w.state.slots p i small h) (sym (changed_found (seats w g.ruled) p i small h) ∙ c)
      ∙ ap (view w) f.1

  stay_unchanged : (e : Entry) → IsStay (closing_of w) e → changed_in w (page_of e) ≡ false
  stay_unchanged e s = (stay_split (wait_of w) (changed_in w) e (open_tick w) s.stays).0

  -- a page without an entry after the close did not change, and a desk would have read it in the base
  none_unchanged : (p : ℕ) → p < w.state.end → any_of (has p) (after w) ≡ false → changed_in w p ≡ false
  unfolding after changes free_places
  none_unchanged p b n =
      false_of (changed_in w p)
      (λ c.
      not_both (any_of (has p) (fresh_entries w)) (rw (fresh_new w) (changed_entry (closing_of w) (enough w sf).0 p b c))
      (or_false (any_of (has p) (fresh_entries w)) (any_of (has p) (staying w)) (sym (any_put (has p) (fresh_entries w) (staying w)) ∙ n)).0)

  none_view : (p : ℕ) → changed_in w p ≡ false → find p (after w) ≡ none → view w p ≡ base_bytes w p
  none_view p c n = go (find p (entries_of w)) refl
    where
      go : (o : Option Entry) → find p (entries_of w) ≡ o → view w p ≡ base_bytes w p
      go none h = view_none w p h
      go (some y) h =
          let f = find_some p (entries_of w) y old_facts h in
          let l = left_leaving (closing_of w) g.ruled.facts.ascends p y c (ap (find p) (sym (after_later w)) ∙ n) h in
          view_some w p y h
          ∙ f.1.written (leaving_written (wait_of w) (changed_in w) y w.state.closed.0 f.1.facts.entered_first l)
          ∙ ap (base_bytes w) f.0

  -- Slots.

  slots_view : (i : ℕ) → i < slot_count w → vacant w.state.slots i ≡ false → (o : Option Entry) → find (page_at w.state.slots i) (after w) ≡ o
      → slot_bytes w i ≡ view_by (closed w) (page_at w.state.slots i) o
  unfolding slot_for find
  slots_view i h v o e =
      let s = seats w g.ruled in
      go (page_at w.state.slots i) (s.low i h v) (s.found i h v) o e
    where
      image : (p : ℕ) → p < w.state.end → slot_for w p ≡ some i → (x : Entry) → page_of x ≡ p → Later x → slot_bytes w i ≡ image_bytes (closed w) (place_of x)
      image p b k x z (inl n) = sym (n.1 ∙ ap (bytes_in w) z ∙ bytes_held w g.ruled p i k)
      image p b k x z (inr n) =
          unchanged_held p i b k (ap (changed_in w) (sym z) ∙ stay_unchanged x n.0.0)
          ∙ view_some w p x (ap (λ (q : ℕ). find q (entries_of w)) (sym z) ∙ n.0.0.found)
          ∙ sym n.0.1

      go : (p : ℕ) → p < w.state.end → slot_for w p ≡ some i → (o : Option Entry) → find p (after w) ≡ o → slot_bytes w i ≡ view_by (closed w) p o
      go p b k (some x) e = let f = find_some p (after w) x later_facts e in image p b k x f.0 f.1
      go p b k none e =
          let n : any_of (has p) (after w) ≡ false = first_none (has p) (after w) e in
          let c = none_unchanged p b n in
          unchanged_held p i b k c ∙ none_view p c e ∙ sym (base_none w g.ruled sf lt p n)

  -- What is not owed any more is in the base.

  written_after : Every (λ e. is_owed (wait_of w) (open_tick w) e ≡ false → image_bytes (closed w) (place_of e) ≡ base_bytes (closed w) (page_of e)) (after w)
  written_after = every_map one (after w) (every_two (after w) later_facts (base_after w g.ruled sf lt))
    where
      -- a staying page's slot has its image
      stay_bytes : (e : Entry) → IsStay (closing_of w) e → EntryFacts w e → (i : ℕ) → slot_for w (page_of e) ≡ some i → bytes_in w (page_of e) ≡ image_bytes w (place_of e)
      stay_bytes e s f i h =
          bytes_held w g.ruled (page_of e) i h
          ∙ unchanged_held (page_of e) i f.page_below h (stay_unchanged e s)
          ∙ view_some w (page_of e) e s.found

      stay : (e : Entry) → IsStay (closing_of w) e → Old w e → Based w g.ruled sf lt e → is_owed (wait_of w) (open_tick w) e ≡ false
          → (d : Bool) → due_in (closing_of w) e ≡ d → image_bytes w (place_of e) ≡ base_bytes (closed w) (page_of e)
      stay e s o b k true d =
          let i = o.facts.owed_held (due_unchanged (wait_of w) (changed_in w) e w.state.closed.0 (stay_unchanged e s) d) in
          sym (b.due d ∙ stay_bytes e s o.facts i.0 i.1)
      stay e s o b k false d = o.written (not_due (wait_of w) (changed_in w) e w.state.closed.0 d k) ∙ sym (b.rests d)

      one : (e : Entry) → Later e × Based w g.ruled sf lt e → is_owed (wait_of w) (open_tick w) e ≡ false
          → image_bytes (closed w) (place_of e) ≡ base_bytes (closed w) (page_of e)
      one e (inl n, b) k = n.1 ∙ sym (b.due (due_changed (wait_of w) (changed_in w) e (open_tick w) n.0.is_changed k))
      one e (inr n, b) k = n.0.1 ∙ stay e n.0.0 n.1 b k (due_in (closing_of w) e) refl

  sums_after : Every (λ e. image_sum e.page (image_bytes (closed w) (place_of e)) ≡ e.sum) (after w)
  sums_after = every_map one (after w) later_facts
    where
      one : (e : Entry) → Later e → image_sum e.page (image_bytes (closed w) (place_of e)) ≡ e.sum
      one e (inl n) = ap (image_sum e.page) n.1 ∙ sym n.0.summed
      one e (inr n) = ap (image_sum e.page) n.0.1 ∙ n.1.summed

  -- The whole.

  view_closed : (p : ℕ) → view (closed w) p ≡ view_by (closed w) p (find p (after w))
  unfolding view
  view_closed p = ap (λ (es : List Entry). view_by (closed w) p (find p es)) (entries_closed w g.ruled sf lt)

  pub good_closed : Good (closed w)
  unfolding closed
  good_closed =
      record {
        ruled = ruled_closed w g.ruled sf lt;
        two = g.two;
        ending = w.state.end;
        ended = omega arith;
        front = front_closed w g.ruled sf lt;
        early = subst (λ (es : List Entry). Every (λ e. page_of e < w.state.end) es) (sym (entries_closed w g.ruled sf lt)) (early_closed w g.ruled sf lt);
        sums = subst (λ (es : List Entry). Every (λ e. image_sum e.page (image_bytes (closed w) (place_of e)) ≡ e.sum) es) (sym (entries_closed w g.ruled sf lt)) sums_after;
        slots =
            λ i m v c.
            slot_bytes_closed w i
            ∙ slots_view i m (sym (vacant_closed w i) ∙ v) (find (page_at w.state.slots i) (after w)) refl
            ∙ sym (view_closed (page_at w.state.slots i))
            ∙ ap (view (closed w)) (sym (page_closed w i));
        written =
            subst (λ (es : List Entry). Every (λ e. is_owed (wait_of w) (open_tick w) e ≡ false → image_bytes (closed w) (place_of e) ≡ base_bytes (closed w) (page_of e)) es)
            (sym (entries_closed w g.ruled sf lt)) written_after;
        newer = λ p a b k. absurd (omega arith);
      }

  pub ending_closed : good_closed.ending ≡ w.state.end
  unfolding good_closed
  ending_closed = refl
