-- The two files after a close of a world that follows the state rules: a new entry's image is the bytes of its page's slot, and
-- every other image is as it was; the base's page of a due entry is the bytes of its slot, and every other page is as it was.
-- Assumes nothing.
use Rattle.std.specs.Prelude.{ℕ, ◌+◌, ◌*◌, ◌<◌, ◌≡◌, refl, true, false, ◌⊎◌}
use Rattle.std.proofs.Common.{◌∙◌, sym, arith}
use Rattle.std.proofs.Math.Path.{ap}
use mathlib.Core.List.{List}
use Rattle.std.proofs.Math.Logic.{inl, inr}
use Rattle.std.proofs.Math.Option.{Option, some, none}
use Rattle.lists.specs.Scans.{Every, any_of}
use Rattle.lists.specs.laws.Scans.{every_map, every_two, every_all}
use Rattle.octets.specs.laws.Part.{part_lay_after}
use Rattle.octets.specs.Rows.{row}
use Rattle.units.specs.Sizes.{top, places, first_image, image_at}
use Rattle.slots.specs.laws.Order.{not_some}
use Rattle.ledger.specs.laws.Closing.{IsNew, IsStay, new_of, stays_of, later_of, new_facts, apart_new, stay_facts, stay_places, every_stay}
use Rattle.ledger.specs.laws.Due.{due_in, due_of, due_facts, due_here, due_not_here, due_nowhere}
use Rattle.ledger.specs.laws.Laid.{Fits, row_beside, row_here}
use Rattle.ledger.specs.Entries.{page_of, place_of, has, at, is_owed}
use Rattle.ledger.specs.laws.Ordered.{every_put, self_at, one_place}
use Rattle.ledger.specs.declared.Entry.{Entry}
use Rattle.recorder.specs.Close.{changes, free_places, given, fresh_entries, staying, after, due_entries, closed, suffices}
use Rattle.recorder.specs.World.{World, page_size, wait_of, entries_of, base_bytes, image_bytes, slot_for, bytes_in}
use Rattle.recorder.specs.laws.Closed.{slot_closed, slot_bytes_closed, closing_of, fresh_new, after_later, due_of_lem, changed_held, length_held}
use Rattle.promises.specs.closes.ClosedRules.{front_before}
use Rattle.recorder.specs.laws.Facts.{EntryFacts, Ruled}
use Rattle.promises.specs.worlds.Good.{has_by, contents}
use Rattle.recorder.specs.laws.Stored.{image_start, page_start, held_bytes, imaged, front_after, side_stored, base_stored}

module _ (w : World) (r : Ruled w) (sf : suffices w ≡ true) (lt : w.state.closed.0 < top) where
  -- Images.

  new_fits : Fits (image_start w) (held_bytes w) (first_image w.state.settings) (page_size w) (places w.state.settings) place_of (fresh_entries w)
  unfolding image_at
  new_fits =
      rw (fresh_new w)
      (every_map (λ e n. let i = changed_held w r (page_of e) n.is_changed in (refl, n.place_below, length_held w r (page_of e) i.0 i.1))
      (new_of (closing_of w)) (new_facts (closing_of w)))

  image_laid : (q : ℕ) → image_bytes (closed w) q ≡ row (first_image w.state.settings) (page_size w) q (imaged w)
  unfolding image_bytes closed row
  image_laid q =
      ap (row (first_image w.state.settings) (page_size w) q) (side_stored w)
      ∙ part_lay_after (imaged w) 0 (front_after w) (first_image w.state.settings + q * page_size w) (page_size w) (omega (arith, front_before w r sf lt))

  pub image_other : (q : ℕ) → Every (λ e. place_of e ≡ q → ⊥) (fresh_entries w) → image_bytes (closed w) q ≡ image_bytes w q
  unfolding image_bytes
  image_other q n =
      image_laid q
      ∙ row_beside (image_start w) (held_bytes w) (first_image w.state.settings) (page_size w) (places w.state.settings) place_of q (fresh_entries w) w.side
      r.lengths.side_long new_fits n

  pub image_new : Every (λ e. image_bytes (closed w) (place_of e) ≡ bytes_in w (page_of e)) (fresh_entries w)
  unfolding at
  image_new =
      every_map one (fresh_entries w) (every_two (fresh_entries w) (one_place (fresh_entries w) (rw (fresh_new w) (apart_new (closing_of w)))) (self_at (fresh_entries w)))
    where
      one : (e : Entry) → Every (λ y. place_of y ≡ place_of e → y ≡ e) (fresh_entries w) × (any_of (at (place_of e)) (fresh_entries w) ≡ true)
          → image_bytes (closed w) (place_of e) ≡ bytes_in w (page_of e)
      one e h =
          image_laid (place_of e)
          ∙ row_here (image_start w) (held_bytes w) (first_image w.state.settings) (page_size w) (places w.state.settings) place_of (place_of e) (bytes_in w (page_of e))
          (fresh_entries w) w.side r.lengths.side_long new_fits (every_map (λ y k z. ap (held_bytes w) (k z)) (fresh_entries w) h.0) h.1

  -- each entry after the close with its image, a staying one with what held of it before
  abbrev pub NewIn : Entry → Type 0
  NewIn e = IsNew (closing_of w) e × (image_bytes (closed w) (place_of e) ≡ bytes_in w (page_of e))

  abbrev pub StayIn : Entry → Type 0
  StayIn e = IsStay (closing_of w) e × (image_bytes (closed w) (place_of e) ≡ image_bytes w (place_of e))

  pub images_after : {P : Entry → Type 0} → Every P (entries_of w) → Every (λ e. NewIn e ⊎ (StayIn e × P e)) (after w)
  unfolding after fresh_entries given changes free_places staying
  images_after old =
      let c = closing_of w in
      every_put (new_of c) (stays_of c) (every_map (λ e h. inl h) (new_of c) (every_two (new_of c) (new_facts c) image_new))
      (every_map (λ e h. inr ((h.0, image_other (place_of e) h.1.0), h.1.1.1)) (stays_of c)
      (every_two (stays_of c) (stay_facts c r.facts.ascends r.facts.alone) (every_two (stays_of c) (stay_places c) (every_stay c old))))

  -- Pages of the base.

  -- a due entry's page is in a slot: it is changed, or it was owed
  dues_held : Every (λ e. (page_of e < w.state.end) × ((i : ℕ) × (slot_for w (page_of e) ≡ some i))) (due_entries w)
  dues_held = rw (due_of_lem w) (every_map one (due_of (closing_of w)) (due_facts (closing_of w) r.facts.ascends r.facts.alone r.facts.each))
    where
      one : (e : Entry) → IsNew (closing_of w) e ⊎ (IsStay (closing_of w) e × (is_owed (wait_of w) w.state.closed e ≡ true) × EntryFacts w e)
          → (page_of e < w.state.end) × ((i : ℕ) × (slot_for w (page_of e) ≡ some i))
      one e (inl n) = (n.page_below, changed_held w r (page_of e) n.is_changed)
      one e (inr (s, o, f)) = (f.page_below, f.owed_held o)

  due_fits : Fits (page_start w) (held_bytes w) 0 (page_size w) w.state.settings.capacity page_of (due_entries w)
  due_fits =
      every_map (λ e h. (omega arith, omega (arith, h.0, r.facts.ended), length_held w r (page_of e) h.1.0 h.1.1)) (due_entries w) dues_held

  pub base_other : (p : ℕ) → Every (λ e. page_of e ≡ p → ⊥) (due_entries w) → base_bytes (closed w) p ≡ base_bytes w p
  unfolding base_bytes closed
  base_other p n =
      ap (row 0 (page_size w) p) (base_stored w)
      ∙ row_beside (page_start w) (held_bytes w) 0 (page_size w) w.state.settings.capacity page_of p (due_entries w) w.base r.lengths.base_long due_fits n

  -- a page without an entry after the close
  pub base_none : (p : ℕ) → any_of (has p) (after w) ≡ false → base_bytes (closed w) p ≡ base_bytes w p
  unfolding after fresh_entries given changes free_places staying
  base_none p h = base_other p (rw (due_of_lem w) (due_nowhere (closing_of w) p h))

  -- of each entry after the close: its page is written if it is due, and else as it was
  pub record Based (e : Entry) : Type 0 where
    pub due : due_in (closing_of w) e ≡ true → base_bytes (closed w) (page_of e) ≡ bytes_in w (page_of e)
    pub rests : due_in (closing_of w) e ≡ false → base_bytes (closed w) (page_of e) ≡ base_bytes w (page_of e)

  pub base_after : Every Based (after w)
  unfolding has base_bytes closed
  base_after = rw (after_later w) (every_map one later (every_two later (due_here (closing_of w)) (due_not_here (closing_of w) r.facts.ascends)))
    where
      later : List Entry
      later = later_of (closing_of w)

      one : (e : Entry)
          → (due_in (closing_of w) e ≡ true → any_of (has (page_of e)) (due_of (closing_of w)) ≡ true)
          × (due_in (closing_of w) e ≡ false → Every (λ y. page_of y ≡ page_of e → ⊥) (due_of (closing_of w)))
          → Based e
      one e (a, b) =
          record {
            due =
                λ d.
                ap (row 0 (page_size w) (page_of e)) (base_stored w)
                ∙ row_here (page_start w) (held_bytes w) 0 (page_size w) w.state.settings.capacity page_of (page_of e) (bytes_in w (page_of e)) (due_entries w) w.base
                r.lengths.base_long due_fits (every_all (λ y z. ap (bytes_in w) z) (due_entries w)) (rw (due_of_lem w) (a d));
            rests = λ d. base_other (page_of e) (rw (due_of_lem w) (b d));
          }

  -- What a page has for the recorder: a page that is written to the base is in a slot.

  pub contents_closed : (p : ℕ) → contents (closed w) p ≡ contents w p
  unfolding contents
  contents_closed p = rw (slot_closed w p) (go (slot_for w p) refl)
    where
      go : (o : Option ℕ) → slot_for w p ≡ o → has_by (closed w) p o ≡ has_by w p o
      go (some i) h = slot_bytes_closed w i
      go none h = base_other p (every_map (λ e k z. not_some h (ap (slot_for w) (sym z) ∙ k.1.1)) (due_entries w) dues_held)
