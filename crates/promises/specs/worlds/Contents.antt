-- What a metadata page contains for the recorder, in a world that passes the rules and in a good one: its slot's bytes, else
-- the base's, always a page long; what a desk reads, unless it is changed; and what the base has, where no slot holds it.
-- Assumes nothing.
use Rattle.std.specs.Prelude.{ℕ, ◌<◌, ◌≡◌, Bool, true, false, ◌&&◌, length}
use Rattle.std.proofs.Math.Path.{refl, sym, ap}
use Rattle.std.proofs.Common.{◌∙◌, arith, eqb-true}
use Rattle.std.proofs.Math.Option.{Option, some, none}
use Rattle.lists.specs.laws.Bools.{false_of, both}
use Rattle.lists.specs.laws.Scans.{every_two, any_some}
use Rattle.octets.specs.laws.Rows.{length_row}
use Rattle.slots.specs.laws.Order.{not_some}
use Rattle.slots.specs.laws.Sits.{slot_found, slot_occupied, changed_found}
use Rattle.slots.specs.Table.{page_at, vacant, changed_page}
use Rattle.ledger.specs.laws.Aged.{not_owed}
use Rattle.ledger.specs.Entries.{page_of, has, find, is_owed, owed_page}
use Rattle.ledger.specs.laws.Ordered.{find_some}
use Rattle.ledger.specs.declared.Entry.{Entry}
use Rattle.recorder.specs.World.{World, page_size, slot_count, wait_of, entries_of, slot_bytes, base_bytes, slot_for}
use Rattle.recorder.specs.laws.Facts.{Ruled, end_small, seats}
use Rattle.promises.specs.worlds.Good.{view_by, view, has_by, contents, Good}

-- page p is owed in this world
abbrev pub owed_in : World → ℕ → Bool
owed_in w p = owed_page (wait_of w) w.state.closed (entries_of w) p

module _ (w : World) (p : ℕ) where
  pub contents_slot : (i : ℕ) → slot_for w p ≡ some i → contents w p ≡ slot_bytes w i
  unfolding contents
  contents_slot i h = ap (has_by w p) h

  pub contents_base : slot_for w p ≡ none → contents w p ≡ base_bytes w p
  unfolding contents
  contents_base h = ap (has_by w p) h

module _ (w : World) (r : Ruled w) where
  -- a page in a slot: which slot, and that it is not empty
  pub slot_of_lem : (p i : ℕ) → slot_for w p ≡ some i → (i < slot_count w) × (page_at w.state.slots i ≡ p)
  unfolding slot_for
  slot_of_lem p i h = slot_found (slot_count w) w.state.slots p i h

  pub slot_filled : (p i : ℕ) → p < w.state.end → slot_for w p ≡ some i → vacant w.state.slots i ≡ false
  unfolding slot_for
  slot_filled p i b h = slot_occupied (slot_count w) w.state.slots p i (omega (arith, end_small w r)) h

  pub length_slot : (i : ℕ) → i < slot_count w → length (slot_bytes w i) ≡ page_size w
  unfolding slot_bytes
  length_slot i h = length_row 0 (page_size w) w.buffer (slot_count w) r.lengths.buffer_long i h

  pub length_base : (p : ℕ) → p < w.state.end → length (base_bytes w p) ≡ page_size w
  unfolding base_bytes
  length_base p h = length_row 0 (page_size w) w.base w.state.settings.capacity r.lengths.base_long p (omega (arith, r.facts.ended))

  pub length_contents : (p : ℕ) → p < w.state.end → length (contents w p) ≡ page_size w
  length_contents p h = go (slot_for w p) refl
    where
      go : (o : Option ℕ) → slot_for w p ≡ o → length (contents w p) ≡ page_size w
      go none e = ap length (contents_base w p e) ∙ length_base p h
      go (some i) e = ap length (contents_slot w p i e) ∙ length_slot i (slot_of_lem p i e).0

  -- an owed page is in a slot
  pub owed_slot : (p : ℕ) → owed_in w p ≡ true → (i : ℕ) × (slot_for w p ≡ some i)
  unfolding owed_page has
  owed_slot p h =
      let x = any_some (λ e. has p e && is_owed (wait_of w) w.state.closed e) (entries_of w) r.facts.each h in
      let b = both (has p x.0) (is_owed (wait_of w) w.state.closed x.0) x.1 in
      let s = x.2.owed_held b.1 in
      (s.0, ap (slot_for w) (sym (eqb-true (page_of x.0) p b.0)) ∙ s.1)

  pub absent_settled : (p : ℕ) → slot_for w p ≡ none → owed_in w p ≡ false
  absent_settled p h = false_of (owed_in w p) (λ o. not_some h (owed_slot p o).1)

module _ (w : World) (g : Good w) where
  -- a page that is not owed: the desk reads what the base has
  pub settled : (p : ℕ) → owed_in w p ≡ false → view w p ≡ base_bytes w p
  unfolding view
  settled p h = go (find p (entries_of w)) refl
    where
      go : (o : Option Entry) → find p (entries_of w) ≡ o → view_by w p o ≡ base_bytes w p
      go none e = refl
      go (some x) e =
          let f = find_some p (entries_of w) x (every_two (entries_of w) g.written (not_owed (wait_of w) w.state.closed (entries_of w) p h)) e in
          f.1.0 (f.1.1 f.0) ∙ ap (base_bytes w) f.0

  -- an unchanged page contains what a desk reads
  pub contents_view : (p : ℕ) → p < w.state.end → changed_page (slot_count w) w.state.slots p ≡ false → contents w p ≡ view w p
  unfolding slot_for
  contents_view p h c = go (slot_for w p) refl
    where
      go : (o : Option ℕ) → slot_for w p ≡ o → contents w p ≡ view w p
      go none e = contents_base w p e ∙ sym (settled p (absent_settled w g.ruled p e))
      go (some i) e =
          let f = slot_of_lem w g.ruled p i e in
          contents_slot w p i e
          ∙ g.slots i f.0 (slot_filled w g.ruled p i h e) (sym (changed_found (seats w g.ruled) p i (omega (arith, end_small w g.ruled)) e) ∙ c)
          ∙ ap (view w) f.1
