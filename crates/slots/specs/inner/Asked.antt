-- What the methods ask of a table, and that the slot rules give it. Assumes nothing.
use Rattle.std.specs.Prelude.{ℕ, ◌+◌, ◌<◌, ◌≤◌, ◌≡◌, Bool, true, false}
use Rattle.std.proofs.Math.Path.{refl, subst}
use Rattle.std.proofs.Math.Option.{Option, some, none}
use Rattle.std.proofs.Common.{arith}
use Rattle.slots.specs.Table.{no_page, page_at, vacant, slot_of, lowest_empty, victim, uses, times, loaded, Seat, seat_in, seated}
use Rattle.slots.specs.inner.Answers.{taken}
use Rattle.slots.specs.laws.Order.{not_some, same_some}
use Rattle.slots.specs.laws.Sits.{Sits, lowest_empty_lem, victim_slot, slot_found, slot_occupied}
use Rattle.slots.specs.laws.Moves.{load_placed}
use Rattle.slots.specs.declared.Slots.{Slots}

-- a page may come into slot i: the order of use has room for it, or lists the page that is evicted once
abbrev pub Takes : ℕ → Bool → Slots → Type 0
Takes i false t = (i < 16) × (t.used < 16)
Takes i true t = (i < 16) × (t.used ≤ 16) × (times (page_at t i) (uses t) ≡ 1)

pub takes_low : (i : ℕ) (evicts : Bool) (t : Slots) → Takes i evicts t → i < 16
takes_low i false t h = h.0
takes_low i true t h = h.0

-- the table of a seat is the one with the page in it
module _ (S : ℕ) (mask : ℕ → Bool) (p : ℕ) (t : Slots) (x : Seat) (e : seated S mask p t ≡ some x) where
  pub seat_table : x.table ≡ taken x.slot x.evicts p t
  unfolding seated seat_in
  seat_table = go (lowest_empty S t) (victim S mask t) e
    where
      go : (a v : Option ℕ) → seat_in a v p t ≡ some x → x.table ≡ taken x.slot x.evicts p t
      go (some i) v e = subst (λ (x : Seat). x.table ≡ taken x.slot x.evicts p t) (same_some refl e) refl
      go none (some i) e = subst (λ (x : Seat). x.table ≡ taken x.slot x.evicts p t) (same_some refl e) refl
      go none none e = absurd (not_some refl e)

module _ {S end : ℕ} {t : Slots} (s : Sits S end t) where
  pub touch_asks : (p i : ℕ) → p < no_page → slot_of S t p ≡ some i → (t.used ≤ 16) × (times p (uses t) ≡ 1)
  touch_asks p i b h =
      let f = slot_found S t p i h in
      (s.used, rw f.1 at (s.once i f.0 (slot_occupied S t p i b h)))

  load_asks : end ≤ no_page → (i : ℕ) → i < S → vacant t i ≡ true → Takes i false t
  unfolding loaded
  load_asks small i h v =
      let u : t.used + 1 ≤ 16 = (load_placed s small i 0 h v).used in
      (omega (arith, s.few), omega arith)

  evict_asks : (i : ℕ) → i < S → vacant t i ≡ false → Takes i true t
  evict_asks i h v = (omega (arith, s.few), s.used, s.once i h v)

  pub seat_asks : end ≤ no_page → (mask : ℕ → Bool) (p : ℕ) (x : Seat) → seated S mask p t ≡ some x → Takes x.slot x.evicts t
  unfolding seated seat_in
  seat_asks small mask p x e = go (lowest_empty S t) refl (victim S mask t) refl e
    where
      go : (a : Option ℕ) → lowest_empty S t ≡ a → (v : Option ℕ) → victim S mask t ≡ v → seat_in a v p t ≡ some x → Takes x.slot x.evicts t
      go (some i) a v c e =
          let l = lowest_empty_lem S t i a in
          subst (λ (x : Seat). Takes x.slot x.evicts t) (same_some refl e) (load_asks small i l.0 l.1)
      go none a (some i) c e =
          let l = victim_slot s mask small i c in
          subst (λ (x : Seat). Takes x.slot x.evicts t) (same_some refl e) (evict_asks i l.0 l.2)
      go none a none c e = absurd (not_some refl e)
