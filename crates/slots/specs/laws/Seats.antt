-- What a page that needs a slot gets: the lowest empty slot or the victim's, the slot rules kept, the page found there and
-- unchanged, every other page where it was. Read, write and grow all take a slot by this one law. Assumes nothing.
use Rattle.std.specs.Prelude.{ℕ, ◌<◌, ◌≤◌, ◌≡◌, Bool}
use Rattle.std.proofs.Math.Path.{refl}
use Rattle.std.proofs.Common.{subst, true≢false, arith}
use Rattle.std.proofs.Math.Bool.{true, false}
use Rattle.std.proofs.lemmas.Bool.{false≢true}
use Rattle.std.proofs.Math.Option.{Option, some, none}
use Rattle.slots.specs.Table.{no_page, vacant, changed_at, slot_of, lowest_empty, victim, loaded, evicted, Seat, seat_in, seated}
use Rattle.slots.specs.laws.Order.{not_some, same_some}
use Rattle.slots.specs.laws.Sits.{Sits, absent_alone, lowest_empty_lem, lowest_none, victim_slot, victim_masked}
use Rattle.slots.specs.laws.Moves.{Placed, placed_sits, load_placed, evict_placed, slot_new, slot_kept}
use Rattle.slots.specs.declared.Slots.{Slots}

pub record Seated (S end : ℕ) (mask : ℕ → Bool) (p : ℕ) (t : Slots) (seat : Seat) : Type 0 where
  pub slot : seat.slot < S
  pub placed : Placed t seat.table seat.slot p false
  pub sits : Sits S end seat.table
  pub found : slot_of S seat.table p ≡ some seat.slot
  pub others : (q j : ℕ) → slot_of S t q ≡ some j → (j ≡ seat.slot → ⊥) → (slot_of S seat.table q ≡ some j) × (changed_at seat.table j ≡ changed_at t j)
  pub loads : seat.evicts ≡ false → vacant t seat.slot ≡ true
  pub evicts : seat.evicts ≡ true → (vacant t seat.slot ≡ false) × (mask seat.slot ≡ false)

module _ {S end : ℕ} {t : Slots} (s : Sits S end t) (mask : ℕ → Bool) (p : ℕ) where
  pub seat_taken : (end' : ℕ) → slot_of S t p ≡ none → p < end' → end ≤ end' → end' ≤ no_page
      → (seat : Seat) → seated S mask p t ≡ some seat → Seated S end' mask p t seat
  unfolding seated seat_in
  seat_taken end' absent b m small seat e = go (lowest_empty S t) refl (victim S mask t) refl e
    where
      at : (i : ℕ) (t' : Slots) (v : Bool) → i < S → Placed t t' i p false
          → (v ≡ false → vacant t i ≡ true) → (v ≡ true → (vacant t i ≡ false) × (mask i ≡ false))
          → Seated S end' mask p t (record { slot = i; table = t'; evicts = v })
      at i t' v h q l g =
          record {
            slot = h;
            placed = q;
            sits = placed_sits q end' s h (absent_alone S t p absent i) b m small;
            found = slot_new q S h (absent_alone S t p absent i);
            others = λ r j f n. (slot_kept q S r j (λ z. not_some absent (subst (λ (x : ℕ). slot_of S t x ≡ some j) z f)) n f, q.changed_other j n);
            loads = l;
            evicts = g;
          }

      go : (a : Option ℕ) → lowest_empty S t ≡ a → (v : Option ℕ) → victim S mask t ≡ v → seat_in a v p t ≡ some seat → Seated S end' mask p t seat
      go (some i) a v c e =
          let l = lowest_empty_lem S t i a in
          subst (Seated S end' mask p t) (same_some refl e)
          (at i (loaded i p t) false l.0 (load_placed s (omega arith) i p l.0 l.1) (λ _. l.1) (λ f. absurd (false≢true f)))
      go none a (some i) c e =
          let l = victim_slot s mask (omega arith) i c in
          subst (Seated S end' mask p t) (same_some refl e)
          (at i (evicted i p t) true l.0 (evict_placed s i p l.0 l.2) (λ f. absurd (true≢false f)) (λ _. (l.2, l.1)))
      go none a none c e = absurd (not_some refl e)

  pub seat_none : seated S mask p t ≡ none → (i : ℕ) → i < S → (vacant t i ≡ false) × (mask i ≡ true)
  unfolding seated seat_in
  seat_none e = go (lowest_empty S t) refl (victim S mask t) refl e
    where
      go : (a : Option ℕ) → lowest_empty S t ≡ a → (v : Option ℕ) → victim S mask t ≡ v → seat_in a v p t ≡ none
          → (i : ℕ) → i < S → (vacant t i ≡ false) × (mask i ≡ true)
      go (some j) a v c e i h = absurd (not_some e refl)
      go none a (some j) c e i h = absurd (not_some e refl)
      go none a none c e i h = let v = lowest_none S t a i h in (v, victim_masked s mask c i h v)
