-- A metadata page used: what the state rules say of slots and lengths, what the code answers by where the page was found, and
-- that the page may be used in the slot that is answered. Assumes nothing.
use Prim.Native.Nat.{ℕ, ◌+◌, ◌*◌, ◌<◌, ◌≤◌}
use mathlib.Core.Path.{◌≡◌, refl, ◌∙◌, sym, ap, subst}
use mathlib.Core.Bool.{Bool, true, false, ◌||◌}
use mathlib.Core.List.{List, [], map}
use mathlib.Core.Option.{Option, some, none}
use native.Mathlib.Omega.{arith}
use lib.ListN.{length, get_or}
use lib.Dec.{eqb, ltb}
use borrow.Author.Tests.{eqb-true, ltb-true, leb-true}
use Rattle.lists.specs.Below.{below}
use Rattle.lists.specs.laws.Below.{all_from_lem}
use Rattle.lists.specs.laws.Bools.{or_drop}
use Rattle.lists.specs.Scans.{all_of}
use Rattle.std.specs.Prelude as Maybe
use Rattle.octets.specs.laws.Rows.{row_in}
use Rattle.units.specs.laws.Bounds.{Within, limits_within}
use Rattle.units.specs.Sizes.{entry_row, places_at, ledger_length}
use Rattle.sidefile.specs.Judge.{ascending}
use Rattle.slots.specs.inner.Lent.{table_of}
use Rattle.slots.specs.inner.Answers.{seating}
use Rattle.slots.specs.inner.Asked.{Takes, seat_asks}
use Rattle.slots.specs.laws.Sits.{Whole, Sits, SlotFacts, slot_facts, sits, slot_found, slot_occupied, lowest_empty_lem, victim_slot}
use Rattle.slots.specs.laws.Order.{not_some, same_some}
use Rattle.slots.specs.Table.{no_page, slot_of, page_at, vacant, times, uses, lowest_empty, victim, Seat, seat_in, seated}
use Rattle.slots.specs.declared.seats.Seat as Code
use Rattle.slots.specs.declared.Slots.{Slots}
use Rattle.ledger.specs.View.{indexed, entries_in}
use Rattle.recorder.specs.Calls.{unclean, found_in, found, seat_for}
use Rattle.recorder.specs.laws.Facts.{rule_facts}
use Rattle.recorder.specs.Outcome.{lent}
use Rattle.recorder.specs.Rules.{rules}
use Rattle.recorder.specs.inner.Using.{use_of, Places, Seated, Chosen}
use Rattle.recorder.specs.World.{World, page_size, slot_count, entries_of, slot_for}
use Rattle.recorder.specs.declared.State.{State}
use Rattle.recorder.specs.declared.buffer.Use.TheVariants.{Hit, Taken}
use Rattle.recorder.proofs.Masks.{seat_mask}

-- the world of a function that is lent the ledger alone, and what it sees as the whole one does
abbrev pub alone : World → World
alone w = lent w.state w.ledger [] [] [] []

pub rules_alone : (w : World) → rules (alone w) ≡ rules w
unfolding rules slot_for
rules_alone w = refl

pub found_alone : (w : World) (p : ℕ) → found (alone w) p ≡ found w p
unfolding found slot_for unclean entries_of
found_alone w p = refl

pub seat_alone : (w : World) (p : ℕ) → seat_for (alone w) p ≡ seat_for w p
unfolding unclean entries_of
seat_alone w p = refl

-- the slot of a page, by the pages in the slots alone
pub slot_lent : (st : State) (ledger : List ℕ) (p : ℕ) → slot_for (lent st ledger [] [] [] []) p ≡ slot_of st.settings.slots (table_of st.slots.pages []) p
unfolding slot_for slot_of page_at
slot_lent st ledger p = refl

-- what the state rules say
module _ (w : World) (r : rules w ≡ true) where
  pub entries_long : w.state.entries * entry_row ≤ length w.ledger
  unfolding ledger_length places_at
  entries_long = let f = rule_facts w r in omega (arith, f.counted, f.ledger_long)

  pub ruled_within : Within w.state.settings
  ruled_within = limits_within w.state.settings (rule_facts w r).limited

  pub ruled_end : w.state.end ≤ 65535
  ruled_end = omega (arith, (rule_facts w r).ended, ruled_within.capacity_most)

  pub ruled_used : w.state.slots.used ≤ 16
  ruled_used = leb-true w.state.slots.used 16 (slot_facts (slot_count w) w.state.end w.state.slots (rule_facts w r).slots).used

  -- page p and slot i as bytes
  pub page_in : (p : ℕ) → p < w.state.settings.capacity → p * page_size w + page_size w ≤ w.state.settings.capacity * page_size w
  page_in p h = row_in (page_size w) p w.state.settings.capacity h

  pub slot_room : (i : ℕ) → i < slot_count w → i * page_size w + page_size w ≤ slot_count w * page_size w
  slot_room i h = row_in (page_size w) i (slot_count w) h

-- what the ledger is asked by
pub search_asks : (st : State) (ledger : List ℕ) → rules (lent st ledger [] [] [] []) ≡ true
    → (st.entries * entry_row ≤ length ledger) × (ascending 0 (map indexed (entries_in st.entries ledger)) ≡ true)
unfolding entries_of
search_asks st ledger r = (entries_long _ r, (rule_facts _ r).ascends)

-- the slot of a seat is one
seat_low : {S end : ℕ} {t : Slots} → Sits S end t → end ≤ no_page → (mask : ℕ → Bool) (p : ℕ) (x : Seat) → seated S mask p t ≡ some x → x.slot < S
unfolding seated seat_in
seat_low {S} {end} {t} s small mask p x e = go (lowest_empty S t) refl (victim S mask t) refl e
  where
    go : (a : Option ℕ) → lowest_empty S t ≡ a → (v : Option ℕ) → victim S mask t ≡ v → seat_in a v p t ≡ some x → x.slot < S
    go (some i) a v c e = subst (λ (x : Seat). x.slot < S) (same_some refl e) (lowest_empty_lem S t i a).0
    go none a (some i) c e = subst (λ (x : Seat). x.slot < S) (same_some refl e) (victim_slot s mask small i c).0
    go none a none c e = absurd (not_some refl e)

-- a table that keeps the rules: a page found there may be used, and a page that the file does not have yet is in no slot
module _ (w : World) (r : rules w ≡ true) where
  kept : SlotFacts (slot_count w) w.state.end w.state.slots
  kept = slot_facts (slot_count w) w.state.end w.state.slots (rule_facts w r).slots

  module _ (p i : ℕ) (small : p < no_page) (e : slot_for w p ≡ some i) where
    low : i < slot_count w
    unfolding slot_for
    low = (slot_found (slot_count w) w.state.slots p i e).0

    at : page_at w.state.slots i ≡ p
    unfolding slot_for
    at = (slot_found (slot_count w) w.state.slots p i e).1

    -- what holds of each slot that is not empty holds of this one
    held : (t : ℕ → Bool) → all_of (λ i. vacant w.state.slots i || t i) (below (slot_count w)) ≡ true → t i ≡ true
    unfolding slot_for
    held t h =
        or_drop (vacant w.state.slots i) (t i) (all_from_lem (λ i. vacant w.state.slots i || t i) 0 (slot_count w) i (omega arith) (omega (arith, low)) h)
        (slot_occupied (slot_count w) w.state.slots p i small e)

    pub ruled_hit : (i < slot_count w) × Places (Hit i) p w.state.slots
    ruled_hit =
        let once = eqb-true _ 1 (held (λ i. eqb (times (page_at w.state.slots i) (uses w.state.slots)) 1) kept.once) in
        (low, (ruled_used w r, rw at at once))

    ruled_low : p < w.state.end
    ruled_low = rw at at (ltb-true _ w.state.end (held (λ i. ltb (page_at w.state.slots i) w.state.end) kept.low))

  pub ruled_beyond : (p : ℕ) → w.state.end ≤ p → p < no_page → slot_for w p ≡ none
  ruled_beyond p h small = go (slot_for w p) refl
    where
      go : (o : Option ℕ) → slot_for w p ≡ o → o ≡ none
      go none e = refl
      go (some i) e = absurd (omega (arith, ruled_low p i small e))

-- where a page is used
module _ (st : State) (ledger : List ℕ) (r : rules (lent st ledger [] [] [] []) ≡ true) where
  abbrev w : World
  w = lent st ledger [] [] [] []

  -- the seat that a page gets, as the code finds it by its mask; the slot table has whole arrays
  pub seated_by : Whole st.slots → (mask : List Bool) (o : Maybe.Option Code.Seat) → ((i : ℕ) → i < 16 → get_or mask i false ≡ unclean w i)
      → ((p : ℕ) → o ≡ seating (seated st.settings.slots (λ i. get_or mask i false) p st.slots))
      → (p : ℕ) → p ≤ st.end → Seated w p o
  seated_by whole mask o m e p h =
      let is : o ≡ seating (seat_for w p) = e p ∙ ap seating (seat_mask st.settings.slots st.slots (λ i. get_or mask i false) (unclean w) (λ i k. m i (omega (arith, (ruled_within w r).slots_most))) p) in
      record { is = is; fits = subst (λ o. Maybe.IfSome o Fits) (sym is) (go (seat_for w p) refl) }
    where
      Fits : Code.Seat → Type 0
      Fits s = (s.slot < slot_count w) × Takes s.slot s.evicts st.slots

      go : (q : Option Seat) → seat_for w p ≡ q → Maybe.IfSome (seating q) Fits
      go none f = tt
      go (some x) f =
          let s = sits (slot_count w) st.end st.slots whole (ruled_within w r).slots_most (rule_facts w r).slots in
          let small : st.end ≤ no_page = omega (arith, ruled_end w r) in
          (seat_low s small (unclean w) p x f, seat_asks s small (unclean w) p x f)

  module _ (p : ℕ) (h : p ≤ st.end) where
    small : p < no_page
    small = omega (arith, ruled_end w r)

    pub chosen_hit : (i : ℕ) → slot_for w p ≡ some i → Chosen w p (Maybe.Some (Hit i))
    unfolding found found_in
    chosen_hit i e = record { is = rw e; fits = ruled_hit w r p i small e; absent = λ k. ruled_beyond w r p k small }

    module _ (e : slot_for w p ≡ none) where
      pub chosen_taken : (s : Code.Seat) → Seated w p (Maybe.Some s) → Chosen w p (Maybe.Some (Taken s))
      unfolding found found_in
      chosen_taken s g = record { is = rw e (go (seat_for w p) g.is); fits = g.fits; absent = λ k. e }
        where
          go : (q : Option Seat) → Maybe.Some s ≡ seating q → Maybe.Some (Taken s) ≡ use_of (found_in none q)
          go none h = cc
          go (some x) h = cc

      pub chosen_none : Seated w p Maybe.None → Chosen w p Maybe.None
      unfolding found found_in
      chosen_none g = record { is = rw e (go (seat_for w p) g.is); fits = tt; absent = λ k. e }
        where
          go : (q : Option Seat) → Maybe.None ≡ seating q → Maybe.None ≡ use_of (found_in none q)
          go none h = refl
          go (some x) h = cc
