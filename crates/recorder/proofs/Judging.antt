-- The judge that a call begins with: its answer, as far as the rules were looked at. Assumes nothing.
use Prim.Native.Nat.{ℕ, ◌*◌, ◌<◌, ◌≤◌}
use native.Mathlib.Omega.{arith}
use mathlib.Core.Path.{◌≡◌, refl, sym}
use mathlib.Core.Bool.{Bool, true, false, ◌&&◌, ◌||◌}
use mathlib.Core.List.{List, [], ◌∷◌}
use mathlib.Core.Option.{some}
use lib.Dec.{eqb, leb}
use lib.ListN.{length, get_or, take}
use Rattle.std.specs.List.{list_all, All}
use Rattle.lists.specs.Below.{below}
use Rattle.lists.specs.Bools.{if_then}
use Rattle.lists.specs.Scans.{Every, any_of, all_of, first}
use Rattle.lists.specs.laws.Scans.{every_map}
use Rattle.units.specs.Refusals as Refusals
use Rattle.units.specs.laws.Bounds.{limits_within}
use Rattle.units.specs.Sizes.{limits, entries, entry_row, places_at, ledger_length}
use Rattle.units.specs.Tests.{verdict}
use Rattle.units.specs.declared.Settings.{Settings}
use Rattle.slots.specs.Rules.{is_some, slot_rules}
use Rattle.slots.specs.Table.{page_at, slot_of}
use Rattle.slots.specs.declared.Slots.{Slots}
use Rattle.ledger.specs.Entries.{page_of}
use Rattle.ledger.specs.inner.Fits.{sits}
use Rattle.ledger.specs.Rules.{ledger_rules}
use Rattle.ledger.specs.View.{entries_in}
use Rattle.ledger.specs.declared.Entry.{Entry}
use Rattle.recorder.specs.laws.Facts.{RuleFacts, rule_facts, long_facts}
use Rattle.recorder.specs.Outcome.{lent}
use Rattle.recorder.specs.Rules.{rules, long_enough, kind_rules, standing}
use Rattle.recorder.specs.inner.Seats.{SeatBelow, seat_fits}
use Rattle.recorder.specs.World.{entries_of, slot_for, zero_state}
use Rattle.recorder.specs.declared.State.{State}
use Rattle.recorder.proofs.Passes.{table_below, table_fits}

-- A page is in a slot where the judge of the ledger finds it among the seats.

some_first : (t : ℕ → Bool) (l : List ℕ) → is_some (first t l) ≡ any_of t l
unfolding first any_of
some_first t [] = refl
some_first t (x ∷ xs) = go (t x) (some_first t xs)
  where
    go : (b : Bool) → is_some (first t xs) ≡ any_of t xs → is_some (if_then b (some x) (first t xs)) ≡ (b || any_of t xs)
    go true h = refl
    go false h = h

pub seated_found : (S : ℕ) (t : Slots) → sits S t.pages ≡ (λ p. is_some (slot_of S t p))
unfolding sits slot_of page_at
seated_found S t = λ i p. sym (some_first (λ k. eqb (page_at t k) p) (below S)) i

-- The rules that need no other slice than the ledger, as the code asks them.

module _ (st : State) (ledger : List ℕ) where
  abbrev s : Settings
  s = st.settings

  pub rules_asked : rules (lent st ledger [] [] [] [])
      ≡ (limits s && leb (ledger_length s) (length ledger) && leb st.end s.capacity && leb st.entries (entries s) && slot_rules s.slots st.end st.slots && ledger_rules s st.end st.closed (sits s.slots st.slots.pages) st.entries ledger)
  unfolding rules slot_for
  rules_asked = rw (seated_found s.slots st.slots)

pub limits_slots : (s : Settings) → limits s ≡ true → s.slots ≤ 16
limits_slots s h = (limits_within s h).slots_most

-- Slots and entries are of metadata pages.

module _ (st : State) (ledger kinds : List ℕ) where
  pub kinds_asked : st.settings.slots ≤ 16 → length st.slots.pages ≡ 16
      → kind_rules (lent st ledger [] [] [] kinds)
      ≡ (list_all (seat_fits kinds) (take st.settings.slots st.slots.pages) && all_of (λ (e : Entry). eqb (get_or kinds (page_of e) 0) 0) (entries_in st.entries ledger))
  unfolding kind_rules entries_of
  kinds_asked h e = rw (table_fits st.slots st.settings.slots (omega arith) kinds)

-- What slots and entries ask of the kind table.

module _ (st : State) (ledger : List ℕ) (r : rules (lent st ledger [] [] [] []) ≡ true) where
  facts : RuleFacts (lent st ledger [] [] [] [])
  facts = rule_facts _ r

  pub ruled_slots : st.settings.slots ≤ 16
  ruled_slots = limits_slots st.settings facts.limited

  module _ (n : ℕ) (long : st.settings.capacity ≤ n) where
    pub ruled_below : All (SeatBelow n) (take st.settings.slots st.slots.pages)
    ruled_below = table_below st.slots st.settings.slots st.end n facts.slots (omega (arith, facts.ended))

    pub ruled_entries : (st.entries * entry_row ≤ length ledger) × Every (λ e. page_of e < n) (entries_in st.entries ledger)
    unfolding places_at ledger_length entries_of
    ruled_entries = (
      omega (arith, facts.counted, facts.ledger_long),
      every_map (λ e h. omega (arith, h.page_below, facts.ended, long)) (entries_in st.entries ledger) facts.each,
    )

-- The tests of a state, as the code asks them: what a rule does not look at does not matter.

module _ (st : State) (ledger base side buffer kinds : List ℕ) where
  pub stand_asked : verdict (standing (lent st ledger base side buffer kinds))
      ≡ verdict ((Refusals.state, rules (lent st ledger [] [] [] [])) ∷ (Refusals.short, long_enough st.settings (lent zero_state ledger base side buffer kinds)) ∷ (Refusals.state, kind_rules (lent st ledger [] [] [] kinds)) ∷ [])
  unfolding standing rules long_enough kind_rules entries_of slot_for
  stand_asked = refl

pub rules_limited : (st : State) (ledger : List ℕ) → rules (lent st ledger [] [] [] []) ≡ true → limits st.settings ≡ true
rules_limited st ledger r = (rule_facts _ r).limited

pub long_kinds : (s : Settings) (st : State) (ledger base side buffer kinds : List ℕ) → long_enough s (lent st ledger base side buffer kinds) ≡ true → s.capacity ≤ length kinds
long_kinds s st ledger base side buffer kinds h = (long_facts s _ h).kinds_long
