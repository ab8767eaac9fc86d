-- The state rules as facts, both ways: what a world has that passes the tests which every call but open begins with. Forged
-- worlds among them: nothing here asks where a world came from. Assumes nothing.
use Rattle.std.specs.Prelude.{ℕ, ◌+◌, ◌*◌, ◌<◌, ◌≤◌, ◌≡◌, refl, map, Bool, true, false, not, ◌&&◌, ◌||◌, leb, length}
use Rattle.std.proofs.lemmas.Bool.{false≢true, not-true}
use Rattle.std.proofs.Math.Option.{Option, some}
use Rattle.std.proofs.Common.{arith, eq-eqb, lt-ltb, le-leb, eqb-true, ltb-true, leb-true}
use Rattle.lists.specs.Below.{below}
use Rattle.lists.specs.laws.Below.{every_from, all_from_lem}
use Rattle.lists.specs.laws.Bools.{both, and_make, or_left, or_right, or_drop}
use Rattle.lists.specs.Scans.{Every, all_of}
use Rattle.lists.specs.laws.Scans.{every_map, every_all_of, all_of_every, head, tail}
use Rattle.units.specs.laws.Bounds.{Within, limits_within}
use Rattle.units.specs.Sizes.{top, limits, entries, places, first_image, side_length, base_length, buffer_length, ledger_length}
use Rattle.units.specs.Tests.{passes}
use Rattle.units.specs.laws.Tests.{passes_every}
use Rattle.units.specs.declared.Settings.{Settings}
use Rattle.sidefile.specs.Judge.{ascending, apart}
use Rattle.slots.specs.Rules.{is_some, slot_rules}
use Rattle.slots.specs.laws.Sits.{Whole, Sits, sits, is_some_lem}
use Rattle.slots.specs.Table.{page_at, vacant}
use Rattle.ledger.specs.Entries.{page_of, place_of, is_owed}
use Rattle.ledger.specs.laws.Rowed.{Small}
use Rattle.ledger.specs.Rules.{entry_rules, ledger_rules}
use Rattle.ledger.specs.View.{indexed, retired, retired_at}
use Rattle.ledger.specs.declared.Entry.{Entry}
use Rattle.recorder.specs.World.{World, slot_count, wait_of, entries_of, kind_of, metadata, slot_for}
use Rattle.recorder.specs.Rules.{in_slot, rules, long_enough, kind_rules, standing}

-- the rules of one entry, in this world
abbrev rule_of : World → Entry → Bool
rule_of w e = entry_rules w.state.settings w.state.end w.state.closed (in_slot w) w.ledger e

-- one entry
pub record EntryFacts (w : World) (e : Entry) : Type 0 where
  pub page_below : page_of e < w.state.end
  pub entered_first : e.entered.0 ≤ e.changed.0
  pub changed_before : e.changed.0 ≤ w.state.closed.0
  pub owed_held : is_owed (wait_of w) w.state.closed e ≡ true → (i : ℕ) × (slot_for w (page_of e) ≡ some i)
  pub place_below : place_of e < places w.state.settings
  pub not_retired : retired w.state.settings w.ledger (place_of e) ≡ false

some_is : (o : Option ℕ) (i : ℕ) → o ≡ some i → is_some o ≡ true
some_is o i e = rw e

pub entry_facts : (w : World) (e : Entry) → rule_of w e ≡ true → EntryFacts w e
unfolding entry_rules
entry_facts w e h =
    let f = both _ _ h in
    let p = both _ _ f.0 in
    let o = both _ _ p.0 in
    let c = both _ _ o.0 in
    let b = both _ _ c.0 in
    record {
      page_below = ltb-true (page_of e) w.state.end b.0;
      entered_first = leb-true e.entered.0 e.changed.0 b.1;
      changed_before = leb-true e.changed.0 w.state.closed.0 c.1;
      owed_held = λ z. is_some_lem (slot_for w (page_of e)) (rw z at o.1);
      place_below = ltb-true (place_of e) (places w.state.settings) p.1;
      not_retired = not-true (retired w.state.settings w.ledger (place_of e)) f.1;
    }

pub entry_back : (w : World) (e : Entry) → EntryFacts w e → rule_of w e ≡ true
unfolding entry_rules
entry_back w e f =
    rw (
      lt-ltb (page_of e) w.state.end f.page_below,
      le-leb e.entered.0 e.changed.0 f.entered_first,
      le-leb e.changed.0 w.state.closed.0 f.changed_before,
      owed (is_owed (wait_of w) w.state.closed e) refl,
      lt-ltb (place_of e) (places w.state.settings) f.place_below,
      f.not_retired,
    )
  where
    owed : (b : Bool) → is_owed (wait_of w) w.state.closed e ≡ b → (not (is_owed (wait_of w) w.state.closed e) || is_some (slot_for w (page_of e))) ≡ true
    owed true z = or_right (not (is_owed (wait_of w) w.state.closed e)) (is_some (slot_for w (page_of e))) (some_is (slot_for w (page_of e)) (f.owed_held z).0 (f.owed_held z).1)
    owed false z = or_left (not (is_owed (wait_of w) w.state.closed e)) (is_some (slot_for w (page_of e))) (rw z)

-- the rules, one by one
pub record RuleFacts (w : World) : Type 0 where
  pub limited : limits w.state.settings ≡ true
  pub ledger_long : ledger_length w.state.settings ≤ length w.ledger
  pub ended : w.state.end ≤ w.state.settings.capacity
  pub counted : w.state.entries ≤ entries w.state.settings
  pub slots : slot_rules (slot_count w) w.state.end w.state.slots ≡ true
  pub ascends : ascending 0 (map indexed (entries_of w)) ≡ true
  pub each : Every (EntryFacts w) (entries_of w)
  pub alone : apart (map indexed (entries_of w)) ≡ true
  pub rested : (q : ℕ) → q < places w.state.settings → retired w.state.settings w.ledger q ≡ true
      → (retired_at w.state.settings w.ledger q).0 ≤ w.state.closed.0

unless : (a b : Bool) → (not a || b) ≡ true → a ≡ true → b ≡ true
unless true b h e = h
unless false b h e = absurd (false≢true e)

unless_back : (a b : Bool) → (a ≡ true → b ≡ true) → (not a || b) ≡ true
unless_back true b h = h refl
unless_back false b h = refl

pub rule_facts : (w : World) → rules w ≡ true → RuleFacts w
unfolding rules ledger_rules entries_of
rule_facts w h =
    let s = w.state.settings in
    let t = both _ _ h in
    let i = both _ _ t.1 in
    let a = both _ _ i.0 in
    let o = both _ _ a.0 in
    let u = both _ _ t.0 in
    let c = both _ _ u.0 in
    let n = both _ _ c.0 in
    let l = both _ _ n.0 in
    record {
      limited = l.0;
      ledger_long = leb-true (ledger_length s) (length w.ledger) l.1;
      ended = leb-true w.state.end s.capacity n.1;
      counted = leb-true w.state.entries (entries s) c.1;
      slots = u.1;
      ascends = o.0;
      each = every_map (entry_facts w) (entries_of w) (all_of_every (rule_of w) (entries_of w) o.1);
      alone = a.1;
      rested =
          λ q b r.
          leb-true (retired_at s w.ledger q).0 w.state.closed.0
          (unless (retired s w.ledger q) (leb (retired_at s w.ledger q).0 w.state.closed.0)
          (all_from_lem (λ q. not (retired s w.ledger q) || leb (retired_at s w.ledger q).0 w.state.closed.0) 0 (places s) q (omega arith) (omega arith) i.1)
          r);
    }

pub rule_back : (w : World) → RuleFacts w → rules w ≡ true
unfolding rules ledger_rules entries_of
rule_back w f =
    let s = w.state.settings in
    rw (
      f.limited,
      le-leb (ledger_length s) (length w.ledger) f.ledger_long,
      le-leb w.state.end s.capacity f.ended,
      le-leb w.state.entries (entries s) f.counted,
      f.slots,
      f.ascends,
      every_all_of (rule_of w) (entry_back w) (entries_of w) f.each,
      f.alone,
    )
    (every_all_of (λ q. not (retired s w.ledger q) || leb (retired_at s w.ledger q).0 w.state.closed.0)
    (λ q b. unless_back (retired s w.ledger q) (leb (retired_at s w.ledger q).0 w.state.closed.0) (λ r. le-leb (retired_at s w.ledger q).0 w.state.closed.0 (f.rested q (omega (arith, b.1)) r)))
    (below (places s)) (every_from 0 (places s)))

-- the lengths, as the laws of rows ask for them
pub record Lengths (s : Settings) (w : World) : Type 0 where
  pub base_long : 0 + s.capacity * s.size ≤ length w.base
  pub side_long : first_image s + places s * s.size ≤ length w.side
  pub buffer_long : 0 + s.slots * s.size ≤ length w.buffer
  pub kinds_long : s.capacity ≤ length w.kinds

pub long_facts : (s : Settings) (w : World) → long_enough s w ≡ true → Lengths s w
unfolding long_enough base_length side_length buffer_length
long_facts s w h =
    let B : Bool = leb (s.capacity * s.size) (length w.base) in
    let S : Bool = leb (first_image s + places s * s.size) (length w.side) in
    let P : Bool = leb (s.slots * s.size) (length w.buffer) in
    let K : Bool = leb s.capacity (length w.kinds) in
    let k = both (B && S && P) K h in
    let p = both (B && S) P k.0 in
    let b = both B S p.0 in
    record {
      base_long = omega (arith, leb-true (s.capacity * s.size) (length w.base) b.0);
      side_long = leb-true (first_image s + places s * s.size) (length w.side) b.1;
      buffer_long = omega (arith, leb-true (s.slots * s.size) (length w.buffer) p.1);
      kinds_long = leb-true s.capacity (length w.kinds) k.1;
    }

pub long_back : (s : Settings) (w : World) → Lengths s w → long_enough s w ≡ true
unfolding long_enough base_length side_length buffer_length
long_back s w l =
    rw (
      le-leb (s.capacity * s.size) (length w.base) (omega (arith, l.base_long)),
      le-leb (first_image s + places s * s.size) (length w.side) l.side_long,
      le-leb (s.slots * s.size) (length w.buffer) (omega (arith, l.buffer_long)),
      le-leb s.capacity (length w.kinds) l.kinds_long,
    )

-- slots and entries are of metadata pages
pub record KindFacts (w : World) : Type 0 where
  pub slot_kinds : (i : ℕ) → i < slot_count w → vacant w.state.slots i ≡ false → kind_of w (page_at w.state.slots i) ≡ 0
  pub entry_kinds : Every (λ e. kind_of w (page_of e) ≡ 0) (entries_of w)

occupied_back : (a b : Bool) → (a ≡ false → b ≡ true) → (a || b) ≡ true
occupied_back true b h = refl
occupied_back false b h = h refl

pub kind_facts : (w : World) → kind_rules w ≡ true → KindFacts w
unfolding kind_rules
kind_facts w h =
    let b = both _ _ h in
    let t = w.state.slots in
    record {
      slot_kinds =
          λ i m v.
          eqb-true (kind_of w (page_at t i)) 0
          (or_drop (vacant t i) (metadata w (page_at t i)) (all_from_lem (λ i. vacant t i || metadata w (page_at t i)) 0 (slot_count w) i (omega arith) (omega arith) b.0) v);
      entry_kinds = every_map (λ e k. eqb-true (kind_of w (page_of e)) 0 k) (entries_of w) (all_of_every (λ e. metadata w (page_of e)) (entries_of w) b.1);
    }

pub kind_back : (w : World) → KindFacts w → kind_rules w ≡ true
unfolding kind_rules
kind_back w f =
    let t = w.state.slots in
    and_make (all_of (λ i. vacant t i || metadata w (page_at t i)) (below (slot_count w))) (all_of (λ e. metadata w (page_of e)) (entries_of w))
    (every_all_of (λ i. vacant t i || metadata w (page_at t i))
    (λ i m. occupied_back (vacant t i) (metadata w (page_at t i)) (λ v. eq-eqb (kind_of w (page_at t i)) 0 (f.slot_kinds i (omega (arith, m.1)) v)))
    (below (slot_count w)) (every_from 0 (slot_count w)))
    (every_all_of (λ e. metadata w (page_of e)) (λ e k. eq-eqb (kind_of w (page_of e)) 0 k) (entries_of w) f.entry_kinds)

-- A world that passes these tests. Its arrays are whole and its numbers have 32 bits, as the code's types have them.
pub record Ruled (w : World) : Type 0 where
  pub whole : Whole w.state.slots
  pub tick : w.state.closed.0 ≤ top
  pub small : Every Small (entries_of w)
  pub facts : RuleFacts w
  pub lengths : Lengths w.state.settings w
  pub kinds : KindFacts w

pub ruled_passes : (w : World) → Ruled w → passes (standing w) ≡ true
unfolding standing passes
ruled_passes w r = rw (rule_back w r.facts, long_back w.state.settings w r.lengths, kind_back w r.kinds)

-- what the tests that every call but open begins with say
pub record Stands (w : World) : Type 0 where
  pub ruled : rules w ≡ true
  pub long : Lengths w.state.settings w
  pub kinds : kind_rules w ≡ true

pub stands_facts : (w : World) → passes (standing w) ≡ true → Stands w
unfolding standing
stands_facts w h =
    let e = passes_every (standing w) h in
    record { ruled = head e; long = long_facts w.state.settings w (head (tail e)); kinds = head (tail (tail e)) }

pub passes_ruled : (w : World) → Whole w.state.slots → w.state.closed.0 ≤ top → Every Small (entries_of w) → passes (standing w) ≡ true → Ruled w
passes_ruled w a t m h =
    let s = stands_facts w h in
    record {
      whole = a;
      tick = t;
      small = m;
      facts = rule_facts w s.ruled;
      lengths = s.long;
      kinds = kind_facts w s.kinds;
    }

-- what else follows
module _ (w : World) (r : Ruled w) where
  pub within : Within w.state.settings
  within = limits_within w.state.settings r.facts.limited

  pub end_small : w.state.end ≤ 65535
  end_small = omega (arith, r.facts.ended, within.capacity_most)

  pub seats : Sits (slot_count w) w.state.end w.state.slots
  seats = sits (slot_count w) w.state.end w.state.slots r.whole within.slots_most r.facts.slots
