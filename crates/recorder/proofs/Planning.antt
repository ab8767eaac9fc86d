-- The plan of a close: what the rules give the calls that it makes, and what their answers say of the close. Assumes nothing.
use Rattle.std.proofs.Common.{ℕ, ◌+◌, ◌*◌, ◌<◌, ◌≤◌, ◌≡◌, refl, ◌∙◌, sym, ap, Bool, true, false, not, ◌&&◌, List, map, length, take, arith, length-take}
use native.Mathlib.Decide.{dec_lt}
use Rattle.std.proofs.lemmas.List.{length-map}
use Rattle.std.proofs.Math.Dec.{ltb, leb}
use Rattle.std.proofs.Math.Seq.{length-take-le}
use borrow.Author.Tests.{ltb-true, lt-ltb, le-leb, lt-leb, leb-true, not-true}
use Rattle.lists.specs.Below.{below}
use Rattle.lists.specs.laws.Below.{length_from}
use Rattle.lists.specs.laws.Bools.{both, and_make, and_left, and_right, false_of}
use Rattle.lists.specs.Scans.{keep, all_of}
use Rattle.lists.specs.laws.Scans.{every_all_of}
use Rattle.octets.specs.inner.Flags.{flags}
use Rattle.units.specs.inner.Pages.{numbers_of}
use Rattle.units.specs.laws.Bounds.{limits_within, entries_most}
use Rattle.units.specs.Sizes.{entry_row, limits, entries, places, places_at, ledger_length}
use Rattle.units.specs.declared.Tick.{Tick}
use Rattle.sidefile.specs.Encode.{image_sum}
use Rattle.sidefile.specs.Judge.{ascending, apart}
use Rattle.sidefile.specs.inner.Table.{places_fit, all_seen}
use Rattle.sidefile.specs.declared.IndexEntry.{IndexEntry}
use Rattle.slots.specs.inner.Lent.{table_of}
use Rattle.slots.specs.laws.Order.{unless}
use Rattle.slots.specs.laws.Sits.{slot_facts, changed_not}
use Rattle.slots.specs.Table.{to_page, page_at, vacant, changed_at, changed_page}
use Rattle.ledger.specs.inner.Changed.{among, entry_ticks, among_kept}
use Rattle.ledger.specs.inner.Numbers.{place_numbers}
use Rattle.ledger.specs.laws.Closes.{others_stay}
use Rattle.ledger.specs.laws.Closing.{new_of, stays_of, changes_of, free_of, length_fresh}
use Rattle.ledger.specs.Entries.{place_of, retires, fresh}
use Rattle.ledger.specs.inner.Flagged.{others, others_count}
use Rattle.ledger.specs.laws.Ordered.{length_put}
use Rattle.ledger.specs.laws.Rowed.{length_entries_in}
use Rattle.ledger.specs.inner.Tables.{free_in}
use Rattle.ledger.specs.View.{indexed, entries_in}
use Rattle.recorder.specs.Close.{open_tick, changed_in, changes, free_places, given, fresh_entries, staying, after, suffices}
use Rattle.recorder.specs.laws.Closed.{closing_of, after_later}
use Rattle.recorder.specs.laws.Facts.{rule_facts}
use Rattle.recorder.specs.inner.Planned.{Plans, Planned}
use Rattle.recorder.specs.Rules.{rules}
use Rattle.recorder.specs.World.{World, slot_count, wait_of, entries_of, slot_for, bytes_in}
use Rattle.recorder.specs.declared.plan.Plan.{Plan}
use Rattle.recorder.proofs.Bringing.{alone}

-- what the calls ask
pub record Asked (w : World) : Type 0 where
  pub limited : limits w.state.settings ≡ true
  pub slots : slot_count w ≤ 16
  pub long : ledger_length w.state.settings ≤ length w.ledger
  pub counted : w.state.entries ≤ entries w.state.settings
  pub few : w.state.entries ≤ 144
  pub rows : w.state.entries * entry_row ≤ length w.ledger
  pub ascends : ascending 0 (map indexed (entries_in w.state.entries w.ledger)) ≡ true
  pub placed : places_fit (places w.state.settings) (map indexed (entries_in w.state.entries w.ledger)) ≡ true

pub asked : (w : World) → rules w ≡ true → Asked w
unfolding entries_of ledger_length places_at places_fit
asked w h =
    let f = rule_facts w h in
    let s = w.state.settings in
    let b = limits_within s f.limited in
    let m = entries_most s b in
    record {
      limited = f.limited;
      slots = b.slots_most;
      long = f.ledger_long;
      counted = f.counted;
      few = omega (arith, f.counted, m);
      rows = omega (arith, f.counted, f.ledger_long);
      ascends = f.ascends;
      placed =
          and_make (all_of (λ (x : IndexEntry). ltb x.place.0 (places s)) (map indexed (entries_of w))) (apart (map indexed (entries_of w)))
          (all_seen indexed (λ (x : IndexEntry). ltb x.place.0 (places s)) (entries_of w)
          ∙ every_all_of (λ e. ltb (place_of e) (places s)) (λ e k. lt-ltb (place_of e) (places s) k.place_below) (entries_of w) f.each)
          f.alone;
    }

module _ (w : World) (r : rules w ≡ true) where
  -- no page from e on is changed
  changed_far : (p : ℕ) → w.state.end ≤ p → changed_in w p ≡ false
  unfolding changed_in
  changed_far p far =
      let S = slot_count w in
      let t = w.state.slots in
      let f = slot_facts S w.state.end t (rule_facts w r).slots in
      changed_not S t p (λ j k e. false_of (changed_at t j) (λ c. one j k e c))
    where
      one : (j : ℕ) → j < slot_count w → page_at w.state.slots j ≡ p → changed_at w.state.slots j ≡ true → ⊥
      one j k e c =
          let S = slot_count w in
          let t = w.state.slots in
          let f = slot_facts S w.state.end t (rule_facts w r).slots in
          let v : vacant t j ≡ false = not-true (vacant t j) (unless (λ i. not (changed_at t i)) (λ i. not (vacant t i)) S f.changed j k (rw c)) in
          let b : ltb (page_at t j) w.state.end ≡ true = unless (vacant t) (λ i. ltb (page_at t i) w.state.end) S f.low j k v in
          omega (arith, ltb-true (page_at t j) w.state.end b)

  -- a page is among the changed ones if it is changed
  among_changes : (p : ℕ) → among (changes w) p ≡ changed_in w p
  unfolding changes
  among_changes = among_kept (changed_in w) w.state.end changed_far

-- how many entries there are after the close, with places enough
after_count : (w : World) (going : List Bool) → length (changes w) ≤ length (free_places w)
    → take w.state.entries going ≡ map (retires (wait_of w) (open_tick w) (changed_in w)) (entries_of w)
    → length (after w) ≡ length (changes w) + length (others going (below w.state.entries))
unfolding changes free_places entries_of
after_count w going h g =
    let c = closing_of w in
    let n = w.state.entries in
    let stays : length (others going (below n)) ≡ length (stays_of c)
    = others_count going (below n) (entries_in n w.ledger) (length_from 0 n ∙ sym (length_entries_in n w.ledger))
    ∙ ap length (others_stay c n refl going g) in
    ap length (after_later w)
    ∙ length_put (new_of c) (stays_of c)
    ∙ rw (length_fresh (open_tick w) (entries_of w) c.sum (changes_of c) (free_of c) h, stays)

-- whether there is enough, by the counts
counts : (w : World) (k free stay : ℕ) (going : List Bool) → k ≡ length (changes w) → free ≡ length (take k (free_places w))
    → take w.state.entries going ≡ map (retires (wait_of w) (open_tick w) (changed_in w)) (entries_of w)
    → stay ≡ length (others going (below w.state.entries))
    → (leb k free && leb (stay + k) (entries w.state.settings)) ≡ suffices w
unfolding suffices
counts w k free stay going e f g h = go (dec_lt (length (free_places w)) k)
  where
    go : Dec (length (free_places w) < k)
        → (leb k free && leb (stay + k) (entries w.state.settings)) ≡ (leb (length (changes w)) (length (free_places w)) && leb (length (after w)) (entries w.state.settings))
    go (yes d) =
        let m : free < k = omega (arith, length-take k (free_places w)) in
        rw (lt-leb k free m, lt-leb (length (changes w)) (length (free_places w)) (omega arith))
    go (no d) =
        let l : k ≤ length (free_places w) = omega (arith, d) in
        let z : length (after w) ≡ stay + k = omega (arith, after_count w going (omega arith) g) in
        rw (le-leb k free (omega (arith, f, length-take-le k (free_places w) l)), le-leb (length (changes w)) (length (free_places w)) (omega arith), z)

-- the answers of the calls that a plan makes: its numbers, and what stands in the plan then
pub record Answers (w : World) (N : Tick) (wait free stay : ℕ) (p : Plan) : Type 0 where
  pub plans : Plans w N
  pub waits : wait ≡ wait_of w
  pub most : p.count ≤ 16
  pub listed : numbers_of p.count p.pages ≡ keep (changed_page (slot_count w) (table_of w.state.slots.pages w.state.slots.changed)) (below w.state.end)
  pub freed : free ≡ length (take p.count (free_in w.state.settings w.state.entries N w.ledger))
  pub given : place_numbers free p.places ≡ take p.count (free_in w.state.settings w.state.entries N w.ledger)
  pub flagged : take w.state.entries (flags p.going) ≡ map (retires wait N (among (numbers_of p.count p.pages))) (entries_in w.state.entries w.ledger)
  pub came : take p.count p.entered ≡ entry_ticks N (entries_in w.state.entries w.ledger) (numbers_of p.count p.pages)
  pub stays : stay ≡ length (others (flags p.going) (below w.state.entries))
  pub whole_pages : length p.pages ≡ 16

-- put together
module _ {w : World} {N : Tick} {wait free stay : ℕ} {p : Plan} (a : Answers w N wait free stay p) where
  ticked : N ≡ open_tick w
  ticked = a.plans.1

  changed : numbers_of p.count p.pages ≡ changes w
  unfolding changes changed_in changed_page page_at changed_at
  changed = a.listed

  counted : p.count ≡ length (changes w)
  counted =
      sym (length-take-le p.count p.pages (omega (arith, a.most, a.whole_pages)))
      ∙ sym (length-map (take p.count p.pages) (λ q. q.0))
      ∙ ap length changed

  gone : take w.state.entries (flags p.going) ≡ map (retires (wait_of w) (open_tick w) (changed_in w)) (entries_of w)
  unfolding entries_of
  gone =
      (rw (ticked, a.waits, changed) at a.flagged)
      ∙ (λ i. map (retires (wait_of w) (open_tick w) (λ x. among_changes w a.plans.0 x i)) (entries_of w))

  enough : (leb p.count free && leb (stay + p.count) (entries w.state.settings)) ≡ suffices w
  unfolding free_places free_in entries_of
  enough = counts w p.count free stay (flags p.going) counted (rw ticked at a.freed) gone a.stays

  -- too few places; too few rows; enough of both
  pub few_places : free < p.count → suffices w ≡ false
  few_places h = sym enough ∙ and_left (leb p.count free) (leb (stay + p.count) (entries w.state.settings)) (lt-leb p.count free h)

  pub few_rows : entries w.state.settings < stay + p.count → suffices w ≡ false
  few_rows h = sym enough ∙ and_right (leb p.count free) (leb (stay + p.count) (entries w.state.settings)) (lt-leb (stay + p.count) (entries w.state.settings) h)

  pub both_enough : p.count ≤ free → stay + p.count ≤ entries w.state.settings → suffices w ≡ true
  both_enough l m =
      sym enough ∙ and_make (leb p.count free) (leb (stay + p.count) (entries w.state.settings)) (le-leb p.count free l) (le-leb (stay + p.count) (entries w.state.settings) m)

  pub planned : Planned w p
  unfolding free_places free_in entries_of
  planned = record {
    most = a.most;
    counted = counted;
    changed = changed;
    placed =
        λ e.
        let l : p.count ≤ free = leb-true p.count free (both (leb p.count free) (leb (stay + p.count) (entries w.state.settings)) (enough ∙ e)).0 in
        let x : free ≡ p.count = omega (arith, l, a.freed, length-take p.count (free_in w.state.settings w.state.entries N w.ledger)) in
        rw (x, ticked) at a.given;
    came = rw (ticked, changed) at a.came;
    gone = gone;
  }

-- A plan looks at the state and the ledger alone: it is one of every world with these.

length_after : (w : World) → length (after w) ≡ length (given w) + length (staying w)
unfolding after fresh_entries
length_after w =
    length_put (fresh_entries w) (staying w)
    ∙ ap (λ (n : ℕ). n + length (staying w)) (length-map (given w) (fresh (open_tick w) (entries_of w) (λ q. image_sum (to_page q) (bytes_in w q))))

module _ (w : World) where
  pub same_suffices : suffices (alone w) ≡ suffices w
  unfolding suffices given changes changed_in free_places staying entries_of
  same_suffices = rw (length_after (alone w), length_after w)

  pub plans_alone : (N : Tick) → Plans w N → Plans (alone w) N
  unfolding rules slot_for
  plans_alone N q = q

  pub planned_in : (p : Plan) → Planned (alone w) p → Planned w p
  unfolding changes changed_in free_places entries_of
  planned_in p q =
      record {
        most = q.most;
        counted = q.counted;
        changed = q.changed;
        placed = λ e. q.placed (same_suffices ∙ e);
        came = q.came;
        gone = q.gone;
      }
