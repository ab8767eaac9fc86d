-- The slot rules as facts of each slot, both ways, and what the look-ups of the table answer: the slot of a page, the lowest
-- empty slot, the victim, the changed pages. The laws of the calls cite these, never the rules' scans. Assumes nothing.
use Prim.Native.Nat.{ℕ, ◌-◌, ◌<◌, ◌≤◌}
use Rattle.std.specs.Prelude.{◌≡◌, not, ◌&&◌, ◌||◌, ltb, leb, length}
use Rattle.std.proofs.Math.Path.{refl}
use Rattle.std.proofs.Common.{◌∙◌, sym, ap, subst, arith}
use mathlib.Core.List.{List, [], ◌∷◌}
use Rattle.std.proofs.Math.Bool.{Bool, true, false}
use Rattle.std.proofs.lemmas.Bool.{false≢true}
use Rattle.std.proofs.Math.Option.{Option, some, none}
use Rattle.std.proofs.Math.Decide.{ℕ_discrete, dec_lt}
use Rattle.std.proofs.Math.Dec.{eqb}
use borrow.Author.Tests.{eq-eqb, ne_eqb, lt-ltb, le-leb, eqb-true, ltb-true, leb-true, not-true, not-false}
use Rattle.lists.specs.Below.{from, below}
use Rattle.lists.specs.laws.Below.{every_from, any_from, all_from_lem}
use Rattle.lists.specs.Bools.{if_then}
use Rattle.lists.specs.laws.Bools.{not_both, false_of, both}
use Rattle.lists.specs.Scans.{Every, done, more, all_of, any_of}
use Rattle.lists.specs.laws.Scans.{head, tail, every_map, every_all_of, all_of_every, none_any, first_some, first_none}
use Rattle.slots.specs.Table.{no_page, page_at, vacant, changed_at, slot_of, lowest_empty, changed_page, uses, times, or_else, victim_in, victim}
use Rattle.slots.specs.Rules.{is_some, is_at, slot_rules}
use Rattle.slots.specs.laws.Order.{not_some, same_some, every_there, times_here, times_next, times_none, pigeons, all_below, unless, unless_back, first_only}
use Rattle.slots.specs.declared.Slots.{Slots}

-- the arrays are whole, as the code's type has them
pub record Whole (t : Slots) : Type 0 where
  pub pages : length t.pages ≡ 16
  pub changed : length t.changed ≡ 16
  pub order : length t.order ≡ 16

-- the rules, one by one
pub record SlotFacts (S end : ℕ) (t : Slots) : Type 0 where
  pub apart : all_of (λ i. vacant t i || is_at i (slot_of S t (page_at t i))) (below S) ≡ true
  pub low : all_of (λ i. vacant t i || ltb (page_at t i) end) (below S) ≡ true
  pub used : leb t.used 16 ≡ true
  pub listed : all_of (λ p. ltb p end && is_some (slot_of S t p)) (uses t) ≡ true
  pub once : all_of (λ i. vacant t i || eqb (times (page_at t i) (uses t)) 1) (below S) ≡ true
  pub changed : all_of (λ i. not (changed_at t i) || not (vacant t i)) (below S) ≡ true
  pub spare : all_of (λ i. vacant t i && not (changed_at t i)) (from S (16 - S)) ≡ true

pub slot_facts : (S end : ℕ) (t : Slots) → slot_rules S end t ≡ true → SlotFacts S end t
unfolding slot_rules
slot_facts S end t h =
    let a = both _ _ h in
    let b = both _ _ a.0 in
    let c = both _ _ b.0 in
    let d = both _ _ c.0 in
    let e = both _ _ d.0 in
    let f = both _ _ e.0 in
    record { apart = f.0; low = f.1; used = e.1; listed = d.1; once = c.1; changed = b.1; spare = a.1 }

pub slot_back : (S end : ℕ) (t : Slots) → SlotFacts S end t → slot_rules S end t ≡ true
unfolding slot_rules
slot_back S end t f = rw (f.apart, f.low, f.used, f.listed, f.once, f.changed, f.spare)

-- a page below the end that is in a slot
abbrev pub Listed : ℕ → ℕ → Slots → ℕ → Type 0
Listed S end t p = (p < end) × ((i : ℕ) × (slot_of S t p ≡ some i))

-- the rules as facts of each slot and of each page in the order of use
pub record Sits (S end : ℕ) (t : Slots) : Type 0 where
  pub whole : Whole t
  pub few : S ≤ 16
  pub used : t.used ≤ 16
  pub low : (i : ℕ) → i < S → vacant t i ≡ false → page_at t i < end
  pub found : (i : ℕ) → i < S → vacant t i ≡ false → slot_of S t (page_at t i) ≡ some i
  pub once : (i : ℕ) → i < S → vacant t i ≡ false → times (page_at t i) (uses t) ≡ 1
  pub listed : Every (Listed S end t) (uses t)
  pub changed : (i : ℕ) → i < S → changed_at t i ≡ true → vacant t i ≡ false
  pub spare : (i : ℕ) → S ≤ i → i < 16 → (vacant t i ≡ true) × (changed_at t i ≡ false)

pub is_at_lem : (i : ℕ) (o : Option ℕ) → is_at i o ≡ true → o ≡ some i
is_at_lem i (some j) h = ap some (eqb-true j i h)
is_at_lem i none h = absurd (false≢true h)

pub is_some_lem : (o : Option ℕ) → is_some o ≡ true → (i : ℕ) × (o ≡ some i)
is_some_lem (some i) h = (i, refl)
is_some_lem none h = absurd (false≢true h)

pub sits : (S end : ℕ) (t : Slots) → Whole t → S ≤ 16 → slot_rules S end t ≡ true → Sits S end t
sits S end t w few h =
    let f = slot_facts S end t h in
    record {
      whole = w;
      few = few;
      used = leb-true t.used 16 f.used;
      low = λ i k v. ltb-true (page_at t i) end (unless (vacant t) (λ i. ltb (page_at t i) end) S f.low i k v);
      found = λ i k v. is_at_lem i (slot_of S t (page_at t i)) (unless (vacant t) (λ i. is_at i (slot_of S t (page_at t i))) S f.apart i k v);
      once = λ i k v. eqb-true (times (page_at t i) (uses t)) 1 (unless (vacant t) (λ i. eqb (times (page_at t i) (uses t)) 1) S f.once i k v);
      listed = every_map listed (uses t) (all_of_every (λ p. ltb p end && is_some (slot_of S t p)) (uses t) f.listed);
      changed = λ i k c. not-true (vacant t i) (unless (λ i. not (changed_at t i)) (λ i. not (vacant t i)) S f.changed i k (ap not c));
      spare = λ i k m. spare i (all_from_lem (λ i. vacant t i && not (changed_at t i)) S (16 - S) i k (omega arith) f.spare);
    }
  where
    listed : (p : ℕ) → (ltb p end && is_some (slot_of S t p)) ≡ true → Listed S end t p
    listed p h = let b = both (ltb p end) (is_some (slot_of S t p)) h in (ltb-true p end b.0, is_some_lem (slot_of S t p) b.1)

    spare : (i : ℕ) → (vacant t i && not (changed_at t i)) ≡ true → (vacant t i ≡ true) × (changed_at t i ≡ false)
    spare i h = let b = both (vacant t i) (not (changed_at t i)) h in (b.0, not-true (changed_at t i) b.1)

pub sits_back : {S end : ℕ} {t : Slots} → Sits S end t → slot_rules S end t ≡ true
sits_back {S} {end} {t} s =
    slot_back S end t
    (record {
      apart = unless_back (vacant t) (λ i. is_at i (slot_of S t (page_at t i))) S (λ i k v. ap (is_at i) (s.found i k v) ∙ eq-eqb i i refl);
      low = unless_back (vacant t) (λ i. ltb (page_at t i) end) S (λ i k v. lt-ltb (page_at t i) end (s.low i k v));
      used = le-leb t.used 16 s.used;
      listed = every_all_of (λ p. ltb p end && is_some (slot_of S t p)) (λ p b. rw (lt-ltb p end b.0, b.1.1)) (uses t) s.listed;
      once = unless_back (vacant t) (λ i. eqb (times (page_at t i) (uses t)) 1) S (λ i k v. eq-eqb (times (page_at t i) (uses t)) 1 (s.once i k v));
      changed = unless_back (λ i. not (changed_at t i)) (λ i. not (vacant t i)) S (λ i k c. ap not (s.changed i k (not-false (changed_at t i) c)));
      spare = all_below (λ i. vacant t i && not (changed_at t i)) S (16 - S) (λ i k m. let b = s.spare i k (omega arith) in rw (b.0, b.1));
    })

-- an end further on
pub sits_more : {S end : ℕ} {t : Slots} (end' : ℕ) → end ≤ end' → Sits S end t → Sits S end' t
sits_more {S} {end} {t} end' h s =
    record {
      whole = s.whole;
      few = s.few;
      used = s.used;
      low = λ i k v. omega (arith, s.low i k v);
      found = s.found;
      once = s.once;
      listed = every_map (λ p b. (omega (arith, b.0), b.1)) (uses t) s.listed;
      changed = s.changed;
      spare = s.spare;
    }

-- an empty slot has no page's number
pub vacant_page : (t : Slots) (i : ℕ) → vacant t i ≡ true → page_at t i ≡ no_page
unfolding vacant
vacant_page t i h = eqb-true (page_at t i) no_page h

pub occupied : (t : Slots) (i : ℕ) → page_at t i < no_page → vacant t i ≡ false
unfolding vacant
occupied t i h = ne_eqb (page_at t i) no_page (λ z. omega arith)

-- no slot but i has page p
abbrev pub Alone : ℕ → Slots → ℕ → ℕ → Type 0
Alone S t p i = (j : ℕ) → j < S → page_at t j ≡ p → j ≡ i

-- the slot of a page
module _ (S : ℕ) (t : Slots) (p : ℕ) where
  pub slot_found : (i : ℕ) → slot_of S t p ≡ some i → (i < S) × (page_at t i ≡ p)
  unfolding slot_of
  slot_found i h =
      let r = first_some (λ i. eqb (page_at t i) p) (below S) i (every_from 0 S) h in
      (omega (arith, r.1.1), eqb-true (page_at t i) p r.0)

  pub slot_absent : slot_of S t p ≡ none → (j : ℕ) → j < S → page_at t j ≡ p → ⊥
  unfolding slot_of
  slot_absent h j k e =
      let f : ℕ → Bool = λ i. eqb (page_at t i) p in
      not_both (any_of f (below S)) (any_from f 0 S j (omega arith) (omega arith) (eq-eqb (page_at t j) p e)) (first_none f (below S) h)

  pub absent_alone : slot_of S t p ≡ none → (i : ℕ) → Alone S t p i
  absent_alone h i j k e = absurd (slot_absent h j k e)

  pub slot_only : (i : ℕ) → i < S → page_at t i ≡ p → Alone S t p i → slot_of S t p ≡ some i
  unfolding slot_of
  slot_only i h e u = first_only (λ j. eqb (page_at t j) p) S i h (eq-eqb (page_at t i) p e) (λ j k z. u j k (eqb-true (page_at t j) p z))

  pub slot_nowhere : ((j : ℕ) → j < S → page_at t j ≡ p → ⊥) → slot_of S t p ≡ none
  slot_nowhere n = go (slot_of S t p) refl
    where
      go : (o : Option ℕ) → slot_of S t p ≡ o → o ≡ none
      go none h = refl
      go (some i) h = let r = slot_found i h in absurd (n i r.0 r.1)

  -- a page is in an occupied slot
  pub slot_occupied : (i : ℕ) → p < no_page → slot_of S t p ≡ some i → vacant t i ≡ false
  slot_occupied i b h = occupied t i (omega (arith, (slot_found i h).1))

-- the lowest empty slot
module _ (S : ℕ) (t : Slots) where
  pub lowest_empty_lem : (i : ℕ) → lowest_empty S t ≡ some i → (i < S) × (vacant t i ≡ true)
  unfolding lowest_empty
  lowest_empty_lem i h = let r = first_some (vacant t) (below S) i (every_from 0 S) h in (omega (arith, r.1.1), r.0)

  pub lowest_none : lowest_empty S t ≡ none → (i : ℕ) → i < S → vacant t i ≡ false
  unfolding lowest_empty
  lowest_none h i k =
      false_of (vacant t i)
      (λ v. not_both (any_of (vacant t) (below S)) (any_from (vacant t) 0 S i (omega arith) (omega arith) v) (first_none (vacant t) (below S) h))

-- what follows from the rules
module _ {S end : ℕ} {t : Slots} (s : Sits S end t) where
  pub slot_here : (i : ℕ) → i < S → vacant t i ≡ false → slot_of S t (page_at t i) ≡ some i
  slot_here = s.found

  -- a page is in one slot only
  pub slot_apart : (i j : ℕ) → i < S → j < S → vacant t i ≡ false → page_at t j ≡ page_at t i → j ≡ i
  unfolding vacant
  slot_apart i j h k v e =
      same_some (s.found j k (ap (λ (p : ℕ). eqb p no_page) e ∙ v)) (ap (slot_of S t) e ∙ s.found i h v)

  pub slot_alone : (p i : ℕ) → p < no_page → slot_of S t p ≡ some i → Alone S t p i
  slot_alone p i b h j k e =
      let r = slot_found S t p i h in
      slot_apart i j r.0 k (slot_occupied S t p i b h) (e ∙ sym r.1)

  -- an empty slot is not changed
  pub slot_unchanged : (i : ℕ) → i < S → vacant t i ≡ true → changed_at t i ≡ false
  slot_unchanged i h v = false_of (changed_at t i) (λ c. not_both (vacant t i) v (s.changed i h c))

  -- a page from the end on is in no slot
  pub slot_beyond : (p : ℕ) → end ≤ p → p < no_page → slot_of S t p ≡ none
  slot_beyond p h b = slot_nowhere S t p (λ j k e. omega (arith, s.low j k (occupied t j (omega arith))))

  -- the order of use names no page twice, none that is in no slot, and no empty slot's number
  pub uses_absent : (p : ℕ) → slot_of S t p ≡ none → times p (uses t) ≡ 0
  uses_absent p h = times_none p (uses t) s.listed (λ r. not_some h r.1.1)

  pub uses_beyond : (p : ℕ) → end ≤ p → times p (uses t) ≡ 0
  uses_beyond p h = times_none p (uses t) s.listed (λ r. omega (arith, r.0))

  pub uses_once : end ≤ no_page → (p : ℕ) → times p (uses t) ≤ 1
  uses_once small p = go (dec_lt p end) (slot_of S t p) refl
    where
      go : Dec (p < end) → (o : Option ℕ) → slot_of S t p ≡ o → times p (uses t) ≤ 1
      go (no n) o h = omega (arith, uses_beyond p (omega (arith, n)))
      go (yes b) none h = omega (arith, uses_absent p h)
      go (yes b) (some i) h =
          let r = slot_found S t p i h in
          let c : times p (uses t) ≡ 1 = rw r.1 at (s.once i r.0 (slot_occupied S t p i (omega arith) h)) in
          omega arith

  -- with an empty slot, fewer pages are in the order of use than there are slots
  pub uses_room : end ≤ no_page → (i : ℕ) → i < S → vacant t i ≡ true → length (uses t) < S
  uses_room small i h v =
      pigeons (page_at t) S (no_page ∷ uses t) (λ z. once z (ℕ_discrete no_page z))
      (more (i, h, vacant_page t i v) (every_map (λ p r. let f = slot_found S t p r.1.0 r.1.1 in (r.1.0, f.0, f.1)) (uses t) s.listed))
    where
      once : (z : ℕ) → Dec (no_page ≡ z) → times z (no_page ∷ uses t) ≤ 1
      once z (yes q) = rw (← q) (omega (arith, times_here no_page (uses t), uses_beyond no_page small))
      once z (no q) = omega (arith, times_next z no_page (uses t) q, uses_once small z)

-- the victim is the slot of a page in the order of use; without one, each such slot is masked
module _ (S : ℕ) (mask : ℕ → Bool) (t : Slots) where
  abbrev Chosen : (ℕ → Type 0) → List ℕ → Option ℕ → Type 0
  Chosen P ps (some i) = (p : ℕ) × (slot_of S t p ≡ some i) × (mask i ≡ false) × P p
  Chosen P ps none = Every (λ p. (i : ℕ) → slot_of S t p ≡ some i → mask i ≡ true) ps

  victim_in_lem : {P : ℕ → Type 0} (ps : List ℕ) → Every P ps → Chosen P ps (victim_in S mask t ps)
  unfolding victim_in
  victim_in_lem [] e = done
  victim_in_lem {P} (p ∷ ps) e = go (slot_of S t p) refl (victim_in S mask t ps) (victim_in_lem ps (tail e))
    where
      next : ((i : ℕ) → slot_of S t p ≡ some i → mask i ≡ true) → (v : Option ℕ) → Chosen P ps v → Chosen P (p ∷ ps) v
      next m (some i) c = c
      next m none c = more m c

      go : (o : Option ℕ) → slot_of S t p ≡ o → (v : Option ℕ) → Chosen P ps v → Chosen P (p ∷ ps) (or_else o mask v)
      go none q v c = next (λ i k. absurd (not_some q k)) v c
      go (some j) q v c = at (mask j) refl
        where
          at : (b : Bool) → mask j ≡ b → Chosen P (p ∷ ps) (if_then b v (some j))
          at true m = next (λ i k. ap mask (same_some k q) ∙ m) v c
          at false m = (p, q, m, head e)

module _ {S end : ℕ} {t : Slots} (s : Sits S end t) (mask : ℕ → Bool) where
  choice : Chosen S mask t (Listed S end t) (uses t) (victim S mask t)
  unfolding victim
  choice = victim_in_lem S mask t (uses t) s.listed

  pub victim_slot : end ≤ no_page → (i : ℕ) → victim S mask t ≡ some i → (i < S) × (mask i ≡ false) × (vacant t i ≡ false)
  victim_slot small i h =
      let r = subst (Chosen S mask t (Listed S end t) (uses t)) h choice in
      ((slot_found S t r.0 i r.1).0, r.2, slot_occupied S t r.0 i (omega (arith, r.3.0)) r.1)

  pub victim_masked : victim S mask t ≡ none → (i : ℕ) → i < S → vacant t i ≡ false → mask i ≡ true
  victim_masked h i k v =
      every_there (page_at t i) (uses t) (subst (Chosen S mask t (Listed S end t) (uses t)) h choice) (omega (arith, s.once i k v)) i (s.found i k v)

-- a page is changed if its slot is
module _ (S : ℕ) (t : Slots) (p : ℕ) where
  pub changed_page_lem : (i : ℕ) → i < S → page_at t i ≡ p → changed_at t i ≡ true → changed_page S t p ≡ true
  unfolding changed_page
  changed_page_lem i h e c = any_from (λ j. eqb (page_at t j) p && changed_at t j) 0 S i (omega arith) (omega arith) (rw (eq-eqb (page_at t i) p e) c)

  pub changed_not : ((j : ℕ) → j < S → page_at t j ≡ p → changed_at t j ≡ false) → changed_page S t p ≡ false
  unfolding changed_page
  changed_not n =
      none_any (λ j. eqb (page_at t j) p && changed_at t j) (below S)
      (every_map (λ j k. go j (eqb (page_at t j) p) refl (omega (arith, k.1))) (below S) (every_from 0 S))
    where
      go : (j : ℕ) (b : Bool) → eqb (page_at t j) p ≡ b → j < S → (b && changed_at t j) ≡ false
      go j true e h = n j h (eqb-true (page_at t j) p e)
      go j false e h = refl

  pub changed_none : slot_of S t p ≡ none → changed_page S t p ≡ false
  changed_none h = changed_not (λ j k e. absurd (slot_absent S t p h j k e))

  pub changed_slot : changed_page S t p ≡ true → (i : ℕ) × (slot_of S t p ≡ some i)
  changed_slot h = go (slot_of S t p) refl
    where
      go : (o : Option ℕ) → slot_of S t p ≡ o → (i : ℕ) × (slot_of S t p ≡ some i)
      go none q = absurd (not_both (changed_page S t p) h (changed_none q))
      go (some i) q = (i, q)

pub changed_found : {S end : ℕ} {t : Slots} → Sits S end t → (p i : ℕ) → p < no_page → slot_of S t p ≡ some i → changed_page S t p ≡ changed_at t i
changed_found {S} {end} {t} s p i b h = go (changed_at t i) refl
  where
    go : (c : Bool) → changed_at t i ≡ c → changed_page S t p ≡ c
    go true q = let r = slot_found S t p i h in changed_page_lem S t p i r.0 r.1 q
    go false q = changed_not S t p (λ j k e. ap (changed_at t) (slot_alone s p i b h j k e) ∙ q)
