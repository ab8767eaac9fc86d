-- What each change of the slot table does to each slot, to the slot of each page and to the changed pages, and that it keeps
-- the slot rules. A use, a load and an eviction are one thing: page p is in slot i then, and last in the order of use.
-- Assumes nothing.
use Prim.Native.Nat.{ℕ, zero, suc, ◌+◌, ◌<◌, ◌≤◌}
use Rattle.std.specs.Prelude.{◌≡◌, List, [], ◌∷◌, ◌++◌, map, Bool, true, false, ◌&&◌, ◌||◌, length, take, drop, get_or, set, replicate}
use Rattle.std.proofs.Math.Path.{refl, sym, ap, fun_ext}
use Rattle.std.proofs.Common.{◌∙◌, arith, length-append, length-drop, length-set, take_at, get_or-set_same, get_or-set_other}
use Rattle.std.proofs.Math.Option.{some, none}
use Rattle.std.proofs.Math.Decide.{ℕ_discrete}
use Rattle.std.proofs.Math.Dec.{eqb}
use Rattle.std.proofs.Math.ListN.{length-map}
use Rattle.std.proofs.lemmas.List.{get_or-replicate}
use Rattle.std.proofs.Math.Seq.{length-take-le}
use borrow.Author.Tests.{eq-eqb, eqb-true}
use Rattle.lists.specs.Below.{below}
use Rattle.lists.specs.laws.Bools.{not_both, and_right}
use Rattle.lists.specs.Scans.{Every, done, any_of}
use Rattle.lists.specs.laws.Scans.{every_map, every_two}
use Rattle.units.specs.declared.Page.{Page}
use Rattle.slots.specs.Table.{to_page, no_page, set_changed, page_at, vacant, changed_at, slot_of, changed_page, uses, without, times, touched, loaded, evicted, marked, unmarked, no_slots}
use Rattle.slots.specs.Rules.{slot_rules}
use Rattle.slots.specs.laws.Order.{times_here, times_next, times_last, every_last, times_none, times_out, every_without, without_same, without_other, without_none, without_length, first_fewer}
use Rattle.slots.specs.laws.Sits.{Whole, Sits, Listed, Alone, absent_alone, sits_back, vacant_page, occupied, slot_found, slot_absent, slot_only, slot_nowhere, slot_occupied, slot_apart, slot_alone, changed_page_lem, changed_not, uses_beyond, uses_once, uses_room}
use Rattle.slots.specs.declared.Slots.{Slots}

-- tables with the same pages
pub record Same (t t' : Slots) : Type 0 where
  pub page : (i : ℕ) → page_at t' i ≡ page_at t i
  pub vacancy : (i : ℕ) → vacant t' i ≡ vacant t i
  pub slot : (S p : ℕ) → slot_of S t' p ≡ slot_of S t p

same_pages : (t t' : Slots) → t'.pages ≡ t.pages → Same t t'
unfolding page_at vacant slot_of
same_pages t t' e = record { page = λ i. rw e; vacancy = λ i. rw e; slot = λ S p. rw e }

-- page p is in slot i, changed or not, and last in the order of use; the other slots are as they were
pub record Placed (t t' : Slots) (i p : ℕ) (c : Bool) : Type 0 where
  pub whole : Whole t'
  pub used : t'.used ≤ 16
  pub order : uses t' ≡ without (page_at t i) (uses t) ++ (p ∷ [])
  pub page_here : page_at t' i ≡ p
  pub page_other : (j : ℕ) → (j ≡ i → ⊥) → page_at t' j ≡ page_at t j
  pub changed_here : changed_at t' i ≡ c
  pub changed_other : (j : ℕ) → (j ≡ i → ⊥) → changed_at t' j ≡ changed_at t j

module _ {t t' : Slots} {i p : ℕ} {c : Bool} (q : Placed t t' i p c) where
  pub vacant_here : p < no_page → vacant t' i ≡ false
  vacant_here b = occupied t' i (omega (arith, q.page_here))

  pub vacant_other : (j : ℕ) → (j ≡ i → ⊥) → vacant t' j ≡ vacant t j
  unfolding vacant
  vacant_other j n = rw (q.page_other j n)

  -- another page was where it is
  was : (j r : ℕ) → (r ≡ p → ⊥) → page_at t' j ≡ r → (j ≡ i → ⊥) × (page_at t j ≡ r)
  was j r n e = let m : j ≡ i → ⊥ = λ z. n (sym e ∙ ap (page_at t') z ∙ q.page_here) in (m, sym (q.page_other j m) ∙ e)

  -- the slot of p; of a page in another slot; of a page in no slot; of the page that made way
  pub slot_new : (S : ℕ) → i < S → Alone S t p i → slot_of S t' p ≡ some i
  slot_new S h alone = slot_only S t' p i h q.page_here (λ j k e. go j k e (ℕ_discrete j i))
    where
      go : (j : ℕ) → j < S → page_at t' j ≡ p → Dec (j ≡ i) → j ≡ i
      go j k e (yes z) = z
      go j k e (no z) = alone j k (sym (q.page_other j z) ∙ e)

  pub slot_kept : (S r j : ℕ) → (r ≡ p → ⊥) → (j ≡ i → ⊥) → slot_of S t r ≡ some j → slot_of S t' r ≡ some j
  unfolding slot_of
  slot_kept S r j n m h =
      first_fewer (λ k. eqb (page_at t k) r) (λ k. eqb (page_at t' k) r) (below S) j (λ k e. eq-eqb (page_at t k) r (was k r n (eqb-true (page_at t' k) r e)).1) h
      (eq-eqb (page_at t' j) r (q.page_other j m ∙ (slot_found S t r j h).1))

  pub slot_still : (S r : ℕ) → (r ≡ p → ⊥) → slot_of S t r ≡ none → slot_of S t' r ≡ none
  slot_still S r n h = slot_nowhere S t' r (λ j k e. slot_absent S t r h j k (was j r n e).1)

  pub slot_gone : {S end : ℕ} → Sits S end t → i < S → vacant t i ≡ false → (page_at t i ≡ p → ⊥) → slot_of S t' (page_at t i) ≡ none
  slot_gone {S} s h v n = slot_nowhere S t' (page_at t i) (λ j k e. let w = was j (page_at t i) n e in w.0 (slot_apart s i j h k v w.1))

  -- the rules, for a page that was in no other slot, below an end that may be further on
  pub placed_sits : {S end : ℕ} (end' : ℕ) → Sits S end t → i < S → Alone S t p i → p < end' → end ≤ end' → end' ≤ no_page → Sits S end' t'
  placed_sits {S} {end} end' s h alone b m small =
      record {
        whole = q.whole;
        few = s.few;
        used = q.used;
        low = λ j k v. low j k v (ℕ_discrete j i);
        found = λ j k v. found j k v (ℕ_discrete j i);
        once = λ j k v. once j k v (ℕ_discrete j i);
        listed = rw q.order (every_last p (without (page_at t i) (uses t)) (every_map kept (without (page_at t i) (uses t)) rest) (b, (i, slot_new S h alone)));
        changed = λ j k f. changed j k f (ℕ_discrete j i);
        spare = λ j k l. let n : j ≡ i → ⊥ = λ z. omega arith in let a = s.spare j k l in (vacant_other j n ∙ a.0, q.changed_other j n ∙ a.1);
      }
    where
      -- what is left of the order of use: pages in other slots
      rest : Every (λ r. Listed S end t r × (r ≡ page_at t i → ⊥)) (without (page_at t i) (uses t))
      rest =
          every_two (without (page_at t i) (uses t)) (every_without (page_at t i) (uses t) s.listed)
          (times_out (page_at t i) (without (page_at t i) (uses t)) (omega (arith, without_same (page_at t i) (uses t), uses_once s (omega arith) (page_at t i))))

      other : (r : ℕ) (l : Listed S end t r × (r ≡ page_at t i → ⊥)) → l.0.1.0 ≡ i → ⊥
      other r l z = l.1 (sym (slot_found S t r l.0.1.0 l.0.1.1).1 ∙ ap (page_at t) z)

      new : (r : ℕ) → Listed S end t r × (r ≡ page_at t i → ⊥) → r ≡ p → ⊥
      new r l e = let f = slot_found S t r l.0.1.0 l.0.1.1 in other r l (alone l.0.1.0 f.0 (f.1 ∙ e))

      kept : (r : ℕ) → Listed S end t r × (r ≡ page_at t i → ⊥) → Listed S end' t' r
      kept r l = (omega (arith, l.0.0), (l.0.1.0, slot_kept S r l.0.1.0 (new r l) (other r l) l.0.1.1))

      low : (j : ℕ) → j < S → vacant t' j ≡ false → Dec (j ≡ i) → page_at t' j < end'
      low j k v (yes z) = rw (z, q.page_here) b
      low j k v (no z) = rw (q.page_other j z) (omega (arith, s.low j k (sym (vacant_other j z) ∙ v)))

      found : (j : ℕ) → j < S → vacant t' j ≡ false → Dec (j ≡ i) → slot_of S t' (page_at t' j) ≡ some j
      found j k v (yes z) = rw (z, q.page_here) (slot_new S h alone)
      found j k v (no z) = rw (q.page_other j z) (slot_kept S (page_at t j) j (λ e. z (alone j k e)) z (s.found j k (sym (vacant_other j z) ∙ v)))

      once : (j : ℕ) → j < S → vacant t' j ≡ false → Dec (j ≡ i) → times (page_at t' j) (uses t') ≡ 1
      once j k v (yes z) = rw (z, q.page_here, q.order, times_last, times_here) (ap suc (times_none p (without (page_at t i) (uses t)) rest (λ l. new p l refl)))
      once j k v (no z) =
          let u = sym (vacant_other j z) ∙ v in
          rw (q.page_other j z, q.order, times_last)
          (times_next (page_at t j) p (without (page_at t i) (uses t)) (λ e. z (alone j k (sym e)))
          ∙ without_other (page_at t j) (page_at t i) (uses t) (λ e. z (sym (slot_apart s j i k h u (sym e))))
          ∙ s.once j k u)

      changed : (j : ℕ) → j < S → changed_at t' j ≡ true → Dec (j ≡ i) → vacant t' j ≡ false
      changed j k f (yes z) = rw z (vacant_here (omega arith))
      changed j k f (no z) = vacant_other j z ∙ s.changed j k (sym (q.changed_other j z) ∙ f)

  -- no changed page comes or goes with an unchanged one
  pub changes_kept : (S r : ℕ) → changed_at t i ≡ false → c ≡ false → changed_page S t' r ≡ changed_page S t r
  unfolding changed_page
  changes_kept S r a b = ap (λ (f : ℕ → Bool). any_of f (below S)) (fun_ext (λ j. go j (ℕ_discrete j i)))
    where
      go : (j : ℕ) → Dec (j ≡ i) → (eqb (page_at t' j) r && changed_at t' j) ≡ (eqb (page_at t j) r && changed_at t j)
      go j (yes z) =
          and_right (eqb (page_at t' j) r) (changed_at t' j) (ap (changed_at t') z ∙ q.changed_here ∙ b)
          ∙ sym (and_right (eqb (page_at t j) r) (changed_at t j) (ap (changed_at t) z ∙ a))
      go j (no z) = rw (q.page_other j z, q.changed_other j z)

-- the order of use as the table keeps it: l in front, the spare elements behind
numbers : (l : List ℕ) → map (λ p. p.0) (map to_page l) ≡ l
numbers [] = refl
numbers (x ∷ xs) = ap (λ (ys : List ℕ). x ∷ ys) (numbers xs)

module _ (t : Slots) (w : Whole t) where
  order_of : (l : List ℕ) (n : ℕ) → length l ≡ n → n ≤ 16
      → (length (map to_page l ++ drop n t.order) ≡ 16) × (map (λ p. p.0) (take n (map to_page l ++ drop n t.order)) ≡ l)
  order_of l n e h = (
    simp (length-append, length-map, length-drop) (omega (arith, w.order)),
    rw (take_at (map to_page l) (drop n t.order) n (length-map l to_page ∙ e)) (numbers l),
  )

  uses_length : t.used ≤ 16 → length (uses t) ≡ t.used
  unfolding uses
  uses_length h = length-map (take t.used t.order) (λ p. p.0) ∙ length-take-le t.used t.order (omega (arith, w.order))

  -- x is taken out and p comes last
  moved_length : (x p : ℕ) → t.used ≤ 16 → times x (uses t) ≡ 1 → length (without x (uses t) ++ (p ∷ [])) ≡ t.used
  moved_length x p h e = length-append (without x (uses t)) (p ∷ []) ∙ omega (arith, without_length x (uses t) (omega arith), uses_length h)

-- a use of the page p in slot i
module _ (t : Slots) (p : ℕ) where
  pub touch_same : Same t (touched p t)
  unfolding touched
  touch_same = same_pages t (touched p t) refl

  pub touch_changed : (i : ℕ) → changed_at (touched p t) i ≡ changed_at t i
  unfolding touched changed_at
  touch_changed i = refl

  pub touch_changes : (S q : ℕ) → changed_page S (touched p t) q ≡ changed_page S t q
  unfolding touched changed_page changed_at page_at
  touch_changes S q = refl

pub touch_placed : {S end : ℕ} {t : Slots} → Sits S end t → (p i : ℕ) → p < no_page → slot_of S t p ≡ some i → Placed t (touched p t) i p (changed_at t i)
unfolding touched uses
touch_placed {S} {end} {t} s p i b h =
    let f = slot_found S t p i h in
    let l = moved_length t s.whole p p s.used (rw f.1 at (s.once i f.0 (slot_occupied S t p i b h))) in
    let o = order_of t s.whole (without p (uses t) ++ (p ∷ [])) t.used l s.used in
    record {
      whole = record { pages = s.whole.pages; changed = s.whole.changed; order = o.0 };
      used = s.used;
      order = o.1 ∙ ap (λ (x : ℕ). without x (uses t) ++ (p ∷ [])) (sym f.1);
      page_here = (touch_same t p).page i ∙ f.1;
      page_other = λ j n. (touch_same t p).page j;
      changed_here = touch_changed t p i;
      changed_other = λ j n. touch_changed t p j;
    }

pub touch_sits : {S end : ℕ} {t : Slots} → Sits S end t → (p i : ℕ) → p < end → end ≤ no_page → slot_of S t p ≡ some i → Sits S end (touched p t)
touch_sits {S} {end} {t} s p i b small h =
    placed_sits (touch_placed s p i (omega arith) h) end s (slot_found S t p i h).0 (slot_alone s p i (omega arith) h) b (omega arith) small

-- a table in which slot i has page p, unchanged
put_placed : (t t' : Slots) (i p : ℕ) → Whole t → i < 16 → t'.pages ≡ set t.pages i (to_page p) → t'.changed ≡ set t.changed i 0
    → length t'.order ≡ 16 → t'.used ≤ 16 → uses t' ≡ without (page_at t i) (uses t) ++ (p ∷ []) → Placed t t' i p false
unfolding page_at changed_at
put_placed t t' i p w h a b l u o =
    record {
      whole = record { pages = ap length a ∙ length-set t.pages i (to_page p) ∙ w.pages; changed = ap length b ∙ length-set t.changed i 0 ∙ w.changed; order = l };
      used = u;
      order = o;
      page_here = rw a (ap (λ (x : Page). x.0) (get_or-set_same t.pages i (to_page p) (to_page 0) (omega (arith, w.pages))));
      page_other = λ j n. rw a (ap (λ (x : Page). x.0) (get_or-set_other t.pages i j (to_page p) (to_page 0) n));
      changed_here = rw (b, get_or-set_same t.changed i 0 0 (omega (arith, w.changed)));
      changed_other = λ j n. rw (b, get_or-set_other t.changed i j 0 0 n);
    }

pub load_placed : {S end : ℕ} {t : Slots} → Sits S end t → end ≤ no_page → (i p : ℕ) → i < S → vacant t i ≡ true → Placed t (loaded i p t) i p false
unfolding loaded uses
load_placed {S} {end} {t} s small i p h v =
    let e : length (uses t ++ (p ∷ [])) ≡ t.used + 1 = length-append (uses t) (p ∷ []) ∙ omega (arith, uses_length t s.whole s.used) in
    let m : t.used + 1 ≤ 16 = omega (arith, uses_length t s.whole s.used, uses_room s small i h v, s.few) in
    let n : without (page_at t i) (uses t) ≡ uses t = without_none (page_at t i) (uses t) (uses_beyond s (page_at t i) (rw (vacant_page t i v) small)) in
    let o = order_of t s.whole (uses t ++ (p ∷ [])) (t.used + 1) e m in
    put_placed t (loaded i p t) i p s.whole (omega (arith, s.few)) refl refl o.0 m (o.1 ∙ ap (λ (l : List ℕ). l ++ (p ∷ [])) (sym n))

pub evict_placed : {S end : ℕ} {t : Slots} → Sits S end t → (i p : ℕ) → i < S → vacant t i ≡ false → Placed t (evicted i p t) i p false
unfolding evicted uses
evict_placed {S} {end} {t} s i p h v =
    let e = moved_length t s.whole (page_at t i) p s.used (s.once i h v) in
    let o = order_of t s.whole (without (page_at t i) (uses t) ++ (p ∷ [])) t.used e s.used in
    put_placed t (evicted i p t) i p s.whole (omega (arith, s.few)) refl refl o.0 s.used o.1

-- a page that is in no slot comes into slot i
module _ {S end : ℕ} {t : Slots} (s : Sits S end t) (end' i p : ℕ) (h : i < S)
    (b : p < end') (m : end ≤ end') (small : end' ≤ no_page) (absent : slot_of S t p ≡ none) where
  pub load_sits : vacant t i ≡ true → Sits S end' (loaded i p t)
  load_sits v = placed_sits (load_placed s (omega arith) i p h v) end' s h (absent_alone S t p absent i) b m small

  pub evict_sits : vacant t i ≡ false → Sits S end' (evicted i p t)
  evict_sits v = placed_sits (evict_placed s i p h v) end' s h (absent_alone S t p absent i) b m small

-- other marks
flag_sits : {S end : ℕ} {t : Slots} → Sits S end t → (flags : List ℕ) → length flags ≡ 16
    → ((i : ℕ) → i < S → changed_at (set_changed flags t) i ≡ true → vacant t i ≡ false)
    → ((i : ℕ) → S ≤ i → i < 16 → changed_at (set_changed flags t) i ≡ false) → Sits S end (set_changed flags t)
unfolding page_at vacant slot_of uses
flag_sits {S} {end} {t} s flags l a b =
    record {
      whole = record { pages = s.whole.pages; changed = l; order = s.whole.order };
      few = s.few;
      used = s.used;
      low = s.low;
      found = s.found;
      once = s.once;
      listed = s.listed;
      changed = a;
      spare = λ i k m. ((s.spare i k m).0, b i k m);
    }

-- slot i is changed; the pages stay
pub mark_same : (t : Slots) (i : ℕ) → Same t (marked i t)
unfolding marked
mark_same t i = same_pages t (marked i t) refl

pub mark_here : (t : Slots) (i : ℕ) → Whole t → i < 16 → changed_at (marked i t) i ≡ true
unfolding marked changed_at
mark_here t i w h = rw (get_or-set_same t.changed i 1 0 (omega (arith, w.changed)))

pub mark_other : (t : Slots) (i j : ℕ) → (j ≡ i → ⊥) → changed_at (marked i t) j ≡ changed_at t j
unfolding marked changed_at
mark_other t i j n = rw (get_or-set_other t.changed i j 1 0 n)

-- a page that was placed, changed
pub mark_placed : {t t' : Slots} {i p : ℕ} {c : Bool} → Placed t t' i p c → i < 16 → Placed t (marked i t') i p true
unfolding marked uses
mark_placed {t} {t'} {i} q h =
    record {
      whole = record { pages = q.whole.pages; changed = length-set t'.changed i 1 ∙ q.whole.changed; order = q.whole.order };
      used = q.used;
      order = q.order;
      page_here = (mark_same t' i).page i ∙ q.page_here;
      page_other = λ j n. (mark_same t' i).page j ∙ q.page_other j n;
      changed_here = mark_here t' i q.whole h;
      changed_other = λ j n. mark_other t' i j n ∙ q.changed_other j n;
    }

pub mark_sits : {S end : ℕ} {t : Slots} → Sits S end t → (i : ℕ) → i < S → vacant t i ≡ false → Sits S end (marked i t)
unfolding marked
mark_sits {S} {end} {t} s i h v =
    flag_sits s (set t.changed i 1) (length-set t.changed i 1 ∙ s.whole.changed)
    (λ j k f. go j k f (ℕ_discrete j i))
    (λ j k m. mark_other t i j (λ z. omega arith) ∙ (s.spare j k m).1)
  where
    go : (j : ℕ) → j < S → changed_at (marked i t) j ≡ true → Dec (j ≡ i) → vacant t j ≡ false
    go j k f (yes z) = ap (vacant t) z ∙ v
    go j k f (no z) = s.changed j k (sym (mark_other t i j z) ∙ f)

-- the page in slot i is one of the changed pages now
pub mark_changes : (S : ℕ) (t : Slots) (i p : ℕ) → Whole t → i < S → S ≤ 16 → changed_page S (marked i t) p ≡ (eqb (page_at t i) p || changed_page S t p)
unfolding changed_page
mark_changes S t i p w h few = go (eqb (page_at t i) p) refl
  where
    same : (j : ℕ) → eqb (page_at t i) p ≡ false → Dec (j ≡ i) → (eqb (page_at (marked i t) j) p && changed_at (marked i t) j) ≡ (eqb (page_at t j) p && changed_at t j)
    same j n (yes z) = rw ((mark_same t i).page j, z, n)
    same j n (no z) = rw ((mark_same t i).page j, mark_other t i j z)

    go : (b : Bool) → eqb (page_at t i) p ≡ b → changed_page S (marked i t) p ≡ (b || changed_page S t p)
    go true e = changed_page_lem S (marked i t) p i h ((mark_same t i).page i ∙ eqb-true (page_at t i) p e) (mark_here t i w (omega arith))
    go false e = ap (λ (f : ℕ → Bool). any_of f (below S)) (fun_ext (λ j. same j e (ℕ_discrete j i)))

-- no slot is changed any more; the pages stay
pub unmark_same : (t : Slots) → Same t (unmarked t)
unfolding unmarked
unmark_same t = same_pages t (unmarked t) refl

zeros : (n i : ℕ) → ◌≡◌ {A = ℕ} (get_or (replicate n 0) i 0) 0
zeros zero i = refl
zeros (suc n) zero = refl
zeros (suc n) (suc i) = zeros n i

pub unmark_changed : (t : Slots) (i : ℕ) → changed_at (unmarked t) i ≡ false
unfolding unmarked changed_at
unmark_changed t i = rw (zeros 16 i)

pub unmark_sits : {S end : ℕ} {t : Slots} → Sits S end t → Sits S end (unmarked t)
unfolding unmarked
unmark_sits {S} {end} {t} s =
    flag_sits s (replicate 16 0) refl
    (λ i k f. absurd (not_both (changed_at (unmarked t) i) f (unmark_changed t i)))
    (λ i k m. unmark_changed t i)

pub unmark_changes : (S : ℕ) (t : Slots) (p : ℕ) → changed_page S (unmarked t) p ≡ false
unmark_changes S t p = changed_not S (unmarked t) p (λ j k e. unmark_changed t j)

-- the table of an accepted open
pub no_slots_vacant : (i : ℕ) → i < 16 → vacant no_slots i ≡ true
unfolding no_slots vacant page_at
no_slots_vacant i h = ap (λ (x : Page). eqb x.0 no_page) (get_or-replicate 16 i (to_page no_page) (to_page 0) h)

pub no_slots_changed : (i : ℕ) → changed_at no_slots i ≡ false
unfolding no_slots changed_at
no_slots_changed i = rw (zeros 16 i)

pub no_slots_changes : (S p : ℕ) → changed_page S no_slots p ≡ false
no_slots_changes S p = changed_not S no_slots p (λ j k e. no_slots_changed j)

pub no_slots_sits : (S end : ℕ) → S ≤ 16 → Sits S end no_slots
unfolding no_slots uses
no_slots_sits S end few =
    record {
      whole = record { pages = refl; changed = refl; order = refl };
      few = few;
      used = omega arith;
      low = λ i k v. absurd (no i k v);
      found = λ i k v. absurd (no i k v);
      once = λ i k v. absurd (no i k v);
      listed = done;
      changed = λ i k f. absurd (not_both (changed_at no_slots i) f (no_slots_changed i));
      spare = λ i k m. (no_slots_vacant i m, no_slots_changed i);
    }
  where
    no : (i : ℕ) → i < S → vacant no_slots i ≡ false → ⊥
    no i k v = not_both (vacant no_slots i) (no_slots_vacant i (omega arith)) v

pub no_slots_rules : (S end : ℕ) → S ≤ 16 → slot_rules S end no_slots ≡ true
no_slots_rules S end few = sits_back (no_slots_sits S end few)

pub no_slots_absent : (S p : ℕ) → S ≤ 16 → p < no_page → slot_of S no_slots p ≡ none
no_slots_absent S p few b = slot_nowhere S no_slots p (λ j k e. omega (arith, vacant_page no_slots j (no_slots_vacant j (omega arith))))
