-- The entries of a close, as lists: the new ones of the changed pages, those that stay, and all of them afterwards. Changed
-- pages and free places are picked from numbers in a row, so both rise; therefore new entries are in order, no place is given
-- twice, and all entries afterwards follow the index's two rules. What a close does to files is said elsewhere. Assumes
-- nothing.
use Prim.Native.Nat.{ℕ, suc, ◌+◌, ◌<◌, ◌≤◌}
use Rattle.std.specs.Prelude.{◌≡◌, Bool, ◌&&◌, ◌||◌, ◌⊎◌, length}
use Rattle.std.proofs.Math.Path.{refl, ap}
use Rattle.std.proofs.Common.{◌∙◌, sym, inl, inr}
use Rattle.std.proofs.Math.Bool.{true, false, not}
use Rattle.std.proofs.lemmas.Bool.{false≢true}
use mathlib.Core.List.{List, [], ◌∷◌, map}
use Rattle.std.proofs.Math.Option.{Option, some, none}
use native.Mathlib.Omega.{arith}
use Rattle.std.proofs.Math.Dec.{eqb}
use borrow.Author.Tests.{eq-eqb, ne_eqb, not-true}
use Rattle.lists.specs.Below.{below, zip, Rising, Rising.flat, Rising.step}
use Rattle.lists.specs.laws.Below.{rising_above, rising_keep, every_from, any_from, every_zip, every_of_map}
use Rattle.lists.specs.Bools.{if_then}
use Rattle.lists.specs.laws.Bools.{both, not_both, and_make}
use Rattle.lists.specs.Scans.{Every, keep, any_of}
use Rattle.lists.specs.laws.Scans.{every_map, every_two, every_keep, every_all, every_self, none_any, any_keep_none, none_first, any_keep}
use Rattle.units.specs.Ages.{tick, reusable}
use Rattle.units.specs.Sizes.{top, wait, places}
use Rattle.units.specs.declared.Settings.{Settings}
use Rattle.units.specs.declared.Tick.{Tick}
use Rattle.sidefile.specs.Judge.{ascending, apart}
use Rattle.ledger.specs.declared.Entry.{Entry}
use Rattle.ledger.specs.View.{indexed, retired, retired_at}
use Rattle.ledger.specs.Entries.{page_of, place_of, has, at, find, is_leaving, retires, is_reusable, put_all, entered_or, fresh}
use Rattle.ledger.specs.laws.Rowed.{Small}
use Rattle.ledger.specs.inner.Placed.{resting}
use Rattle.ledger.specs.laws.Ordered.{every_put, asc_make, asc_put, asc_keep, apart_make, apart_put, apart_keep, one_place, self_at, finds, or_else, only, find_some, find_put, find_keep}
use Rattle.ledger.specs.laws.Aged.{stay_split, goes_unchanged}

-- New entries of some pages with some places.

module _ (N : Tick) (es : List Entry) (sum : ℕ → ℕ) where
  -- pages that rise make entries in order; places that rise are apart
  pub asc_fresh : (low : ℕ) (cs qs : List ℕ) → Rising low cs → ascending low (map indexed (map (fresh N es sum) (zip cs qs))) ≡ true
  unfolding zip fresh ascending
  asc_fresh low l qs flat = refl
  asc_fresh low l [] (step k r) = refl
  asc_fresh low l (q ∷ qs) (step {x = x} {xs = xs} k r) =
      let z : suc x ≡ x + 1 = omega arith in
      asc_make low (fresh N es sum (x, q)) (map (fresh N es sum) (zip xs qs)) k
      (ap (λ (n : ℕ). ascending n (map indexed (map (fresh N es sum) (zip xs qs)))) (sym z) ∙ asc_fresh (suc x) xs qs r)

  -- what holds of the pages and of the places, and what a new entry says of the rest
  pub every_fresh : {P Q : ℕ → Type 0} (cs qs : List ℕ) → Every P cs → Every Q qs
      → Every (λ e. P (page_of e) × Q (place_of e) × (e.entered ≡ entered_or N (find (page_of e) es)) × (e.changed ≡ N) × (e.sum ≡ sum (page_of e)))
      (map (fresh N es sum) (zip cs qs))
  unfolding fresh
  every_fresh cs qs p q =
      every_of_map (fresh N es sum) (zip cs qs) (every_map (λ g h. (h.0, h.1, refl, refl, refl)) (zip cs qs) (every_zip cs qs p q))

  pub apart_fresh : (low : ℕ) (cs qs : List ℕ) → Rising low qs → apart (map indexed (map (fresh N es sum) (zip cs qs))) ≡ true
  unfolding zip fresh apart at
  apart_fresh low [] l r = refl
  apart_fresh low (c ∷ cs) l flat = refl
  apart_fresh low (c ∷ cs) l (step {x = q} {xs = qs} k r) =
      let news : List Entry = map (fresh N es sum) (zip cs qs) in
      apart_make (fresh N es sum (c, q)) news
      (none_any (at q) news
      (every_map (λ e h. ne_eqb (place_of e) q (λ z. omega (arith, h.1))) news
      (every_fresh {P = λ c. Unit {0}} cs qs (every_all (λ c. tt) cs) (rising_above (suc q) qs r))))
      (apart_fresh (suc q) cs qs r)

  -- every page has its entry if there are places enough
  pub all_fresh : (p : ℕ) (cs qs : List ℕ) → length cs ≤ length qs → any_of (λ c. eqb c p) cs ≡ true → any_of (has p) (map (fresh N es sum) (zip cs qs)) ≡ true
  unfolding zip fresh any_of has
  all_fresh p [] qs h a = a
  all_fresh p (c ∷ cs) [] h a = absurd (omega arith)
  all_fresh p (c ∷ cs) (q ∷ qs) h a = go (eqb c p) a (all_fresh p cs qs (omega arith))
    where
      go : (b : Bool) → (b || any_of (λ c. eqb c p) cs) ≡ true → (any_of (λ c. eqb c p) cs ≡ true → any_of (has p) (map (fresh N es sum) (zip cs qs)) ≡ true)
          → (b || any_of (has p) (map (fresh N es sum) (zip cs qs))) ≡ true
      go true a ih = refl
      go false a ih = ih a

  pub length_fresh : (cs qs : List ℕ) → length cs ≤ length qs → length (map (fresh N es sum) (zip cs qs)) ≡ length cs
  unfolding zip
  length_fresh [] qs h = refl
  length_fresh (c ∷ cs) [] h = absurd (omega arith)
  length_fresh (c ∷ cs) (q ∷ qs) h = ap suc (length_fresh cs qs (omega arith))

-- What a close is given: the settings, the last closed tick, e, which pages are changed, the entries and the ledger, and the
-- checksum of a changed page's image.

pub record Closing : Type 0 where
  pub settings : Settings
  pub closed : Tick
  pub end : ℕ
  pub changed_in : ℕ → Bool
  pub old : List Entry
  pub ledger : List ℕ
  pub sum : ℕ → ℕ

-- N, and the wait
abbrev pub now : Closing → Tick
now c = tick (c.closed.0 + 1)

abbrev pub wait_of : Closing → ℕ
wait_of c = wait c.settings

-- place q may be given; an entry gives its place up
abbrev pub may_take : Closing → ℕ → Bool
may_take c q = is_reusable c.settings (wait_of c) (now c) c.old c.ledger q

abbrev pub gives : Closing → Entry → Bool
gives c e = retires (wait_of c) (now c) c.changed_in e

-- the changed pages and the free places; the new entries, those that stay, and all of them
abbrev pub changes_of : Closing → List ℕ
changes_of c = keep c.changed_in (below c.end)

abbrev pub free_of : Closing → List ℕ
free_of c = keep (may_take c) (below (places c.settings))

abbrev pub new_of : Closing → List Entry
new_of c = map (fresh (now c) c.old c.sum) (zip (changes_of c) (free_of c))

abbrev pub stays_of : Closing → List Entry
stays_of c = keep (λ e. not (gives c e)) c.old

abbrev pub later_of : Closing → List Entry
later_of c = put_all (new_of c) (stays_of c)

-- what is known of each new entry
pub record IsNew (c : Closing) (e : Entry) : Type 0 where
  pub is_changed : c.changed_in (page_of e) ≡ true
  pub page_below : page_of e < c.end
  pub may : may_take c (place_of e) ≡ true
  pub place_below : place_of e < places c.settings
  pub came : e.entered ≡ entered_or (now c) (find (page_of e) c.old)
  pub went : e.changed ≡ now c
  pub summed : e.sum ≡ c.sum (page_of e)

-- and of each that stays: it is the one of its page and the one of its place
pub record IsStay (c : Closing) (e : Entry) : Type 0 where
  pub stays : gives c e ≡ false
  pub found : find (page_of e) c.old ≡ some e
  pub alone : Every (λ y. place_of y ≡ place_of e → y ≡ e) c.old
  pub there : any_of (at (place_of e)) c.old ≡ true

-- a place that may be given: no entry has it, and it is not resting
pub free_place : (c : Closing) (q : ℕ) → may_take c q ≡ true
    → (any_of (at q) c.old ≡ false) × (resting c.settings (wait_of c) (now c) c.ledger q ≡ false)
unfolding is_reusable
free_place c q h =
    let is = retired c.settings c.ledger q in
    let rested = reusable (wait_of c) (retired_at c.settings c.ledger q) (now c) in
    let b = both (not (any_of (at q) c.old)) (not is || rested) h in
    (not-true (any_of (at q) c.old) b.0, go is rested b.1)
  where
    go : (a b : Bool) → (not a || b) ≡ true → (a && not b) ≡ false
    go true true e = refl
    go true false e = absurd (false≢true e)
    go false b e = refl

module _ (c : Closing) where
  pub new_facts : Every (IsNew c) (new_of c)
  new_facts =
      every_map
      (λ e h. record {
        is_changed = h.0.0;
        page_below = omega (arith, h.0.1);
        may = h.1.0;
        place_below = omega (arith, h.1.1);
        came = h.2;
        went = h.3;
        summed = h.4;
      })
      (new_of c)
      (every_fresh (now c) c.old c.sum (changes_of c) (free_of c)
      (every_keep c.changed_in (below c.end) (every_from 0 c.end))
      (every_keep (may_take c) (below (places c.settings)) (every_from 0 (places c.settings))))

  -- the new entries are in order and their places apart
  pub asc_new : ascending 0 (map indexed (new_of c)) ≡ true
  asc_new = asc_fresh (now c) c.old c.sum 0 (changes_of c) (free_of c) (rising_keep c.changed_in 0 c.end)

  pub apart_new : apart (map indexed (new_of c)) ≡ true
  apart_new = apart_fresh (now c) c.old c.sum 0 (changes_of c) (free_of c) (rising_keep (may_take c) 0 (places c.settings))

  -- what stays did not change, and what held of the old entries holds of it
  pub every_stay : {P : Entry → Type 0} → Every P c.old → Every (λ e. (gives c e ≡ false) × P e) (stays_of c)
  every_stay h = every_map (λ e k. (not-true (gives c e) k.0, k.1)) (stays_of c) (every_keep (λ e. not (gives c e)) c.old h)

  pub stay_facts : ascending 0 (map indexed c.old) ≡ true → apart (map indexed c.old) ≡ true → Every (IsStay c) (stays_of c)
  stay_facts a b =
      every_map (λ e h. record { stays = h.0; found = h.1.0; alone = h.1.1.0; there = h.1.1.1 }) (stays_of c)
      (every_stay (every_two c.old (finds 0 c.old a) (every_two c.old (one_place c.old b) (self_at c.old))))

  -- a new entry has neither the page nor the place of one that stays
  pub new_pages : Every (λ x. any_of (has (page_of x)) (stays_of c) ≡ false) (new_of c)
  unfolding has
  new_pages = every_map (λ x n. none_any (has (page_of x)) (stays_of c) (every_map (other x n) (stays_of c) (every_stay (self_at c.old)))) (new_of c) new_facts
    where
      other : (x : Entry) → IsNew c x → (y : Entry) → (gives c y ≡ false) × (any_of (at (place_of y)) c.old ≡ true) → eqb (page_of y) (page_of x) ≡ false
      other x n y h =
          ne_eqb (page_of y) (page_of x)
          (λ z. not_both (c.changed_in (page_of x)) n.is_changed (ap c.changed_in (sym z) ∙ (stay_split (wait_of c) c.changed_in y (now c) h.0).0))

  pub new_places : Every (λ x. any_of (at (place_of x)) (stays_of c) ≡ false) (new_of c)
  new_places = every_map (λ x n. any_keep_none (at (place_of x)) (λ e. not (gives c e)) c.old (free_place c (place_of x) n.may).0) (new_of c) new_facts

  pub stay_places : Every (λ e. Every (λ y. place_of y ≡ place_of e → ⊥) (new_of c)) (stays_of c)
  unfolding at
  stay_places =
      every_map (λ e h. every_map (λ y n z. taken h.1 (free_place c (place_of y) n.may).0 z) (new_of c) new_facts)
      (stays_of c) (every_stay (self_at c.old))
    where
      taken : {q r : ℕ} → any_of (at q) c.old ≡ true → any_of (at r) c.old ≡ false → r ≡ q → ⊥
      taken {q} {r} h n z = not_both (any_of (at q) c.old) h (ap (λ (k : ℕ). any_of (at k) c.old) (sym z) ∙ n)

  -- a changed page has a new entry if there are places enough; an unchanged one has none
  pub changed_entry : length (changes_of c) ≤ length (free_of c) → (p : ℕ) → p < c.end → c.changed_in p ≡ true → any_of (has p) (new_of c) ≡ true
  changed_entry enough p h k =
      all_fresh (now c) c.old c.sum p (changes_of c) (free_of c) enough
      (any_keep (λ q. eqb q p) c.changed_in (below c.end)
      ∙ any_from (λ q. eqb q p && c.changed_in q) 0 c.end p (omega arith) (omega arith) (and_make (eqb p p) (c.changed_in p) (eq-eqb p p refl) k))

  pub unchanged_entry : (p : ℕ) → c.changed_in p ≡ false → any_of (has p) (new_of c) ≡ false
  unfolding has
  unchanged_entry p k =
      none_any (has p) (new_of c)
      (every_map (λ e n. ne_eqb (page_of e) p (λ z. not_both (c.changed_in (page_of e)) n.is_changed (ap c.changed_in z ∙ k))) (new_of c) new_facts)

  -- All entries after the close.

  pub asc_later : ascending 0 (map indexed c.old) ≡ true → ascending 0 (map indexed (later_of c)) ≡ true
  asc_later a = asc_put 0 (new_of c) (stays_of c) asc_new new_pages (asc_keep (λ e. not (gives c e)) 0 c.old a)

  pub apart_later : apart (map indexed c.old) ≡ true → apart (map indexed (later_of c)) ≡ true
  apart_later a = apart_put (new_of c) (stays_of c) apart_new new_places (apart_keep (λ e. not (gives c e)) c.old a)

  -- what holds of every new entry and held of every old one; or, of each, which of the two it is
  pub every_later : {P : Entry → Type 0} → ((e : Entry) → IsNew c e → P e) → Every P c.old → Every P (later_of c)
  every_later f h = every_put (new_of c) (stays_of c) (every_map f (new_of c) new_facts) (every_map (λ e k. k.1) (stays_of c) (every_stay h))

  pub later_facts : ascending 0 (map indexed c.old) ≡ true → apart (map indexed c.old) ≡ true → {P : Entry → Type 0} → Every P c.old
      → Every (λ e. IsNew c e ⊎ (IsStay c e × P e)) (later_of c)
  later_facts a b h =
      every_put (new_of c) (stays_of c) (every_map (λ e n. inl n) (new_of c) new_facts)
      (every_map (λ e k. inr (k.0, k.1.1)) (stays_of c) (every_two (stays_of c) (stay_facts a b) (every_stay h)))

  -- what a page finds afterwards: its new entry, or its old one if that stays
  pub find_later : ascending 0 (map indexed c.old) ≡ true → (p : ℕ) → find p (later_of c) ≡ or_else (find p (new_of c)) (only (λ e. not (gives c e)) (find p c.old))
  find_later a p = find_put p 0 (new_of c) (stays_of c) asc_new new_pages ∙ ap (or_else (find p (new_of c))) (find_keep p 0 (λ e. not (gives c e)) c.old a)

  pub find_unchanged : ascending 0 (map indexed c.old) ≡ true → (p : ℕ) → c.changed_in p ≡ false → find p (later_of c) ≡ only (λ e. not (gives c e)) (find p c.old)
  unfolding find
  find_unchanged a p k = find_later a p ∙ ap (λ (o : Option Entry). or_else o (only (λ e. not (gives c e)) (find p c.old))) (none_first (has p) (new_of c) (unchanged_entry p k))

  -- the entry of an unchanged page that has none afterwards leaves
  pub left_leaving : ascending 0 (map indexed c.old) ≡ true → (p : ℕ) (y : Entry) → c.changed_in p ≡ false → find p (later_of c) ≡ none → find p c.old ≡ some y
      → is_leaving (wait_of c) (now c) c.changed_in y ≡ true
  left_leaving a p y k n e =
      let z : page_of y ≡ p = (find_some p c.old y (every_self c.old) e).0 in
      let o : only (λ x. not (gives c x)) (some y) ≡ none = ap (only (λ x. not (gives c x))) (sym e) ∙ sym (find_unchanged a p k) ∙ n in
      goes_unchanged (wait_of c) c.changed_in y (now c) (go (gives c y) o) (ap c.changed_in z ∙ k)
    where
      go : (b : Bool) → if_then (not b) (some y) none ≡ none → b ≡ true
      go true h = refl
      go false h = let z : ◌≡◌ {A = ℕ} 0 1 = cc in absurd (omega arith)

  -- the entry tick of a new entry: that of an old one of its page, or N
  pub came_from : (P : Tick → Type 0) (e : Entry) → IsNew c e → P (now c) → Every (λ y. page_of y ≡ page_of e → P y.entered) c.old → P e.entered
  came_from P e n here old = rw n.came (go (find (page_of e) c.old) refl)
    where
      go : (o : Option Entry) → find (page_of e) c.old ≡ o → P (entered_or (now c) o)
      go none h = here
      go (some y) h = let r = find_some (page_of e) c.old y old h in r.1 r.0

  -- what a page's entries entered after stays so
  pub entered_later : (t p : ℕ) → t < (now c).0 → Every (λ e. page_of e ≡ p → t < e.entered.0) c.old → Every (λ e. page_of e ≡ p → t < e.entered.0) (later_of c)
  entered_later t p h old =
      every_later (λ e n z. came_from (λ k. t < k.0) e n h (every_map (λ y k w. k (w ∙ z)) c.old old)) old

  -- entry tick, last change and closed tick stay in this order
  pub ages_later : Every (λ e. (e.entered.0 ≤ e.changed.0) × (e.changed.0 ≤ c.closed.0)) c.old
      → Every (λ e. (e.entered.0 ≤ e.changed.0) × (e.changed.0 ≤ (now c).0)) (later_of c)
  ages_later old = every_later new (every_map (λ e h. (h.0, omega (arith, h.1))) c.old old)
    where
      new : (e : Entry) → IsNew c e → (e.entered.0 ≤ e.changed.0) × (e.changed.0 ≤ (now c).0)
      new e n = rw n.went (came_from (λ k. k.0 ≤ (now c).0) e n (omega arith) (every_map (λ y h z. omega arith) c.old old), omega arith)

  -- the numbers of new entries have 32 bits, and so those of all of them
  module _ (t : (now c).0 ≤ top) (e : c.end ≤ top) (m : places c.settings ≤ top) (s : (p : ℕ) → c.sum p ≤ top) (old : Every Small c.old) where
    is_small : (x : Entry) → IsNew c x → Small x
    is_small x n =
        record {
          page = omega (arith, n.page_below);
          place = omega (arith, n.place_below);
          changed = rw n.went (omega arith);
          sum = rw n.summed (omega (arith, s (page_of x)));
          entered = came_from (λ k. k.0 < 4294967296) x n (omega arith) (every_map (λ y h z. h.entered) c.old old);
        }

    pub small_new : Every Small (new_of c)
    small_new = every_map is_small (new_of c) new_facts

    pub small_later : Every Small (later_of c)
    small_later = every_later is_small old
