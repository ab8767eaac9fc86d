-- Counting decides the slot rules: each row and each page in the order of use passes the judge's test exactly when the
-- rules hold. Assumes nothing.
use Prim.Native.Nat.{ℕ, zero, suc, ◌+◌, ◌<◌, ◌≤◌}
use mathlib.Core.Path.{◌≡◌, refl, ◌∙◌, sym, ap}
use mathlib.Core.List.{List, ◌∷◌, map}
use mathlib.Core.Bool.{Bool, true, false, not, ◌&&◌}
use mathlib.Core.Option.{some}
use native.Mathlib.Omega.{arith}
use native.Mathlib.Decide.{ℕ_discrete, dec_lt}
use lib.Dec.{eqb, ltb, leb}
use lib.ListN.{length, take, get_or, length-map, get_or-map}
use lib.Seq.{take_all, ext_get_or}
use borrow.Author.Tests.{lt-ltb, le-leb, eqb-true, ltb-true, leb-true, not-true}
use Rattle.lists.specs.Below.{from, below}
use Rattle.lists.specs.laws.Below.{length_from, get_from, all_from_lem}
use Rattle.lists.specs.Bools.{if_then}
use Rattle.lists.specs.laws.Bools.{both, false_of, not_both}
use Rattle.lists.specs.Scans.{Every, all_of}
use Rattle.lists.specs.laws.Scans.{every_map, every_all_of, all_of_every}
use Rattle.units.specs.inner.Pages.{numbers_of}
use Rattle.units.specs.declared.Page.{Page}
use Rattle.slots.specs.Table.{to_page, no_page, page_at, vacant, changed_at, slot_of, uses, times}
use Rattle.slots.specs.Rules.{slot_rules}
use Rattle.slots.specs.inner.Judged.{row_kept, use_kept}
use Rattle.slots.specs.laws.Order.{times_here, times_next, every_there, all_below}
use Rattle.slots.specs.laws.Sits.{Whole, Sits, Listed, sits, sits_back, vacant_page, occupied, slot_found, slot_only, slot_alone, slot_unchanged}
use Rattle.slots.specs.declared.Slots.{Slots}

-- how often x is a value of f, from a on
module _ (f : ℕ → ℕ) (x : ℕ) where
  times_never : (a n : ℕ) → ((j : ℕ) → a ≤ j → j < a + n → f j ≡ x → ⊥) → times x (map f (from a n)) ≡ 0
  unfolding from times
  times_never a zero h = refl
  times_never a (suc n) h = times_next x (f a) (map f (from (suc a) n)) (h a (omega arith) (omega arith)) ∙ times_never (suc a) n (λ j k m. h j (omega arith) (omega arith))

  times_one : (a n i : ℕ) → a ≤ i → i < a + n → f i ≡ x → ((j : ℕ) → a ≤ j → j < a + n → f j ≡ x → j ≡ i) → times x (map f (from a n)) ≡ 1
  unfolding from
  times_one a zero i h m e u = absurd (omega arith)
  times_one a (suc n) i h m e u = go (ℕ_discrete a i) (λ ne. times_one (suc a) n i (omega (arith, ne)) (omega arith) e (λ j k m. u j (omega arith) (omega arith)))
    where
      go : Dec (a ≡ i) → ((a ≡ i → ⊥) → times x (map f (from (suc a) n)) ≡ 1) → times x (f a ∷ map f (from (suc a) n)) ≡ 1
      go (yes z) ih =
          rw (z, e, times_here)
          (ap suc (times_never (suc i) n (λ j k m q. let b = u j (omega arith) (omega arith) q in omega arith)))
      go (no z) ih = times_next x (f a) (map f (from (suc a) n)) (λ q. z (u a (omega arith) (omega arith) q)) ∙ ih z

  -- found once: where, and nowhere else
  abbrev Once : ℕ → ℕ → Type 0
  Once a n = (i : ℕ) × (a ≤ i) × (i < a + n) × (f i ≡ x) × ((j : ℕ) → a ≤ j → j < a + n → f j ≡ x → j ≡ i)

  times_some : (a n j : ℕ) → a ≤ j → j < a + n → f j ≡ x → 1 ≤ times x (map f (from a n))
  unfolding from
  times_some a zero j h m e = absurd (omega arith)
  times_some a (suc n) j h m e = go (ℕ_discrete (f a) x) (ℕ_discrete a j) (λ ne. times_some (suc a) n j (omega (arith, ne)) (omega arith) e)
    where
      go : Dec (f a ≡ x) → Dec (a ≡ j) → ((a ≡ j → ⊥) → 1 ≤ times x (map f (from (suc a) n))) → 1 ≤ times x (f a ∷ map f (from (suc a) n))
      go (yes q) d ih = rw q (omega (arith, times_here x (map f (from (suc a) n))))
      go (no q) (yes z) ih = absurd (q (ap f z ∙ e))
      go (no q) (no z) ih = omega (arith, times_next x (f a) (map f (from (suc a) n)) q, ih z)

  once : (a n : ℕ) → times x (map f (from a n)) ≡ 1 → Once a n
  unfolding from times
  once a zero h = absurd (omega arith)
  once a (suc n) h = go (ℕ_discrete (f a) x) (once (suc a) n)
    where
      go : Dec (f a ≡ x) → (times x (map f (from (suc a) n)) ≡ 1 → Once (suc a) n) → Once a (suc n)
      go (yes q) ih =
          let e : times x (f a ∷ map f (from (suc a) n)) ≡ suc (times x (map f (from (suc a) n))) = rw q (times_here x (map f (from (suc a) n))) in
          let z : times x (map f (from (suc a) n)) ≡ 0 = omega arith in
          (a, omega arith, omega arith, q, λ j k m e. only j k m e (ℕ_discrete j a) z)
        where
          only : (j : ℕ) → a ≤ j → j < a + suc n → f j ≡ x → Dec (j ≡ a) → times x (map f (from (suc a) n)) ≡ 0 → j ≡ a
          only j k m e (yes d) z = d
          only j k m e (no d) z = absurd (omega (arith, times_some (suc a) n j (omega (arith, d)) (omega arith) e))
      go (no q) ih =
          let r = ih (sym (times_next x (f a) (map f (from (suc a) n)) q) ∙ h) in
          (r.0, omega (arith, r.1), omega (arith, r.2), r.3, λ j k m e. r.4 j (above j k e (ℕ_discrete j a)) (omega arith) e)
        where
          above : (j : ℕ) → a ≤ j → f j ≡ x → Dec (j ≡ a) → suc a ≤ j
          above j k e (yes d) = absurd (q (ap f (sym d) ∙ e))
          above j k e (no d) = omega (arith, d)

-- the rows as numbers below 16
rows : (t : Slots) → Whole t → numbers_of 16 t.pages ≡ map (page_at t) (below 16)
unfolding page_at
rows t w =
    ext_get_or 0 (numbers_of 16 t.pages) (map (page_at t) (below 16)) (long ∙ sym (length-map (below 16) (page_at t) ∙ length_from 0 16))
    (λ i h. same i (omega (arith, long)))
  where
    all : take 16 t.pages ≡ t.pages
    all = take_all 16 t.pages (omega (arith, w.pages))

    long : length (numbers_of 16 t.pages) ≡ 16
    long = length-map (take 16 t.pages) (λ p. p.0) ∙ ap length all ∙ w.pages

    same : (i : ℕ) → i < 16 → get_or (numbers_of 16 t.pages) i 0 ≡ get_or (map (page_at t) (below 16)) i 0
    same i h =
        ap (λ (l : List Page). get_or (map (λ p. p.0) l) i 0) all
        ∙ get_or-map (λ (p : Page). p.0) t.pages i (to_page 0)
        ∙ sym (get_from (page_at t) 0 0 16 i h ∙ ap (page_at t) (omega arith))

module _ (S end : ℕ) (t : Slots) (w : Whole t) (few : S ≤ 16) (small : end ≤ no_page) where
  -- from the rules
  module _ (s : Sits S end t) where
    row_passes : (i : ℕ) → i < 16 → row_kept S t i ≡ true
    unfolding row_kept
    row_passes i h = go (vacant t i) refl (dec_lt i S)
      where
        go : (v : Bool) → vacant t i ≡ v → Dec (i < S) → if_then v (not (changed_at t i)) (ltb i S && eqb (times (page_at t i) (uses t)) 1) ≡ true
        go true q (yes k) = rw (slot_unchanged s i k q)
        go true q (no k) = rw (s.spare i (omega (arith, k)) h).1
        go false q (yes k) = rw (lt-ltb i S k, s.once i k q)
        go false q (no k) = absurd (not_both (vacant t i) (s.spare i (omega (arith, k)) h).0 q)

    use_passes : (p : ℕ) → Listed S end t p → use_kept end t.pages p ≡ true
    unfolding use_kept
    use_passes p l =
        let i = l.1.0 in
        let f = slot_found S t p i l.1.1 in
        let n : times p (numbers_of 16 t.pages) ≡ 1 = rw (rows t w) (times_one (page_at t) p 0 16 i (omega arith) (omega (arith, f.0)) f.1 (λ j k m e. other j (omega arith) e (dec_lt j S))) in
        rw (lt-ltb p end l.0, n)
      where
        other : (j : ℕ) → j < 16 → page_at t j ≡ p → Dec (j < S) → j ≡ l.1.0
        other j h e (yes k) = slot_alone s p l.1.0 (omega (arith, l.0)) l.1.1 j k e
        other j h e (no k) = absurd (omega (arith, l.0, e, vacant_page t j (s.spare j (omega (arith, k)) h).0))

  -- from the tests
  module _ (u : t.used ≤ 16) (r : (i : ℕ) → i < 16 → row_kept S t i ≡ true) (q : Every (λ p. use_kept end t.pages p ≡ true) (uses t)) where
    -- an empty row, and another
    row_empty : (i : ℕ) → i < 16 → vacant t i ≡ true → changed_at t i ≡ false
    unfolding row_kept
    row_empty i h v = not-true (changed_at t i) (rw v at (r i h))

    row_used : (i : ℕ) → i < 16 → vacant t i ≡ false → (i < S) × (times (page_at t i) (uses t) ≡ 1)
    unfolding row_kept
    row_used i h v =
        let b = both (ltb i S) (eqb (times (page_at t i) (uses t)) 1) (rw v at (r i h)) in
        (ltb-true i S b.0, eqb-true (times (page_at t i) (uses t)) 1 b.1)

    -- a page that is used
    use_listed : (p : ℕ) → use_kept end t.pages p ≡ true → (p < end) × Once (page_at t) p 0 16
    unfolding use_kept
    use_listed p h =
        let b = both (ltb p end) (eqb (times p (numbers_of 16 t.pages)) 1) h in
        (ltb-true p end b.0, once (page_at t) p 0 16 (rw (rows t w) at (eqb-true (times p (numbers_of 16 t.pages)) 1 b.1)))

    use_slot : (p : ℕ) → use_kept end t.pages p ≡ true → Listed S end t p
    use_slot p h =
        let l = use_listed p h in
        let i = l.1.0 in
        let k = row_used i (omega (arith, l.1.2)) (occupied t i (omega (arith, l.0, l.1.3))) in
        (l.0, (i, slot_only S t p i k.0 l.1.3 (λ j m e. l.1.4 j (omega arith) (omega arith) e)))

    -- a row that is used
    row_listed : (i : ℕ) → i < 16 → vacant t i ≡ false → use_kept end t.pages (page_at t i) ≡ true
    row_listed i h v = every_there (page_at t i) (uses t) q (omega (arith, (row_used i h v).1))

    row_found : (i : ℕ) → i < S → vacant t i ≡ false → slot_of S t (page_at t i) ≡ some i
    row_found i h v =
        let l = use_listed (page_at t i) (row_listed i (omega arith) v) in
        slot_only S t (page_at t i) i h refl
        (λ j m e. l.1.4 j (omega arith) (omega arith) e ∙ sym (l.1.4 i (omega arith) (omega arith) refl))

    row_spare : (i : ℕ) → S ≤ i → i < 16 → vacant t i ≡ true
    row_spare i k h = go (vacant t i) refl
      where
        go : (v : Bool) → vacant t i ≡ v → v ≡ true
        go true e = refl
        go false e = absurd (omega (arith, (row_used i h e).0))

    row_changed : (i : ℕ) → i < 16 → changed_at t i ≡ true → vacant t i ≡ false
    row_changed i h c = false_of (vacant t i) (λ v. not_both (changed_at t i) c (row_empty i h v))

    sits_counted : Sits S end t
    sits_counted =
        record {
          whole = w;
          few = few;
          used = u;
          low = λ i h v. (use_listed (page_at t i) (row_listed i (omega arith) v)).0;
          found = row_found;
          once = λ i h v. (row_used i (omega arith) v).1;
          listed = every_map use_slot (uses t) q;
          changed = λ i h c. row_changed i (omega arith) c;
          spare = λ i k h. (row_spare i k h, row_empty i h (row_spare i k h));
        }

  pub judged : (leb t.used 16 && all_of (row_kept S t) (below 16) && all_of (use_kept end t.pages) (uses t)) ≡ slot_rules S end t
  judged = same (leb t.used 16 && all_of (row_kept S t) (below 16) && all_of (use_kept end t.pages) (uses t)) (slot_rules S end t) there back
    where
      same : (a b : Bool) → (a ≡ true → b ≡ true) → (b ≡ true → a ≡ true) → a ≡ b
      same true b f g = sym (f refl)
      same false true f g = g refl
      same false false f g = refl

      there : (leb t.used 16 && all_of (row_kept S t) (below 16) && all_of (use_kept end t.pages) (uses t)) ≡ true → slot_rules S end t ≡ true
      there h =
          let a = both (leb t.used 16 && all_of (row_kept S t) (below 16)) (all_of (use_kept end t.pages) (uses t)) h in
          let b = both (leb t.used 16) (all_of (row_kept S t) (below 16)) a.0 in
          sits_back
          (sits_counted (leb-true t.used 16 b.0)
          (λ i k. all_from_lem (row_kept S t) 0 16 i (omega arith) (omega arith) b.1)
          (all_of_every (use_kept end t.pages) (uses t) a.1))

      back : slot_rules S end t ≡ true → (leb t.used 16 && all_of (row_kept S t) (below 16) && all_of (use_kept end t.pages) (uses t)) ≡ true
      back h =
          let s = sits S end t w few h in
          rw (le-leb t.used 16 s.used, all_below (row_kept S t) 0 16 (λ i _ k. row_passes s i (omega arith)))
          (every_all_of (use_kept end t.pages) (use_passes s) (uses t) s.listed)
