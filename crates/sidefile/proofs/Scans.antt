-- What one turn of a scan over the rows of a table does to its definition. Assumes nothing.
use Prim.Native.Nat.{ℕ, zero, suc, ◌+◌, ◌<◌, ◌≤◌}
use mathlib.Core.Path.{◌≡◌, refl, ◌∙◌, sym}
use mathlib.Core.Bool.{Bool, true, false, not, ◌&&◌, ◌||◌}
use mathlib.Core.List.{List, [], ◌∷◌}
use native.Mathlib.Omega.{arith}
use lib.Dec.{eqb, ltb, leb, eqb-suc-zero, eqb-zero-suc}
use lib.ListN.{length, drop, set, get_or, replicate, length-set, length-replicate}
use lib.Seq.{get_or-set_same, get_or-set_other}
use borrow.Author.Tests.{lt-ltb, le-ltb, le-leb, lt-leb, eqb-true, eqb-false, ltb-true}
use Rattle.lists.specs.laws.Bools.{both, and_right, and_yes, and_assoc}
use Rattle.std.specs.List.{fold}
use Rattle.lists.specs.Scans.{any_of, all_of}
use Rattle.octets.specs.Rows.{row}
use Rattle.octets.specs.inner.Flags.{flags}
use Rattle.octets.specs.laws.Flagging.{flags_clear}
use Rattle.units.specs.declared.Tick.{Tick}
use Rattle.sidefile.specs.declared.IndexEntry.{IndexEntry}
use Rattle.sidefile.specs.Encode.{index_entry_of}
use Rattle.sidefile.specs.Judge.{ascending, apart}
use Rattle.sidefile.specs.inner.Table.{column, entries_at, places_fit, changes_fit, entry_next, entries_end}

abbrev place : IndexEntry → ℕ
place x = x.place.0

-- the rule of pages, from low on
unfoldable pub rising : ℕ → ℕ → List IndexEntry → Bool
rising end low xs = ascending low xs && all_of (λ x. ltb x.page.0 end) xs

-- the rule of places, by a table of those that were met
abbrev free : ℕ → List Bool → ℕ → Bool
free most met k = ltb k most && not (get_or met k false)

unfoldable pub fresh : ℕ → List Bool → List IndexEntry → Bool
fresh most met [] = true
fresh most met (x ∷ xs) = free most met (place x) && fresh most (set met (place x) true) xs

-- a place more is one that no other may have
free_same : (most k : ℕ) (met : List Bool) → k < length met → free most (set met k true) k ≡ false
free_same most k met h = rw (get_or-set_same met k true false h) (and_right (ltb k most) false refl)

free_other : (most k j : ℕ) (met : List Bool) → (j ≡ k → ⊥) → free most (set met k true) j ≡ free most met j
free_other most k j met ne = rw (get_or-set_other met k j true false ne)

all_marked : (most k : ℕ) (met : List Bool) → k < length met → (ys : List IndexEntry)
    → all_of (λ y. free most (set met k true) (place y)) ys
    ≡ (not (any_of (λ y. eqb (place y) k) ys) && all_of (λ y. free most met (place y)) ys)
unfolding all_of any_of
all_marked most k met h [] = refl
all_marked most k met h (y ∷ ys) = go (eqb (place y) k) refl (all_marked most k met h ys)
  where
    swap : (a n r : Bool) → (a && (n && r)) ≡ (n && (a && r))
    swap true n r = refl
    swap false true r = refl
    swap false false r = refl

    go : (b : Bool) → eqb (place y) k ≡ b
        → all_of (λ y. free most (set met k true) (place y)) ys
        ≡ (not (any_of (λ y. eqb (place y) k) ys) && all_of (λ y. free most met (place y)) ys)
        → (free most (set met k true) (place y) && all_of (λ y. free most (set met k true) (place y)) ys)
        ≡ (not (b || any_of (λ y. eqb (place y) k) ys) && (free most met (place y) && all_of (λ y. free most met (place y)) ys))
    go true e ih = rw (eqb-true (place y) k e, free_same most k met h)
    go false e ih =
        rw (free_other most k (place y) met (eqb-false (place y) k e), ih)
        (swap (free most met (place y)) (not (any_of (λ y. eqb (place y) k) ys)) (all_of (λ y. free most met (place y)) ys))

fresh_is : (most : ℕ) (met : List Bool) (xs : List IndexEntry) → most ≤ length met
    → fresh most met xs ≡ (all_of (λ x. free most met (place x)) xs && apart xs)
unfolding fresh all_of apart
fresh_is most met [] h = refl
fresh_is most met (x ∷ xs) h =
    go (free most met (place x)) refl (fresh_is most (set met (place x) true) xs (rw (length-set met (place x) true) h))
  where
    swap : (a n d : Bool) → ((n && a) && d) ≡ (a && (n && d))
    swap true true d = refl
    swap true false d = refl
    swap false true d = refl
    swap false false d = refl

    go : (b : Bool) → free most met (place x) ≡ b
        → fresh most (set met (place x) true) xs ≡ (all_of (λ y. free most (set met (place x) true) (place y)) xs && apart xs)
        → (b && fresh most (set met (place x) true) xs)
        ≡ ((b && all_of (λ y. free most met (place y)) xs) && (not (any_of (λ y. eqb (place y) (place x)) xs) && apart xs))
    go true e ih =
        let k : place x < most = ltb-true (place x) most (both (ltb (place x) most) (not (get_or met (place x) false)) e).0 in
        ih
        ∙ rw (all_marked most (place x) met (omega arith) xs)
        (swap (all_of (λ y. free most met (place y)) xs) (not (any_of (λ y. eqb (place y) (place x)) xs)) (apart xs))
    go false e ih = refl

-- none was met
unmet : (n k : ℕ) → get_or (replicate n false) k false ≡ false
unmet zero k = refl
unmet (suc n) zero = refl
unmet (suc n) (suc k) = unmet n k

all_unmet : (most n : ℕ) (xs : List IndexEntry)
    → all_of (λ x. free most (replicate n false) (place x)) xs ≡ all_of (λ x. ltb (place x) most) xs
unfolding all_of
all_unmet most n [] = refl
all_unmet most n (x ∷ xs) = rw (unmet n (place x), all_unmet most n xs, and_yes (ltb (place x) most))

pub fresh_first : (most : ℕ) (xs : List IndexEntry) → most ≤ 272 → places_fit most xs ≡ fresh most (flags (replicate 34 0)) xs
unfolding places_fit
fresh_first most xs h =
    rw (flags_clear 34)
    (sym (fresh_is most (replicate 272 false) xs (rw (length-replicate 272 false) h) ∙ rw (all_unmet most 272 xs)))

-- nothing is left
module _ (at w n : ℕ) (xs : List ℕ) (i : ℕ) (h : n ≤ i) where
  pub rising_end : (end low : ℕ) → rising end low (drop i (entries_at at w n xs)) ≡ true
  unfolding rising ascending all_of
  rising_end end low = rw (entries_end at w n xs i h)

  pub fresh_end : (most : ℕ) (met : List Bool) → fresh most met (drop i (entries_at at w n xs)) ≡ true
  unfolding fresh
  fresh_end most met = rw (entries_end at w n xs i h)

module _ (at w n : ℕ) (xs : List ℕ) (i : ℕ) (h : n ≤ i) where
  pub changed_end : (t : Tick) → changes_fit t (drop i (entries_at at w n xs)) ≡ true
  unfolding changes_fit all_of
  changed_end t = rw (entries_end at w n xs i h)

-- at row i
module _ (at w n : ℕ) (xs : List ℕ) (i : ℕ) (h : i < n) where
  abbrev x : IndexEntry
  x = index_entry_of (row at w i xs)

  abbrev now : List IndexEntry
  now = drop i (entries_at at w n xs)

  abbrev next : List IndexEntry
  next = drop (i + 1) (entries_at at w n xs)

  module _ (end low : ℕ) where
    abbrev p : ℕ
    p = column 0 (row at w i xs)

    -- the page that stands here fits, and so do those behind it
    rising_row : rising end low now ≡ ((leb low p && ltb p end) && rising end (p + 1) next)
    unfolding rising ascending all_of index_entry_of column
    rising_row = rw (entry_next at w n xs i h) (go (leb low p) (ascending (p + 1) next) (ltb p end) (all_of (λ y. ltb y.page.0 end) next))
      where
        go : (a b c d : Bool) → ((a && b) && (c && d)) ≡ ((a && c) && (b && d))
        go true true c d = refl
        go true false true d = refl
        go true false false d = refl
        go false b c d = refl

    pub rising_stops : (leb low p && ltb p end) ≡ false → rising end low now ≡ false
    rising_stops k = rising_row ∙ rw k

    pub rising_next : (leb low p && ltb p end) ≡ true → rising end low now ≡ rising end (p + 1) next
    rising_next k = rising_row ∙ rw k

  module _ (most : ℕ) (met : List Bool) where
    pub fresh_far : most ≤ column 1 (row at w i xs) → fresh most met now ≡ false
    unfolding fresh index_entry_of column
    fresh_far k = rw (entry_next at w n xs i h, le-ltb (place x) most k)

    pub fresh_met : get_or met (column 1 (row at w i xs)) false ≡ true → fresh most met now ≡ false
    unfolding fresh index_entry_of column
    fresh_met k = rw (entry_next at w n xs i h, k) (and_no (ltb (place x) most))
      where
        and_no : (b : Bool) → ((b && false) && fresh most (set met (place x) true) next) ≡ false
        and_no true = refl
        and_no false = refl

    pub fresh_next : column 1 (row at w i xs) < most → get_or met (column 1 (row at w i xs)) false ≡ false
        → fresh most met now ≡ fresh most (set met (column 1 (row at w i xs)) true) next
    unfolding fresh index_entry_of column
    fresh_next k l = rw (entry_next at w n xs i h, lt-ltb (place x) most k, l)

module _ (at w n : ℕ) (xs : List ℕ) (i : ℕ) (h : i < n) (t : Tick) where
  pub changed_late : t.0 < column 2 (row at w i xs) → changes_fit t (drop i (entries_at at w n xs)) ≡ false
  unfolding changes_fit all_of index_entry_of column
  changed_late k = rw (entry_next at w n xs i h, lt-leb (index_entry_of (row at w i xs)).changed.0 t.0 k)

  pub changed_next : column 2 (row at w i xs) ≤ t.0 → changes_fit t (drop i (entries_at at w n xs)) ≡ changes_fit t (drop (i + 1) (entries_at at w n xs))
  unfolding changes_fit all_of index_entry_of column
  changed_next k = rw (entry_next at w n xs i h, le-leb (index_entry_of (row at w i xs)).changed.0 t.0 k)

-- bytes that are all zero, tested from the first to the last
turned : (x : ℕ) → eqb x 0 ≡ eqb 0 x
turned zero = refl
turned (suc k) = eqb-suc-zero k ∙ sym (eqb-zero-suc k)

zero_behind : (b : Bool) (xs : List ℕ) → fold (λ clear y. clear && eqb y 0) b xs ≡ (b && all_of (eqb 0) xs)
unfolding all_of
zero_behind b [] = sym (and_yes b)
zero_behind b (y ∷ xs) = rw (zero_behind (b && eqb y 0) xs, turned y) (sym (and_assoc b (eqb 0 y) (all_of (eqb 0) xs)))

pub all_zero : (xs : List ℕ) → fold (λ clear y. clear && eqb y 0) true xs ≡ all_of (eqb 0) xs
all_zero xs = zero_behind true xs
