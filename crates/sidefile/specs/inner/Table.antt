-- Tables of entries in bytes: rows of equal width whose first four columns are those of an index entry. The index of a side
-- file is one, from byte 36 on, and so are the ledger's entries, whose rows are wider. What the judge asks of pages, places
-- and last changes, and where an entry stands; laws for scans, row by row. Assumes nothing.
use Prim.Native.Nat.{ℕ, suc, ◌+◌, ◌*◌, ◌<◌, ◌≤◌}
use Rattle.std.proofs.Math.Path.{◌≡◌, refl}
use Rattle.std.proofs.Common.{◌∙◌, sym, ap, drop_of_length-le}
use Rattle.std.specs.Prelude.{Bool, cond, ◌&&◌, eqb, ltb, leb, take, Some, None}
use Rattle.std.specs.List as Lists
use Rattle.std.proofs.Math.Bool.{true, false}
use mathlib.Core.List.{List, [], ◌∷◌, map}
use Rattle.std.proofs.Math.Option.{some, none}
use Rattle.std.proofs.lemmas.Bool.{ltb-true, ltb-false}
use Rattle.std.proofs.lemmas.List.Recursion.{is_position_or_len}
use native.Mathlib.Omega.{arith}
use native.Mathlib.Numerals.{one-add}
use Rattle.std.proofs.Math.ListN.{length, drop, length-map}
use Rattle.std.proofs.Math.Seq.{drop-drop}
use Rattle.lists.specs.Bools.{if_then}
use Rattle.lists.specs.laws.Maps.{map_drop}
use Rattle.lists.specs.Scans.{all_of, first}
use Rattle.octets.specs.Number.{le, le32}
use Rattle.octets.specs.laws.Number.{le_take}
use Rattle.octets.specs.Part.{part}
use Rattle.octets.specs.laws.Part.{part_part}
use Rattle.octets.specs.Rows.{row, rows}
use Rattle.octets.specs.laws.Rows.{length_rows, row_next}
use Rattle.units.specs.Sizes.{header_length, index_row}
use Rattle.units.specs.declared.Tick.{Tick}
use Rattle.sidefile.specs.declared.IndexEntry.{IndexEntry}
use Rattle.sidefile.specs.Encode.{header_of, index_entry_of, index_of}
use Rattle.sidefile.specs.Judge.{ascending, apart}

-- column c of a row, 32 bits each
unfoldable pub column : ℕ → List ℕ → ℕ
column c r = le32 r (4 * c)

-- the entries in the first n rows, of w bytes, of a table that begins at `at`
unfoldable pub entries_at : ℕ → ℕ → ℕ → List ℕ → List IndexEntry
entries_at at w n xs = map index_entry_of (rows w n (drop at xs))

-- pages ascend and are below end; places are below most and apart; last changes are not after a tick
unfoldable pub pages_fit : ℕ → List IndexEntry → Bool
pages_fit end xs = ascending 0 xs && all_of (λ x. ltb x.page.0 end) xs

unfoldable pub places_fit : ℕ → List IndexEntry → Bool
places_fit most xs = all_of (λ x. ltb x.place.0 most) xs && apart xs

unfoldable pub changes_fit : Tick → List IndexEntry → Bool
changes_fit t xs = all_of (λ x. leb x.changed.0 t.0) xs

-- an entry of page p
abbrev pub of_page : ℕ → IndexEntry → Bool
of_page p x = eqb x.page.0 p

-- where the first element that passes stands; how many there are, if none does
unfoldable pub position : {A : Type 0} → (A → Bool) → List A → ℕ
position t [] = 0
position t (x ∷ xs) = if_then (t x) 0 (suc (position t xs))

-- the columns of an entry
module _ (r : List ℕ) where
  pub page_column : (index_entry_of r).page.0 ≡ column 0 r
  unfolding index_entry_of column
  page_column = refl

  pub place_column : (index_entry_of r).place.0 ≡ column 1 r
  unfolding index_entry_of column
  place_column = refl

  pub changed_column : (index_entry_of r).changed.0 ≡ column 2 r
  unfolding index_entry_of column
  changed_column = refl

  pub sum_column : (index_entry_of r).sum ≡ column 3 r
  unfolding index_entry_of column
  sum_column = refl

-- a column in the bytes of the table
pub column_at : (at w i c : ℕ) (xs : List ℕ) → 4 * c + 4 ≤ w → column c (row at w i xs) ≡ le32 xs (at + i * w + 4 * c)
unfolding column row part
column_at at w i c xs h =
    sym (le_take 4 4 (drop (4 * c) (part xs (at + i * w) w)) (omega arith))
    ∙ ap (le 4) (four (part xs (at + i * w) w) (4 * c) ∙ part_part xs (at + i * w) w (4 * c) 4 h ∙ sym (four xs (at + i * w + 4 * c)))
    ∙ le_take 4 4 (drop (at + i * w + 4 * c) xs) (omega arith)
  where
    four : (ys : List ℕ) (a : ℕ) → take 4 (drop a ys) ≡ part ys a 4
    four ys a = refl

-- the index of a side file
pub index_entries : (xs : List ℕ) → index_of xs ≡ entries_at header_length index_row (header_of xs).entries xs
unfolding index_of entries_at
index_entries xs = refl

module _ (at w n : ℕ) (xs : List ℕ) where
  pub length_entries_at : length (entries_at at w n xs) ≡ n
  unfolding entries_at
  length_entries_at = length-map (rows w n (drop at xs)) index_entry_of ∙ length_rows w n (drop at xs)

  -- the entries as others have them, whose rows say the same and more
  pub entries_seen : {A : Type 0} (seen : A → IndexEntry) (of : List ℕ → A) → ((r : List ℕ) → seen (of r) ≡ index_entry_of r)
      → map seen (map of (rows w n (drop at xs))) ≡ entries_at at w n xs
  unfolding entries_at
  entries_seen {A} seen of e = go (rows w n (drop at xs))
    where
      go : (rs : List (List ℕ)) → map seen (map of rs) ≡ map index_entry_of rs
      go [] = refl
      go (r ∷ rs) = rw (e r, go rs)

  -- what a scan sees at row i, and at the end
  pub entry_next : (i : ℕ) → i < n
      → drop i (entries_at at w n xs) ≡ index_entry_of (row at w i xs) ∷ drop (i + 1) (entries_at at w n xs)
  unfolding entries_at row part
  entry_next i h =
      rw (
        map_drop index_entry_of i (rows w n (drop at xs)),
        row_next w i n (drop at xs) h,
        drop-drop (i * w) at xs,
        map_drop index_entry_of (i + 1) (rows w n (drop at xs)),
      )

  pub entries_end : (i : ℕ) → n ≤ i → drop i (entries_at at w n xs) ≡ []
  entries_end i h = drop_of_length-le (entries_at at w n xs) {i = i} (omega (arith, length_entries_at))

-- tests and positions in a list seen through f
module _ {A B : Type 0} (f : A → B) (t : B → Bool) where
  pub all_seen : (l : List A) → all_of t (map f l) ≡ all_of (λ x. t (f x)) l
  unfolding all_of
  all_seen [] = refl
  all_seen (x ∷ l) = rw (all_seen l)

  pub position_seen : (l : List A) → position t (map f l) ≡ position (λ x. t (f x)) l
  unfolding position
  position_seen [] = refl
  position_seen (x ∷ l) = rw (position_seen l)

-- a position is that of the first element that passes
module _ {A : Type 0} (t : A → Bool) where
  -- the library's `position` has this one as an index, or none
  indexed : (l : List A) → cond (ltb (position t l) (length l)) (Some (position t l)) None ≡ Lists.position t l
  unfolding position
  indexed l = rw (is_position_or_len (position t) t empty next l)
    where
      empty : position t [] ≡ 0
      empty = refl

      next : (x : A) (xs : List A) → position t (x ∷ xs) ≡ cond (t x) 0 (1 + position t xs)
      next x xs = go (t x)
        where
          go : (b : Bool) → if_then b 0 (suc (position t xs)) ≡ cond b 0 (1 + position t xs)
          go true = refl
          go false = sym (one-add (position t xs))

  pub position_most : (l : List A) → position t l ≤ length l
  unfolding position
  position_most [] = omega arith
  position_most (x ∷ l) = go (t x) (position_most l)
    where
      go : (b : Bool) → position t l ≤ length l → if_then b 0 (suc (position t l)) ≤ suc (length l)
      go true h = omega arith
      go false h = omega arith

  pub position_at : (l : List A) (i : ℕ) → Lists.position t l ≡ Some i → (i ≡ position t l) × (i < length l)
  position_at l i e = go (ltb (position t l) (length l)) refl (indexed l ∙ e)
    where
      go : (b : Bool) → ltb (position t l) (length l) ≡ b → cond b (Some (position t l)) None ≡ Some i → (i ≡ position t l) × (i < length l)
      go true h k = let e : i ≡ position t l = cc in (e, omega (arith, ltb-true (position t l) (length l) h))
      go false h k = absurd (cc)

  pub position_past : (l : List A) → Lists.position t l ≡ None → length l ≤ position t l
  position_past l e = go (ltb (position t l) (length l)) refl (indexed l ∙ e)
    where
      go : (b : Bool) → ltb (position t l) (length l) ≡ b → cond b (Some (position t l)) None ≡ None → length l ≤ position t l
      go true h k = absurd (cc)
      go false h k = ltb-false (position t l) (length l) h

  pub position_some : (l : List A) (x : A) (xs : List A) → drop (position t l) l ≡ x ∷ xs → first t l ≡ some x
  unfolding position first
  position_some [] x xs e = let z : ◌≡◌ {A = ℕ} 0 1 = cc in absurd (omega arith)
  position_some (y ∷ l) x xs e = go (t y) e (position_some l x xs)
    where
      go : (b : Bool) → drop (if_then b 0 (suc (position t l))) (y ∷ l) ≡ x ∷ xs → (drop (position t l) l ≡ x ∷ xs → first t l ≡ some x)
          → if_then b (some y) (first t l) ≡ some x
      go true e ih = cc
      go false e ih = ih e

  pub position_none : (l : List A) → length l ≤ position t l → first t l ≡ none
  unfolding position first
  position_none [] h = refl
  position_none (y ∷ l) h = go (t y) h (position_none l)
    where
      go : (b : Bool) → suc (length l) ≤ if_then b 0 (suc (position t l)) → (length l ≤ position t l → first t l ≡ none)
          → if_then b (some y) (first t l) ≡ none
      go true h ih = absurd (omega arith)
      go false h ih = ih (omega arith)

-- the entry of page p stands in row i, or there is none
module _ (at w n : ℕ) (xs : List ℕ) (p i : ℕ) (found : i ≡ position (of_page p) (entries_at at w n xs)) where
  pub entry_found : i < n → first (of_page p) (entries_at at w n xs) ≡ some (index_entry_of (row at w i xs))
  entry_found h =
      position_some (of_page p) (entries_at at w n xs) (index_entry_of (row at w i xs)) (drop (i + 1) (entries_at at w n xs))
      (rw (← found) (entry_next at w n xs i h))

  pub entry_missing : n ≤ i → first (of_page p) (entries_at at w n xs) ≡ none
  entry_missing h = position_none (of_page p) (entries_at at w n xs) (omega (arith, length_entries_at at w n xs))

-- the same by the library's `position`
module _ (at w n : ℕ) (xs : List ℕ) (p : ℕ) where
  pub found_row : (i : ℕ) → Lists.position (of_page p) (entries_at at w n xs) ≡ Some i
      → (i < n) × (first (of_page p) (entries_at at w n xs) ≡ some (index_entry_of (row at w i xs)))
  found_row i e =
      let found = position_at (of_page p) (entries_at at w n xs) i e in
      let h : i < n = omega (arith, found.1, length_entries_at at w n xs) in (
        h,
        position_some (of_page p) (entries_at at w n xs) (index_entry_of (row at w i xs)) (drop (i + 1) (entries_at at w n xs))
            (rw (← found.0) (entry_next at w n xs i h)),
      )

  pub found_none : Lists.position (of_page p) (entries_at at w n xs) ≡ None → first (of_page p) (entries_at at w n xs) ≡ none
  found_none e = position_none (of_page p) (entries_at at w n xs) (position_past (of_page p) (entries_at at w n xs) e)
