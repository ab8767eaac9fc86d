-- Entries read row by row: what stands in row i, what a scan sees there and has seen after it, and that the ledger's entries
-- are a table of index entries. Assumes nothing.
use Rattle.std.specs.Prelude.{ℕ, ◌+◌, ◌*◌, ◌<◌, ◌≤◌, ◌≡◌, take, drop, get_or}
use Rattle.std.proofs.Math.Path.{refl}
use Rattle.std.proofs.Common.{◌∙◌, sym, ap, add-one, drop_of_length-le, drop-cons, take-suc, take_all}
use mathlib.Core.List.{List, [], ◌∷◌, ◌++◌, map}
use Rattle.std.proofs.Math.Option.{some, none}
use native.Mathlib.Omega.{arith}
use Rattle.std.proofs.Math.ListN.{get_elem?, get_or-map}
use Rattle.lists.specs.laws.Maps.{some_get, none_get, every_get}
use Rattle.lists.specs.Scans.{Every}
use Rattle.octets.specs.Rows.{row, rows}
use Rattle.octets.specs.laws.Rows.{rows_at}
use Rattle.units.specs.Sizes.{entry_row}
use Rattle.sidefile.specs.Encode.{index_entry_of}
use Rattle.sidefile.specs.inner.Table.{column, entries_at, entries_seen}
use Rattle.ledger.specs.declared.Entry.{Entry}
use Rattle.ledger.specs.View.{indexed, entry_of, entries_in}
use Rattle.ledger.specs.laws.Rowed.{length_entries_in}

-- the columns of a row are its entry
module _ (r : List ℕ) where
  pub page_column : column 0 r ≡ (entry_of r).page.0
  unfolding entry_of column
  page_column = refl

  pub place_column : column 1 r ≡ (entry_of r).place.0
  unfolding entry_of column
  place_column = refl

-- the entry of an empty row, for an index out of range
abbrev pub blank : Entry
blank = entry_of []

module _ (n : ℕ) (xs : List ℕ) (i : ℕ) (h : i < n) where
  pub entry_get : get_or (entries_in n xs) i blank ≡ entry_of (row 0 entry_row i xs)
  unfolding entries_in row
  entry_get = let e : 0 + i * entry_row ≡ i * entry_row = omega arith in get_or-map entry_of (rows entry_row n xs) i [] ∙ rw (rows_at entry_row i n xs h, e)

  pub entry_some : get_elem? (entries_in n xs) i ≡ some (entry_of (row 0 entry_row i xs))
  entry_some = some_get blank i (entries_in n xs) (rw (length_entries_in n xs) h) ∙ ap some entry_get

  -- what a scan sees at row i, and has seen after it
  pub entry_next : drop i (entries_in n xs) ≡ entry_of (row 0 entry_row i xs) ∷ drop (i + 1) (entries_in n xs)
  entry_next = rw (add-one i, ← entry_get) (drop-cons (entries_in n xs) i blank (rw (length_entries_in n xs) h))

  pub entry_last : take (i + 1) (entries_in n xs) ≡ take i (entries_in n xs) ++ (entry_of (row 0 entry_row i xs) ∷ [])
  entry_last = rw (add-one i, ← entry_get) (take-suc (entries_in n xs) i blank (rw (length_entries_in n xs) h))

  -- what holds of every entry holds of that in row i
  pub every_row : {P : Entry → Type 0} → Every P (entries_in n xs) → P (entry_of (row 0 entry_row i xs))
  every_row e = rw (← entry_get) (every_get blank i (entries_in n xs) (rw (length_entries_in n xs) h) e)

-- and at the end
module _ (n : ℕ) (xs : List ℕ) (i : ℕ) (h : n ≤ i) where
  pub entry_none : get_elem? (entries_in n xs) i ≡ none
  entry_none = none_get i (entries_in n xs) (rw (length_entries_in n xs) h)

  pub entries_end : drop i (entries_in n xs) ≡ []
  entries_end = drop_of_length-le (entries_in n xs) {i = i} (omega (arith, length_entries_in n xs))

  pub entries_whole : take i (entries_in n xs) ≡ entries_in n xs
  entries_whole = take_all i (entries_in n xs) (omega (arith, length_entries_in n xs))

-- a table of index entries
pub entries_indexed : (n : ℕ) (xs : List ℕ) → entries_at 0 entry_row n xs ≡ map indexed (entries_in n xs)
unfolding entries_in index_entry_of entry_of
entries_indexed n xs = sym (entries_seen 0 entry_row n xs indexed entry_of (λ r. refl))
