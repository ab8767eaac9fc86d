-- The entries of a table that code holds: rows in lent bytes. Assumes nothing.
use Rattle.std.specs.Prelude.{ℕ, ◌≡◌, List}
use Rattle.units.specs.Sizes.{header_length, index_row}
use Rattle.sidefile.specs.declared.IndexEntry.{IndexEntry}
use Rattle.sidefile.specs.declared.table.Table.{Table}
use Rattle.sidefile.specs.inner.Table.{entries_at}

abbrev pub entries_in : Table → List IndexEntry
entries_in t = entries_at t.at t.width t.rows t.bytes.now

-- the first n entries of an index in these bytes
pub record IndexAt (xs : List ℕ) (n : ℕ) (t : Table) : Type 0 where
  pub bytes : t.bytes.now ≡ xs
  pub at : t.at ≡ header_length
  pub width : t.width ≡ index_row
  pub rows : t.rows ≡ n

pub entries_of_index : (xs : List ℕ) (n : ℕ) (t : Table) → IndexAt xs n t → entries_in t ≡ entries_at header_length index_row n xs
entries_of_index xs n t i = rw (i.bytes, i.at, i.width, i.rows)
