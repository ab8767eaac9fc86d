-- How long the parts of a side file are: rows, index, header, and both together, which end where the index does. And that
-- the settings as a side file names them give the same numbers as those that it was written with. Assumes nothing.
use Rattle.std.specs.Prelude.{ℕ, ◌*◌, ◌≤◌, ◌≡◌, true, List, [], ◌∷◌, ◌++◌, map, length}
use Rattle.std.proofs.Math.Path.{refl}
use Rattle.std.proofs.Common.{arith, length-append}
use Rattle.std.proofs.lemmas.List.{length-replicate, length-map}
use Rattle.octets.specs.Number.{bytes}
use Rattle.octets.specs.Rows.{Even}
use Rattle.octets.specs.laws.Rows.{length_join}
use Rattle.units.specs.laws.Bounds.{limits_within, within_limits}
use Rattle.units.specs.Sizes.{header_length, index_row, limits, wait, entries, places, index_end, first_image, side_length}
use Rattle.units.specs.declared.Settings.{Settings}
use Rattle.units.specs.declared.Tick.{Tick}
use Rattle.sidefile.specs.declared.Header.{Header}
use Rattle.sidefile.specs.declared.IndexEntry.{IndexEntry}
use Rattle.sidefile.specs.Encode.{named, header_front, header_bytes, index_row_of, index_rows, index_bytes, header_for}

-- the index
pub length_index_row_of : (x : IndexEntry) → length (index_row_of x) ≡ index_row
unfolding index_row_of bytes
length_index_row_of x = refl

pub even_index : (xs : List IndexEntry) → Even index_row (map index_row_of xs)
unfolding Even
even_index [] = tt
even_index (x ∷ xs) = (length_index_row_of x, even_index xs)

pub length_index_rows : (xs : List IndexEntry) → length (index_rows xs) ≡ index_row * length xs
unfolding index_rows
length_index_rows xs =
    omega (arith, length_join index_row (map index_row_of xs) (even_index xs), length-map xs index_row_of)

pub length_index_bytes : (s : Settings) (xs : List IndexEntry) → length xs ≤ entries s
    → length (index_bytes s xs) ≡ index_row * entries s
unfolding index_bytes
length_index_bytes s xs h = simp (length-append, length-replicate, length_index_rows) (omega arith)

-- the header
pub length_header_front : (h : Header) (n : ℕ) → length (header_front h n) ≡ 32
unfolding header_front bytes
length_header_front h n = refl

pub length_header_bytes : (h : Header) (n : ℕ) → length (header_bytes h n) ≡ header_length
unfolding header_bytes header_front bytes
length_header_bytes h n = refl

module _ (s : Settings) (closed : Tick) (end : ℕ) (xs : List IndexEntry) where
  pub length_header_for : length (header_for s closed end xs) ≡ header_length
  unfolding header_for
  length_header_for = length_header_bytes _ _

  -- header and index
  pub length_encoded : length xs ≤ entries s → length (header_for s closed end xs ++ index_bytes s xs) ≡ index_end s
  unfolding index_end
  length_encoded h = rw (length-append, length_header_for, length_index_bytes s xs h)

-- the settings as a side file names them
module _ (s : Settings) where
  pub limits_named : limits s ≡ true → limits (named s) ≡ true
  limits_named h = let w = limits_within s h in within_limits (named s) (search arith)

  pub entries_named : entries (named s) ≡ entries s
  unfolding entries wait
  entries_named = refl

  pub places_named : places (named s) ≡ places s
  unfolding places wait
  places_named = refl

  pub index_end_named : index_end (named s) ≡ index_end s
  unfolding index_end entries wait
  index_end_named = refl

  pub side_length_named : side_length (named s) ≡ side_length s
  unfolding side_length first_image index_end entries places wait
  side_length_named = refl
