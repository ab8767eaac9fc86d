-- The index written row by row: what one turn of `write_index` does. Assumes nothing.
use Prim.Native.Nat.{ℕ, ◌+◌, ◌-◌, ◌*◌, ◌<◌, ◌≤◌}
use mathlib.Core.Path.{◌≡◌, ◌∙◌, sym, ap}
use mathlib.Core.List.{List, [], ◌∷◌, ◌++◌, map, append-nil}
use native.Mathlib.Omega.{arith}
use lib.ListN.{length, take, drop, replicate, length-map}
use lib.Seq.{take-take, take_at, length-take-le}
use Rattle.lists.specs.laws.Maps.{map_append}
use Rattle.octets.specs.Number.{Octets, bytes32}
use Rattle.octets.specs.Part.{part, lay}
use Rattle.octets.specs.laws.Part.{lay_nil, lay_next, length_part}
use Rattle.octets.specs.Rows.{row, join}
use Rattle.octets.specs.laws.Rows.{join_append}
use Rattle.units.specs.Sizes.{header_length, index_row, entry_row, entries, index_end}
use Rattle.units.specs.declared.Settings.{Settings}
use Rattle.sidefile.specs.Encode.{index_row_of, index_rows, index_bytes}
use Rattle.sidefile.specs.laws.Lengths.{length_index_row_of, length_index_rows}
use Rattle.ledger.specs.declared.Entry.{Entry}
use Rattle.ledger.specs.View.{indexed, entry_of, entry_row_of, entries_in}
use Rattle.ledger.specs.laws.Rowed.{row_written, octets_take, octets_drop, length_entries_in}
use Rattle.ledger.specs.laws.Read.{entry_last, entries_whole}

module _ (xs : List ℕ) (n : ℕ) (side : List ℕ) where
  -- the side file with the index of the first i entries
  unfoldable pub index_up_to : ℕ → List ℕ
  index_up_to i = lay side header_length (index_rows (map indexed (take i (entries_in n xs))))

  pub index_none : side ≡ index_up_to 0
  unfolding index_up_to index_rows join
  index_none = sym (lay_nil side header_length)

  module _ (o : Octets xs) (i at : ℕ) (h : i < n) (fits : i * entry_row + entry_row ≤ length xs) (a : at ≡ header_length + i * index_row) where
    abbrev e : Entry
    e = entry_of (row 0 entry_row i xs)

    -- the first bytes of a row are an entry of the index
    index_row_lem : part xs (i * entry_row) index_row ≡ index_row_of (indexed e)
    unfolding row part entry_row_of
    index_row_lem =
        let r : List ℕ = row 0 entry_row i xs in
        let z : 0 + i * entry_row ≡ i * entry_row = omega arith in
        let w : entry_row_of (entry_of r) ≡ r = row_written r (length_part xs (0 + i * entry_row) entry_row (omega arith)) (octets_take entry_row (drop (0 + i * entry_row) xs) (octets_drop (0 + i * entry_row) xs o)) in
        sym (sym (take_at (index_row_of (indexed e)) (bytes32 e.entered.0) index_row (length_index_row_of (indexed e)))
        ∙ ap (take index_row) w
        ∙ take-take index_row entry_row (drop (0 + i * entry_row) xs) (omega arith)
        ∙ rw z)

    index_more : index_rows (map indexed (take (i + 1) (entries_in n xs))) ≡ index_rows (map indexed (take i (entries_in n xs))) ++ index_row_of (indexed e)
    unfolding index_rows join
    index_more =
        let l = take i (entries_in n xs) in
        rw (
          entry_last n xs i h,
          map_append indexed l (e ∷ []),
          map_append index_row_of (map indexed l) (indexed e ∷ []),
          join_append (map index_row_of (map indexed l)) (index_row_of (indexed e) ∷ []),
          append-nil (index_row_of (indexed e)),
        )

    pub index_next : lay (index_up_to i) at (part xs (i * entry_row) index_row) ≡ index_up_to (i + 1)
    unfolding index_up_to
    index_next =
        let l = take i (entries_in n xs) in
        let k = length-take-le i (entries_in n xs) (omega (arith, length_entries_in n xs)) in
        rw (index_row_lem, index_more)
        (lay_next side header_length (index_rows (map indexed l)) (index_row_of (indexed e)) at (omega (arith, length_index_rows (map indexed l), length-map l indexed)))

  -- zeros behind the last
  pub index_cleared : (s : Settings) (i at : ℕ) → n ≤ i → at ≡ header_length + n * index_row
      → lay (index_up_to i) at (replicate (index_end s - at) 0) ≡ lay side header_length (index_bytes s (map indexed (entries_in n xs)))
  unfolding index_up_to index_bytes index_end
  index_cleared s i at h a =
      let l = entries_in n xs in
      let k = length-map l indexed ∙ length_entries_in n xs in
      let z : index_end s - at ≡ index_row * (entries s - length (map indexed l)) = omega arith in
      rw (entries_whole n xs i h, z)
      (lay_next side header_length (index_rows (map indexed l)) (replicate (index_row * (entries s - length (map indexed l))) 0) at
      (omega (arith, length_index_rows (map indexed l))))
