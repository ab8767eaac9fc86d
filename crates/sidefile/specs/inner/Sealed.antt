-- What a seal leaves: the header, with the checksum of the rows of the index that stand already. With the index of entries
-- laid before, that is the front that open and close write. Assumes nothing.
use Prim.Native.Nat.{ℕ, ◌+◌, ◌-◌, ◌*◌, ◌≤◌}
use Rattle.std.specs.Prelude.{◌≡◌, refl}
use Rattle.std.proofs.Common.{◌∙◌, sym, arith}
use Rattle.std.proofs.Math.Path.{ap}
use mathlib.Core.List.{List, [], ◌++◌}
use Rattle.std.proofs.Math.Nat.{sub-zero}
use Rattle.std.proofs.Math.ListN.{length, replicate}
use Rattle.octets.specs.Number.{bytes, bytes16, bytes32}
use Rattle.octets.specs.Part.{part, lay}
use Rattle.octets.specs.laws.Part.{lay_next, lay_comm, part_lay_same, part_lay_before}
use Rattle.octets.specs.Rows.{join}
use Rattle.units.specs.Sizes.{header_length, index_row, entries}
use Rattle.units.specs.declared.Settings.{Settings}
use Rattle.units.specs.declared.Tick.{Tick}
use Rattle.sidefile.specs.declared.Header.{Header}
use Rattle.sidefile.specs.declared.IndexEntry.{IndexEntry}
use Rattle.sidefile.specs.Encode.{checksum, mark, version, header_front, header_bytes, header_for, index_rows, index_bytes}
use Rattle.sidefile.specs.laws.Lengths.{length_header_for, length_index_rows}

-- bytes 0 to 15 and 16 to 31 of a header
unfoldable pub first_bytes : Header → List ℕ
first_bytes h = mark ++ (bytes16 version ++ (bytes16 h.settings.lag ++ (bytes32 h.settings.size ++ bytes32 h.closed.0)))

unfoldable pub second_bytes : Header → ℕ → List ℕ
second_bytes h sum = bytes32 h.end ++ (bytes32 h.entries ++ (bytes16 h.settings.slots ++ (bytes16 0 ++ bytes32 sum)))

pub both_halves : (h : Header) (sum : ℕ) → first_bytes h ++ second_bytes h sum ≡ header_front h sum
unfolding first_bytes second_bytes header_front bytes
both_halves h sum = refl

pub length_first : (h : Header) → length (first_bytes h) ≡ 16
unfolding first_bytes bytes
length_first h = refl

unfoldable pub sealed : Settings → Tick → ℕ → ℕ → List ℕ → List ℕ
sealed s closed end n xs =
    lay xs 0 (header_bytes (record { settings = s; closed = closed; end = end; entries = n }) (checksum (part xs header_length (index_row * n))))

module _ (s : Settings) (closed : Tick) (end : ℕ) (ys : List IndexEntry) (side : List ℕ) where
  -- the index was laid, and then sealed
  pub sealed_rows : header_length + index_row * length ys ≤ length side
      → sealed s closed end (length ys) (lay side header_length (index_bytes s ys))
      ≡ lay (lay side header_length (index_bytes s ys)) 0 (header_for s closed end ys)
  unfolding sealed index_bytes header_for
  sealed_rows h =
      let n = index_row * length ys in
      let zeros : List ℕ = replicate (index_row * (entries s - length ys)) 0 in
      let l = length_index_rows ys in
      let p : part (lay side header_length (index_rows ys ++ zeros)) header_length n ≡ index_rows ys
      = ap (λ (xs : List ℕ). part xs header_length n) (sym (lay_next side header_length (index_rows ys) zeros (header_length + n) (omega arith)))
      ∙ part_lay_before (lay side header_length (index_rows ys)) (header_length + n) zeros header_length n (omega arith)
      ∙ ap (part (lay side header_length (index_rows ys)) header_length) (sym l)
      ∙ part_lay_same side header_length (index_rows ys) (omega arith) in
      rw p

  -- index and header are one front
  pub front_laid : lay (lay side header_length (index_bytes s ys)) 0 (header_for s closed end ys)
      ≡ lay side 0 (header_for s closed end ys ++ index_bytes s ys)
  front_laid =
      let l = length_header_for s closed end ys in
      sym (lay_comm side 0 (header_for s closed end ys) header_length (index_bytes s ys) (omega arith))
      ∙ lay_next side 0 (header_for s closed end ys) (index_bytes s ys) header_length (omega arith)

-- without entries: zeros, sealed
pub sealed_empty : (s : Settings) (closed : Tick) (end : ℕ) (side : List ℕ) → header_length ≤ length side
    → sealed s closed end 0 (lay side header_length (replicate (index_row * entries s) 0)) ≡ lay side 0 (header_for s closed end [] ++ index_bytes s [])
unfolding index_bytes index_rows join
sealed_empty s closed end side h =
    ap (λ (ys : List ℕ). sealed s closed end 0 (lay side header_length ys)) zeros
    ∙ sealed_rows s closed end [] side (omega arith)
    ∙ front_laid s closed end [] side
  where
    zeros : replicate (index_row * entries s) 0 ≡ index_bytes s []
    zeros = rw sub-zero
