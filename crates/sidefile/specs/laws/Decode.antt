-- Numbers that are good to encode, and that decoding gives them back, whatever stands behind the index. Assumes nothing.
use Prim.Native.Nat.{ℕ, ◌-◌, ◌*◌, ◌<◌, ◌≤◌}
use Rattle.std.specs.Prelude.{◌≡◌, true, take, replicate}
use Rattle.std.proofs.Math.Path.{refl, sym, ap}
use Rattle.std.proofs.Common.{◌∙◌, arith}
use mathlib.Core.List.{List, [], ◌∷◌, ◌++◌, map, append_assoc}
use Rattle.std.proofs.Math.ListN.{length, drop}
use Rattle.std.proofs.lemmas.List.{length-map}
use Rattle.lists.specs.Scans.{Every}
use Rattle.lists.specs.laws.Scans.{head, tail}
use Rattle.lookup3.proofs.Laws.{below}
use Rattle.octets.specs.Number.{le, bytes, le16, le32}
use Rattle.octets.specs.laws.Number.{le_bytes}
use Rattle.octets.specs.Rows.{rows}
use Rattle.octets.specs.laws.Rows.{rows_join}
use Rattle.units.specs.laws.Bounds.{limits_within, entries_most}
use Rattle.units.specs.Sizes.{top, header_length, index_row, limits, entries, places}
use Rattle.units.specs.declared.Settings.{Settings}
use Rattle.units.specs.declared.Tick.{Tick}
use Rattle.sidefile.specs.declared.Header.{Header}
use Rattle.sidefile.specs.declared.IndexEntry.{IndexEntry}
use Rattle.sidefile.specs.Encode.{checksum, named, header_front, header_bytes, index_row_of, index_rows, index_bytes, header_of_close, header_for, header_of, index_entry_of, index_of}
use Rattle.sidefile.specs.Judge.{ascending, apart}
use Rattle.sidefile.specs.laws.Lengths.{even_index}

-- an entry's numbers have 32 bits
pub record Small (x : IndexEntry) : Type 0 where
  pub page : x.page.0 < 4294967296
  pub place : x.place.0 < 4294967296
  pub changed : x.changed.0 < 4294967296
  pub sum : x.sum < 4294967296

-- what a header and its index may say
pub record Encodes (s : Settings) (closed : Tick) (end : ℕ) (xs : List IndexEntry) : Type 0 where
  pub limited : limits s ≡ true
  pub tick : closed.0 ≤ top
  pub ended : end ≤ 65535
  pub few : length xs ≤ entries s
  pub small : Every Small xs
  pub ascends : ascending 0 xs ≡ true
  pub pages : Every (λ x. x.page.0 < end) xs
  pub placed : Every (λ x. x.place.0 < places s) xs
  pub alone : apart xs ≡ true
  pub earlier : Every (λ x. x.changed.0 ≤ closed.0) xs

-- header and index
abbrev pub encoded : Settings → Tick → ℕ → List IndexEntry → List ℕ
encoded s closed end xs = header_for s closed end xs ++ index_bytes s xs

-- a checksum has 32 bits
pub checksum_below : (xs : List ℕ) → checksum xs < 4294967296
unfolding checksum
checksum_below xs = below xs 0

-- an entry, and all of them
pub entry_back : (x : IndexEntry) → Small x → index_entry_of (index_row_of x) ≡ x
unfolding index_entry_of index_row_of bytes le
entry_back x s =
    λ i. record {
      page = record { 0 = le_bytes 4 x.page.0 [] s.page i };
      place = record { 0 = le_bytes 4 x.place.0 [] s.place i };
      changed = record { 0 = le_bytes 4 x.changed.0 [] s.changed i };
      sum = le_bytes 4 x.sum [] s.sum i;
    }

pub entries_back : (xs : List IndexEntry) → Every Small xs → map index_entry_of (map index_row_of xs) ≡ xs
entries_back [] e = refl
entries_back (x ∷ xs) e = λ i. entry_back x (head e) i ∷ entries_back xs (tail e) i

pub rows_back : (xs : List IndexEntry) (ys : List ℕ) → Every Small xs
    → map index_entry_of (rows index_row (length xs) (index_rows xs ++ ys)) ≡ xs
unfolding index_rows
rows_back xs ys e =
    rw (← length-map xs index_row_of, rows_join index_row (map index_row_of xs) ys (even_index xs)) (entries_back xs e)

-- the header's checksums, the two bytes that are zero, and what stands behind the header
module _ (s : Settings) (closed : Tick) (end : ℕ) (xs : List IndexEntry) (rest : List ℕ) where
  pub header_sum : checksum (take 32 (encoded s closed end xs ++ rest)) ≡ le32 (encoded s closed end xs ++ rest) 32
  unfolding header_for header_bytes header_front bytes le
  header_sum =
      let front = header_front (header_of_close s closed end xs) (checksum (index_rows xs)) in
      sym (le_bytes 4 (checksum front) [] (checksum_below front))

  pub index_sum_lem : le32 (encoded s closed end xs ++ rest) 28 ≡ checksum (index_rows xs)
  unfolding header_for header_bytes header_front bytes le
  index_sum_lem = le_bytes 4 (checksum (index_rows xs)) [] (checksum_below (index_rows xs))

  pub zeros_back : le16 (encoded s closed end xs ++ rest) 26 ≡ 0
  unfolding header_for header_bytes header_front bytes le
  zeros_back = refl

  pub behind_header : drop header_length (encoded s closed end xs ++ rest)
      ≡ index_rows xs ++ (replicate (index_row * (entries s - length xs)) 0 ++ rest)
  unfolding header_for header_bytes header_front bytes index_bytes
  behind_header = append_assoc (index_rows xs) (replicate (index_row * (entries s - length xs)) 0) rest

-- header and index are read as they were written
module _ (s : Settings) (closed : Tick) (end : ℕ) (xs : List IndexEntry) (e : Encodes s closed end xs) (rest : List ℕ) where
  pub header_back : header_of (encoded s closed end xs ++ rest)
      ≡ record { settings = named s; closed = closed; end = end; entries = length xs }
  unfolding header_of header_for header_bytes header_front bytes le
  header_back =
      let w = limits_within s e.limited in
      let n = entries_most s w in
      λ i. record {
        settings = record {
          size = le_bytes 4 s.size [] (omega arith) i;
          slots = le_bytes 2 s.slots [] (omega arith) i;
          lag = le_bytes 2 s.lag [] (omega arith) i;
          capacity = 65535;
        };
        closed = record { 0 = le_bytes 4 closed.0 [] (omega arith) i };
        end = le_bytes 4 end [] (omega arith) i;
        entries = le_bytes 4 (length xs) [] (omega arith) i;
      }

  pub index_back : index_of (encoded s closed end xs ++ rest) ≡ xs
  unfolding index_of
  index_back =
      let behind : List ℕ = drop header_length (encoded s closed end xs ++ rest) in
      ap (λ (h : Header). map index_entry_of (rows index_row h.entries behind)) header_back
      ∙ rw behind_header (rows_back xs (replicate (index_row * (entries s - length xs)) 0 ++ rest) e.small)
