-- What is kept of a side file decides its listing: no test looks further, and neither do the lines. Assumes nothing.
use Rattle.std.specs.Prelude.{ℕ, ◌+◌, ◌-◌, ◌*◌, ◌≤◌, ◌<◌, min, ◌≡◌, refl, Bool, true, false, length, take, drop}
use Rattle.std.proofs.Common.{◌∙◌, length-take, take-take, get_or-take, le-leb}
use Rattle.std.proofs.Math.Path.{sym, ap}
use mathlib.Core.List.{List, [], ◌∷◌, ◌++◌, map}
use native.Mathlib.Omega.{arith}
use Rattle.std.proofs.Math.Decide.{dec_le}
use Rattle.std.proofs.Math.Dec.{eqb, ltb, leb}
use Rattle.std.proofs.lemmas.Bool.{lt-leb}
use Rattle.lists.specs.Scans.{all_of}
use Rattle.octets.specs.Number.{le}
use Rattle.octets.specs.laws.Number.{le_take}
use Rattle.octets.specs.Part.{part, lay}
use Rattle.octets.specs.laws.Part.{part_part, part_zero}
use Rattle.octets.specs.Rows.{rows}
use Rattle.octets.specs.laws.Rows.{rows_front}
use Rattle.units.specs.laws.Bounds.{limits_within, index_end_most}
use Rattle.units.specs.Refusals.{foreign, damaged}
use Rattle.units.specs.Sizes.{header_length, index_row, limits, entries, places, index_end}
use Rattle.units.specs.Tests.{Test, passes, tested}
use Rattle.units.specs.laws.Tests.{tested_passes, tested_fails, tested_append}
use Rattle.units.specs.declared.Settings.{Settings}
use Rattle.sidefile.specs.Encode.{checksum, version, header_of, index_entry_of, index_of}
use Rattle.sidefile.specs.Judge.{ascending, apart, mark_tests, header_tests, index_tests, reaches, whole_tests}
use Rattle.sidefile.specs.inner.Passed.{most_front, header_passed}
use Rattle.sidefile.specs.declared.Header.{Header}
use Rattle.listing.specs.laws.Kept.{lay_front}
use Rattle.listing.specs.Text.{head_line, entry_lines, refused_line, listing}

-- what tests that pass lead to matters only if they pass
tested_if : {R : Type 0} (refused : ℕ → R) (r s : R) (ts : List Test) → (passes ts ≡ true → r ≡ s) → tested ts refused r ≡ tested ts refused s
tested_if {R} refused r s ts f = go (passes ts) refl
  where
    go : (b : Bool) → passes ts ≡ b → tested ts refused r ≡ tested ts refused s
    go true e = tested_passes refused r ts e ∙ f e ∙ sym (tested_passes refused s ts e)
    go false e = tested_fails refused r ts e ∙ sym (tested_fails refused s ts e)

-- the first m bytes of xs stand for xs
module _ (m : ℕ) (xs : List ℕ) where
  abbrev ys : List ℕ
  ys = take m xs

  part_kept : (a n : ℕ) → a + n ≤ m → part ys a n ≡ part xs a n
  part_kept a n h =
      ap (λ (zs : List ℕ). part zs a n) (sym (part_zero xs m))
      ∙ part_part xs 0 m a n h
      ∙ ap (λ (b : ℕ). part xs b n) {x = 0 + a} {y = a} (omega arith)

  le_kept : (w a : ℕ) → a + w ≤ m → le w (drop a ys) ≡ le w (drop a xs)
  unfolding part
  le_kept w a h =
      sym (le_take w w (drop a ys) (omega arith)) ∙ ap (le w) (part_kept a w h) ∙ le_take w w (drop a xs) (omega arith)

  long_kept : (a : ℕ) → a ≤ m → leb a (length ys) ≡ leb a (length xs)
  long_kept a h = go (dec_le a (length xs))
    where
      go : Dec (a ≤ length xs) → leb a (length ys) ≡ leb a (length xs)
      go (yes l) = le-leb a (length ys) (rw (length-take m xs) (omega arith)) ∙ sym (le-leb a (length xs) l)
      go (no l) =
          let g : length xs < a = omega (arith, l) in
          lt-leb a (length ys) (rw (length-take m xs) (omega arith)) ∙ sym (lt-leb a (length xs) g)

  module _ (h : header_length ≤ m) where
    header_kept : header_of ys ≡ header_of xs
    unfolding header_of
    header_kept =
        λ i. record {
          settings = record { size = le_kept 4 8 (omega arith) i; slots = le_kept 2 24 (omega arith) i; lag = le_kept 2 6 (omega arith) i; capacity = 65535 };
          closed = record { 0 = le_kept 4 12 (omega arith) i };
          end = le_kept 4 16 (omega arith) i;
          entries = le_kept 4 20 (omega arith) i;
        }

    mark_kept : mark_tests ys ≡ mark_tests xs
    unfolding mark_tests
    mark_kept =
        λ i.
        (foreign, long_kept header_length h i)
        ∷ (foreign, eqb (get_or-take m xs 0 0 (omega arith) i) 84)
        ∷ (foreign, eqb (get_or-take m xs 1 0 (omega arith) i) 87)
        ∷ (foreign, eqb (get_or-take m xs 2 0 (omega arith) i) 76)
        ∷ (foreign, eqb (get_or-take m xs 3 0 (omega arith) i) 0)
        ∷ (foreign, eqb (le_kept 2 4 (omega arith) i) version)
        ∷ []

    header_tests_kept : (long : Settings → Bool) → header_tests long ys ≡ header_tests long xs
    unfolding header_tests
    header_tests_kept long =
        λ i.
        (damaged, eqb (checksum (take-take 32 m xs (omega arith) i)) (le_kept 4 32 (omega arith) i))
        ∷ (damaged, limits (header_kept i).settings)
        ∷ (damaged, eqb (le_kept 2 26 (omega arith) i) 0)
        ∷ (damaged, long (header_kept i).settings)
        ∷ (damaged, leb (header_kept i).end 65535)
        ∷ (damaged, leb (header_kept i).entries (entries (header_kept i).settings))
        ∷ []

    -- header and index are at hand: the index is the same, and its tests
    module _ (few : (header_of xs).entries ≤ entries (header_of xs).settings) (reach : header_length + index_row * entries (header_of xs).settings ≤ m) where
      rows_kept : part ys header_length (index_row * (header_of ys).entries) ≡ part xs header_length (index_row * (header_of xs).entries)
      rows_kept =
          ap (λ (g : Header). part ys header_length (index_row * g.entries)) header_kept
          ∙ part_kept header_length (index_row * (header_of xs).entries) (omega arith)

      spare_kept : part ys (header_length + index_row * (header_of ys).entries) (index_row * (entries (header_of ys).settings - (header_of ys).entries))
          ≡ part xs (header_length + index_row * (header_of xs).entries) (index_row * (entries (header_of xs).settings - (header_of xs).entries))
      spare_kept =
          ap (λ (g : Header). part ys (header_length + index_row * g.entries) (index_row * (entries g.settings - g.entries))) header_kept
          ∙ part_kept (header_length + index_row * (header_of xs).entries) (index_row * (entries (header_of xs).settings - (header_of xs).entries)) (omega arith)

      index_kept : index_of ys ≡ index_of xs
      unfolding index_of part
      index_kept =
          let n = (header_of xs).entries in
          let l : n * index_row ≡ index_row * n = omega arith in
          ap (λ (g : Header). map index_entry_of (rows index_row g.entries (drop header_length ys))) header_kept
          ∙ ap (map index_entry_of)
          (rows_front index_row n (drop header_length ys) (drop header_length xs) (rw l (part_kept header_length (index_row * n) (omega arith))))

      index_tests_kept : index_tests ys ≡ index_tests xs
      unfolding index_tests
      index_tests_kept =
          λ i.
          (damaged, ascending 0 (index_kept i))
          ∷ (damaged, all_of (λ x. ltb x.page.0 (header_kept i).end) (index_kept i))
          ∷ (damaged, all_of (λ x. ltb x.place.0 (places (header_kept i).settings)) (index_kept i))
          ∷ (damaged, apart (index_kept i))
          ∷ (damaged, all_of (λ x. leb x.changed.0 (header_kept i).closed.0) (index_kept i))
          ∷ (damaged, all_of (eqb 0) (spare_kept i))
          ∷ (damaged, eqb (checksum (rows_kept i)) (le_kept 4 28 (omega arith) i))
          ∷ []

-- the lines of a file, behind the tests of its index
abbrev judged : List ℕ → List ℕ
judged xs = tested (index_tests xs) refused_line (head_line (header_of xs) ++ entry_lines (index_of xs))

-- and behind those of its header
in_turn : (n : ℕ) (xs : List ℕ) → listing n xs ≡ tested (mark_tests xs) refused_line (tested (header_tests (reaches n) xs) refused_line (judged xs))
unfolding listing whole_tests
in_turn n xs =
    let r = head_line (header_of xs) ++ entry_lines (index_of xs) in
    tested_append refused_line r (mark_tests xs) (header_tests (reaches n) xs ++ index_tests xs)
    ∙ ap (tested (mark_tests xs) refused_line) (tested_append refused_line r (header_tests (reaches n) xs) (index_tests xs))

judged_kept : (n : ℕ) (xs : List ℕ) → passes (header_tests (reaches n) xs) ≡ true → judged (take most_front xs) ≡ judged xs
unfolding index_end
judged_kept n xs e =
    let p = header_passed (reaches n) xs e in
    let s = (header_of xs).settings in
    let reach : header_length + index_row * entries s ≤ most_front = index_end_most s (limits_within s p.limited) in
    λ i.
    tested (index_tests_kept most_front xs (omega arith) p.few reach i) refused_line
    (head_line (header_kept most_front xs (omega arith) i) ++ entry_lines (index_kept most_front xs (omega arith) p.few reach i))

-- the listing of what is kept is that of the whole file
pub listing_kept : (n : ℕ) (xs : List ℕ) → listing n (take most_front xs) ≡ listing n xs
listing_kept n xs =
    let ys = take most_front xs in
    in_turn n ys
    ∙ rw (mark_kept most_front xs (omega arith), header_tests_kept most_front xs (omega arith) (reaches n))
    (ap (tested (mark_tests xs) refused_line) (tested_if refused_line (judged ys) (judged xs) (header_tests (reaches n) xs) (judged_kept n xs)))
    ∙ sym (in_turn n xs)

-- an input that was laid from the front into a buffer for header and index, and cut off there
pub listing_read : (buffer xs : List ℕ) (n : ℕ) → length buffer ≡ most_front → n ≡ min (length xs) most_front
    → listing (length xs) (take n (lay buffer 0 xs)) ≡ listing (length xs) xs
listing_read buffer xs n l e =
    ap (listing (length xs)) (lay_front buffer xs n (rw l e) ∙ ap (λ (k : ℕ). take k xs) l) ∙ listing_kept (length xs) xs
