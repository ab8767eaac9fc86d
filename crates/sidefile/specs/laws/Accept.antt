-- The judge accepts what is encoded from good numbers: a file whose first bytes are such a header and index passes every
-- test, at all three extents, and says what was encoded. Assumes nothing.
use Rattle.std.specs.Prelude.{ℕ, zero, suc, ◌+◌, ◌-◌, ◌*◌, ◌≤◌, ◌≡◌, Bool, true, List, ◌++◌, take, drop, replicate}
use Rattle.std.proofs.Math.Path.{refl}
use Rattle.std.proofs.Common.{◌∙◌, sym, ap, arith, length-append, take-append-drop}
use Rattle.std.proofs.Math.Dec.{eqb, ltb, leb}
use Rattle.std.proofs.Math.ListN.{length}
use Rattle.std.proofs.lemmas.List.{length-replicate}
use Rattle.std.proofs.Math.Seq.{take_at, drop_at, drop-drop}
use borrow.Author.Tests.{eq-eqb, lt-ltb, le-leb}
use Rattle.lists.specs.Scans.{Every, done, more, all_of}
use Rattle.lists.specs.laws.Scans.{every_all_of}
use Rattle.octets.specs.Number.{le, bytes, le16, le32}
use Rattle.octets.specs.Part.{part}
use Rattle.octets.specs.laws.Part.{part_zero}
use Rattle.units.specs.Sizes.{header_length, index_row, limits, entries, places, index_end, side_length}
use Rattle.units.specs.Tests.{passes}
use Rattle.units.specs.laws.Tests.{every_passes, passes_append}
use Rattle.units.specs.declared.Settings.{Settings}
use Rattle.units.specs.declared.Tick.{Tick}
use Rattle.sidefile.specs.declared.Header.{Header}
use Rattle.sidefile.specs.declared.IndexEntry.{IndexEntry}
use Rattle.sidefile.specs.Encode.{checksum, named, header_front, header_bytes, index_rows, index_bytes, header_for, header_of, index_of}
use Rattle.sidefile.specs.Judge.{ascending, apart, mark_tests, header_tests, index_tests, reaches, holds, whole_tests, front_tests, held_tests}
use Rattle.sidefile.specs.laws.Lengths.{length_index_rows, length_encoded, limits_named, entries_named, places_named, index_end_named, side_length_named}
use Rattle.sidefile.specs.laws.Decode.{Encodes, encoded, header_sum, index_sum_lem, zeros_back, header_back, behind_header, index_back}

-- spare entries
all_zero : (n : ℕ) → all_of (eqb 0) (replicate n 0) ≡ true
unfolding all_of
all_zero zero = refl
all_zero (suc n) = all_zero n

-- a file that is long enough is so for the settings that it names
reached : (s : Settings) (n : ℕ) → side_length s ≤ n → reaches n (named s) ≡ true
reached s n h = rw (side_length_named s) (le-leb (side_length s) n h)

module _ (s : Settings) (closed : Tick) (end : ℕ) (xs : List IndexEntry) (e : Encodes s closed end xs) where
  abbrev header : Header
  header = record { settings = named s; closed = closed; end = end; entries = length xs }

  -- the encoding, and whatever follows it
  module _ (rest : List ℕ) where
    abbrev file : List ℕ
    file = encoded s closed end xs ++ rest

    -- a test of what the file says, by what was encoded
    says : (t : Header → List IndexEntry → Bool) → t header xs ≡ true → t (header_of file) (index_of file) ≡ true
    says t p =
        ap (t (header_of file)) (index_back s closed end xs e rest)
        ∙ ap (λ (h : Header). t h xs) (header_back s closed end xs e rest)
        ∙ p

    -- a test of each entry, by what every entry has
    each : {P : IndexEntry → Type 0} (t : Header → IndexEntry → Bool) → ((x : IndexEntry) → P x → t header x ≡ true)
        → Every P xs
        → all_of (t (header_of file)) (index_of file) ≡ true
    each t f p = says (λ h ys. all_of (t h) ys) (every_all_of (t header) f xs p)

    mark_tests_lem : passes (mark_tests file) ≡ true
    unfolding mark_tests header_for header_bytes header_front bytes le
    mark_tests_lem =
        every_passes (mark_tests file)
        (more (le-leb header_length (length file) (omega arith))
        (more refl (more refl (more refl (more refl (more refl done))))))

    header_tests_lem : (long : Settings → Bool) → long (named s) ≡ true → passes (header_tests long file) ≡ true
    unfolding header_tests
    header_tests_lem long l =
        every_passes (header_tests long file)
        (more (eq-eqb (checksum (take 32 file)) (le32 file 32) (header_sum s closed end xs rest))
        (more (says (λ h ys. limits h.settings) (limits_named s e.limited))
        (more (eq-eqb (le16 file 26) 0 (zeros_back s closed end xs rest))
        (more (says (λ h ys. long h.settings) l)
        (more (says (λ h ys. leb h.end 65535) (le-leb end 65535 e.ended))
        (more
        (says (λ h ys. leb h.entries (entries h.settings))
        (rw (entries_named s) (le-leb (length xs) (entries s) e.few)))
        done))))))

    -- the bytes of the spare entries: they are zero, and those before them are the ones that were summed
    abbrev spare : ℕ
    spare = index_row * (entries s - length xs)

    spare_zero : all_of (eqb 0) (part file (header_length + index_row * length xs) spare) ≡ true
    unfolding part
    spare_zero =
        rw (
          ← drop-drop (index_row * length xs) header_length file,
          behind_header s closed end xs rest,
          drop_at (index_rows xs) (replicate spare 0 ++ rest) (index_row * length xs) (length_index_rows xs),
          take_at (replicate spare 0) rest spare (length-replicate spare 0),
        )
        (all_zero spare)

    rows_summed : checksum (part file header_length (index_row * length xs)) ≡ le32 file 28
    unfolding part
    rows_summed =
        rw (
          behind_header s closed end xs rest,
          take_at (index_rows xs) (replicate spare 0 ++ rest) (index_row * length xs) (length_index_rows xs),
        )
        (sym (index_sum_lem s closed end xs rest))

    index_tests_lem : passes (index_tests file) ≡ true
    unfolding index_tests
    index_tests_lem =
        every_passes (index_tests file)
        (more (says (λ h ys. ascending 0 ys) e.ascends)
        (more (each (λ h x. ltb x.page.0 h.end) (λ x p. lt-ltb x.page.0 end p) e.pages)
        (more
        (each (λ h x. ltb x.place.0 (places h.settings))
        (λ x p. rw (places_named s) (lt-ltb x.place.0 (places s) p))
        e.placed)
        (more (says (λ h ys. apart ys) e.alone)
        (more (each (λ h x. leb x.changed.0 h.closed.0) (λ x p. le-leb x.changed.0 closed.0 p) e.earlier)
        (more
        (says
        (λ h ys. all_of (eqb 0) (part file (header_length + index_row * h.entries) (index_row * (entries h.settings - h.entries))))
        (rw (entries_named s) spare_zero))
        (more
        (says (λ h ys. eqb (checksum (part file header_length (index_row * h.entries))) (le32 file 28))
        (eq-eqb _ _ rows_summed))
        done)))))))

  -- a file that begins with the encoding
  module _ (file : List ℕ) (front : part file 0 (index_end s) ≡ header_for s closed end xs ++ index_bytes s xs) where
    abbrev rest : List ℕ
    rest = drop (index_end s) file

    splits : file ≡ encoded s closed end xs ++ rest
    splits =
        sym (take-append-drop (index_end s) file)
        ∙ ap (λ (f : List ℕ). f ++ rest) (sym (part_zero file (index_end s)) ∙ front)

    pub file_header : header_of file ≡ record { settings = named s; closed = closed; end = end; entries = length xs }
    file_header = ap header_of splits ∙ header_back s closed end xs e rest

    pub file_index : index_of file ≡ xs
    file_index = ap index_of splits ∙ index_back s closed end xs e rest

    pub file_long : index_end s ≤ length file
    file_long =
        omega (
          arith,
          ap length splits,
          length-append (encoded s closed end xs) rest,
          length_encoded s closed end xs e.few,
        )

    pub mark_passes : passes (mark_tests file) ≡ true
    mark_passes = ap (λ (f : List ℕ). passes (mark_tests f)) splits ∙ mark_tests_lem rest

    pub header_passes : (long : Settings → Bool) → long (named s) ≡ true → passes (header_tests long file) ≡ true
    header_passes long l = ap (λ (f : List ℕ). passes (header_tests long f)) splits ∙ header_tests_lem rest long l

    pub index_passes : passes (index_tests file) ≡ true
    index_passes = ap (λ (f : List ℕ). passes (index_tests f)) splits ∙ index_tests_lem rest

    -- all of them, for a length that is asked for
    all_pass : (long : Settings → Bool) → long (named s) ≡ true
        → passes (mark_tests file ++ (header_tests long file ++ index_tests file)) ≡ true
    all_pass long l =
        passes_append (mark_tests file) (header_tests long file ++ index_tests file) mark_passes
        (passes_append (header_tests long file) (index_tests file) (header_passes long l) index_passes)

    pub whole_passes : (n : ℕ) → side_length s ≤ n → passes (whole_tests n file) ≡ true
    unfolding whole_tests
    whole_passes n h = all_pass (reaches n) (reached s n h)

    pub front_passes : (n : ℕ) → side_length s ≤ n → passes (front_tests n file) ≡ true
    unfolding front_tests
    front_passes n h =
        passes_append (mark_tests file) (header_tests (reaches n) file) mark_passes
        (header_passes (reaches n) (reached s n h))

    pub held_passes : passes (held_tests file) ≡ true
    unfolding held_tests
    held_passes = all_pass (holds (length file)) (rw (index_end_named s) (le-leb (index_end s) (length file) file_long))
