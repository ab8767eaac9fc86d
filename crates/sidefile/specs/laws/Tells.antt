-- What is told is one thing (document 01, "What the contracts pin"). What a desk takes, and what it holds, is told: its header
-- and the entries of its index. Assumes nothing.
use Rattle.std.specs.Prelude.{ℕ, ◌+◌, ◌<◌, Bool, true, List, ◌∷◌, ◌++◌, ◌≡◌, length, take, drop}
use Rattle.std.proofs.Common.{◌∙◌, sym, arith}
use borrow.Author.Tests.{eq-eqb, le-leb, lt-ltb}
use Rattle.lists.specs.Scans.{done, more}
use Rattle.octets.specs.Number.{le16, le32}
use Rattle.octets.specs.Rows.{row}
use Rattle.units.specs.Sizes.{header_length, index_row, entries, index_end}
use Rattle.units.specs.Tests.{passes}
use Rattle.units.specs.laws.Tests.{every_passes, passes_append, passes_both, tested_passes}
use Rattle.units.specs.declared.Settings.{Settings}
use Rattle.sidefile.specs.Encode.{checksum, header_of, index_entry_of, index_of}
use Rattle.sidefile.specs.Judge.{mark_tests, header_tests, index_tests, reaches, holds, whole_tests, held_tests}
use Rattle.sidefile.specs.inner.Passed.{HeaderPassed, header_passed, indexed_whole}
use Rattle.sidefile.specs.inner.Table.{index_entries, entry_next}
use Rattle.sidefile.specs.Told.{told_tests, untold, told_of, told, entry_of, entry_told}
use Rattle.sidefile.specs.declared.IndexEntry.{IndexEntry}
use Rattle.sidefile.specs.declared.told.EntryTold.{EntryTold}
use Rattle.sidefile.specs.declared.told.Told.{Told}

-- one outcome
pub header_told_one : (xs : List ℕ) (a b : Told) → a ≡ told xs → b ≡ told xs → a ≡ b
header_told_one xs a b p q = p ∙ sym q

pub entry_told_one : (xs : List ℕ) (i : ℕ) (a b : EntryTold) → a ≡ entry_told xs i → b ≡ entry_told xs i → a ≡ b
entry_told_one xs i a b p q = p ∙ sym q

-- a header that passed, and another length to ask for
asked_again : (long other : Settings → Bool) (xs : List ℕ) → HeaderPassed long xs → other (header_of xs).settings ≡ true
    → passes (header_tests other xs) ≡ true
unfolding header_tests
asked_again long other xs p a =
    every_passes (header_tests other xs)
    (more (eq-eqb (checksum (take 32 xs)) (le32 xs 32) p.summed)
    (more p.limited
    (more (eq-eqb (le16 xs 26) 0 p.zeroed)
    (more a
    (more (le-leb (header_of xs).end 65535 p.ended)
    (more (le-leb (header_of xs).entries (entries (header_of xs).settings) p.few)
    done))))))

module _ (xs : List ℕ) where
  -- a side file that a take accepts, and a held buffer that a refresh or a read accepts, pass
  pub whole_tells : passes (whole_tests (length xs) xs) ≡ true → passes (told_tests xs) ≡ true
  unfolding whole_tests
  whole_tells e =
      let a = passes_both (mark_tests xs) (header_tests (reaches (length xs)) xs ++ index_tests xs) e in
      let b = (passes_both (header_tests (reaches (length xs)) xs) (index_tests xs) a.1).0 in
      passes_append (mark_tests xs) (header_tests (holds (length xs)) xs) a.0
      (asked_again (reaches (length xs)) (holds (length xs)) xs (header_passed (reaches (length xs)) xs b)
      (le-leb (index_end (header_of xs).settings) (length xs) (indexed_whole (length xs) xs b (omega arith)).reached))

  pub held_tells : passes (held_tests xs) ≡ true → passes (told_tests xs) ≡ true
  unfolding held_tests
  held_tells e =
      let a = passes_both (mark_tests xs) (header_tests (holds (length xs)) xs ++ index_tests xs) e in
      passes_append (mark_tests xs) (header_tests (holds (length xs)) xs) a.0
      (passes_both (header_tests (holds (length xs)) xs) (index_tests xs) a.1).0

  -- and what passes is told: its header, and entry i of its index
  module _ (p : passes (told_tests xs) ≡ true) where
    pub told_header : told xs ≡ told_of (header_of xs)
    unfolding told
    told_header = tested_passes untold (told_of (header_of xs)) (told_tests xs) p

    module _ (i : ℕ) (l : i < (header_of xs).entries) where
      abbrev x : IndexEntry
      x = index_entry_of (row header_length index_row i xs)

      pub told_entry : (entry_told xs i ≡ entry_of x) × (drop i (index_of xs) ≡ x ∷ drop (i + 1) (index_of xs))
      unfolding entry_told
      told_entry = (
        rw (p, lt-ltb i (header_of xs).entries l),
        rw (index_entries xs) (entry_next header_length index_row (header_of xs).entries xs i l),
      )
