-- What is told of a header and of an entry, by where the code returns. Assumes nothing.
use Prim.Native.Nat.{ℕ, ◌+◌, ◌*◌, ◌≤◌, ◌<◌}
use mathlib.Core.Bool.{true}
use mathlib.Core.List.{List}
use mathlib.Core.Path.{◌≡◌, refl, ◌∙◌, sym, ap}
use native.Mathlib.Omega.{arith}
use lib.ListN.{length}
use borrow.Author.Tests.{le-ltb}
use Rattle.lists.specs.Scans.{all_of}
use Rattle.octets.specs.Rows.{row}
use Rattle.octets.specs.laws.Rows.{row_in}
use Rattle.units.specs.Sizes.{header_length, index_row, index_end}
use Rattle.units.specs.Refusals.{code}
use Rattle.units.specs.declared.refusal.Refusal.{Refusal}
use Rattle.units.specs.Tests.{passes, verdict}
use Rattle.units.specs.laws.Tests.{verdict_none, not_passed, refused_by, passes_both}
use Rattle.sidefile.specs.Encode.{header_of, index_entry_of}
use Rattle.sidefile.specs.Judge.{mark_tests, header_tests, holds}
use Rattle.sidefile.specs.inner.Passed.{Indexed, indexed_held, numbered}
use Rattle.sidefile.specs.laws.Tells.{told_header, told_entry}
use Rattle.sidefile.specs.Told.{told_tests, untold, told_of, told, no_entry, entry_of, entry_told}
use Rattle.sidefile.specs.declared.Header.{Header}
use Rattle.sidefile.specs.declared.IndexEntry.{IndexEntry}

-- refused
module _ (xs : List ℕ) (r : Refusal) (e : code r ≡ verdict (told_tests xs)) where
  nonzero : code r ≡ 0 → ⊥
  nonzero z = omega (arith, numbered r)

  pub told_refused : told xs ≡ untold (code r)
  unfolding told
  told_refused = refused_by untold (told_of (header_of xs)) (told_tests xs) (code r) e nonzero

  pub entry_refused : (i : ℕ) → entry_told xs i ≡ no_entry
  unfolding entry_told
  entry_refused i = rw (not_passed (told_tests xs) (code r) e nonzero)

-- all tests pass: h is the header that was read
module _ (xs : List ℕ) (e : 0 ≡ verdict (told_tests xs)) where
  passed : passes (told_tests xs) ≡ true
  unfolding mark_tests header_tests all_of
  passed = verdict_none (told_tests xs) refl (sym e)

  pub told_indexed : Indexed xs
  told_indexed = indexed_held xs (passes_both (mark_tests xs) (header_tests (holds (length xs)) xs) passed).1

  pub told_long : header_length ≤ length xs
  unfolding index_end
  told_long = omega (arith, told_indexed.reached)

  module _ (h : Header) (f : h ≡ header_of xs) where
    pub told_done : told xs ≡ told_of h
    told_done = told_header xs passed ∙ ap told_of (sym f)

    pub entry_past : (i : ℕ) → h.entries ≤ i → entry_told xs i ≡ no_entry
    unfolding entry_told
    entry_past i l = rw (passed, ← f, le-ltb i h.entries l)

    module _ (i : ℕ) (l : i < h.entries) where
      counts : i < (header_of xs).entries
      counts = rw (← f) l

      pub entry_fits : header_length + i * index_row + index_row ≤ length xs
      unfolding index_end
      entry_fits = omega (arith, told_indexed.few, told_indexed.reached, row_in index_row i (header_of xs).entries counts)

      pub entry_done : (x : IndexEntry) → x ≡ index_entry_of (row header_length index_row i xs) → entry_told xs i ≡ entry_of x
      entry_done x k = (told_entry xs passed i counts).0 ∙ ap entry_of (sym k)
