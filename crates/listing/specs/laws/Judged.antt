-- A listing by the judge's answer: the lines of a file that passes, or the number of one that does not. Assumes nothing.
use Rattle.std.specs.Prelude.{ℕ, ◌+◌, ◌*◌, ◌≤◌, min, ◌≡◌, true, List, ◌++◌, length}
use Rattle.std.proofs.Common.{arith}
use Rattle.units.specs.laws.Bounds.{limits_within, entries_most}
use Rattle.units.specs.Sizes.{header_length, index_row, index_end}
use Rattle.units.specs.Tests.{passes, verdict}
use Rattle.units.specs.laws.Tests.{tested_passes, passes_both, refused_by}
use Rattle.sidefile.specs.Encode.{header_of, index_of}
use Rattle.sidefile.specs.Judge.{mark_tests, header_tests, index_tests, reaches, whole_tests}
use Rattle.sidefile.specs.inner.Passed.{most_front, Indexed, indexed_whole}
use Rattle.listing.specs.Text.{head_line, entry_lines, refused_line, listing}

module _ (n : ℕ) (xs : List ℕ) where
  pub listing_accepted : passes (whole_tests n xs) ≡ true → listing n xs ≡ head_line (header_of xs) ++ entry_lines (index_of xs)
  unfolding listing
  listing_accepted = tested_passes refused_line (head_line (header_of xs) ++ entry_lines (index_of xs)) (whole_tests n xs)

  pub listing_refused : (number : ℕ) → number ≡ verdict (whole_tests n xs) → (number ≡ 0 → ⊥) → listing n xs ≡ refused_line number
  unfolding listing
  listing_refused = refused_by refused_line (head_line (header_of xs) ++ entry_lines (index_of xs)) (whole_tests n xs)

  -- an accepted file has at most 144 entries, and all of them are at hand
  module _ (e : passes (whole_tests n xs) ≡ true) (h : min n most_front ≤ length xs) where
    indexed : Indexed xs
    unfolding whole_tests
    indexed =
        let a = passes_both (mark_tests xs) (header_tests (reaches n) xs ++ index_tests xs) e in
        indexed_whole n xs (passes_both (header_tests (reaches n) xs) (index_tests xs) a.1).0 h

    pub accepted_few : (header_of xs).entries ≤ 144
    accepted_few =
        let s = (header_of xs).settings in
        omega (arith, indexed.few, entries_most s (limits_within s indexed.limited))

    pub accepted_reached : header_length + index_row * (header_of xs).entries ≤ length xs
    unfolding index_end
    accepted_reached = omega (arith, indexed.few, indexed.reached)
