-- What the verdict of header and length says of that of a whole side file. Assumes nothing.
use Rattle.std.proofs.Common.{ℕ, ◌≤◌, min, ◌≡◌, sym, ◌∙◌, ap, List, ◌++◌, length, append_assoc, arith}
use Rattle.units.specs.Refusals.{code}
use Rattle.units.specs.Tests.{verdict}
use Rattle.units.specs.laws.Tests.{verdict_behind, stopped, passes_both}
use Rattle.units.specs.declared.refusal.Refusal.{Refusal}
use Rattle.sidefile.specs.Judge.{mark_tests, header_tests, index_tests, reaches, front_tests, whole_tests}
use Rattle.sidefile.specs.inner.Passed.{Indexed, most_front, numbered, indexed_whole, front_accepted}

module _ (n : ℕ) (xs : List ℕ) where
  whole : whole_tests n xs ≡ front_tests n xs ++ index_tests xs
  unfolding whole_tests front_tests
  whole = sym (append_assoc (mark_tests xs) (header_tests (reaches n) xs) (index_tests xs))

  -- refused by its front
  pub whole_refused : (r : Refusal) → code r ≡ verdict (front_tests n xs) → code r ≡ verdict (whole_tests n xs)
  whole_refused r e = rw whole (stopped (front_tests n xs) (index_tests xs) (code r) e (λ z. omega (arith, numbered r)))

  -- its front passes
  module _ (e : 0 ≡ verdict (front_tests n xs)) where
    pub front_indexed : min n most_front ≤ length xs → Indexed xs
    unfolding front_tests
    front_indexed h = indexed_whole n xs (passes_both (mark_tests xs) (header_tests (reaches n) xs) (front_accepted n xs (sym e))).1 h

    pub whole_behind : verdict (whole_tests n xs) ≡ verdict (index_tests xs)
    whole_behind = ap verdict whole ∙ verdict_behind (front_tests n xs) (index_tests xs) (front_accepted n xs (sym e))
