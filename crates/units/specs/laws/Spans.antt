-- The verdict v of a call's tests where all before the test of 6, on the span, have passed, and it is the last: what the code
-- answers, by its comparisons. Assumes nothing.
use Rattle.std.specs.Prelude.{ℕ, ◌+◌, ◌≤◌, ◌<◌, [], ◌∷◌, ◌≡◌}
use Rattle.std.proofs.Common.{◌∙◌}
use Rattle.std.proofs.Math.Path.{sym}
use borrow.Author.Tests.{le-leb, lt-leb}
use Rattle.units.specs.Refusals as Refusals
use Rattle.units.specs.Sizes.{inside_page}
use Rattle.units.specs.Tests.{verdict}

module _ (P offset n v : ℕ) (e : v ≡ verdict ((Refusals.span, inside_page P offset n) ∷ [])) where
  pub span_empty : n < 1 → Refusals.span ≡ v
  unfolding verdict
  span_empty h = sym (e ∙ rw (lt-leb 1 n h))

  pub span_past : 1 ≤ n → P < offset + n → Refusals.span ≡ v
  unfolding verdict
  span_past h k = sym (e ∙ rw (le-leb 1 n h, lt-leb (offset + n) P k))

  pub span_inside : 1 ≤ n → offset + n ≤ P → 0 ≡ v
  unfolding verdict
  span_inside h k = sym (e ∙ rw (le-leb 1 n h, le-leb (offset + n) P k))
