-- A copy that does nothing where a part does not lie inside its slice.
use Rattle.std.specs.Prelude.{ℕ, ◌+◌, ◌<◌, ◌≤◌, ◌&&◌, List, ◌≡◌, leb, length}
use Rattle.std.proofs.lemmas.Bool.{lt-leb}
use Rattle.std.proofs.Common.{le-leb}
use Rattle.lists.specs.Bools.{if_then}
use Rattle.lists.specs.laws.Bools.{and_left, and_right, and_make}
use Rattle.octets.specs.Part.{part, lay}

unfoldable pub copied : List ℕ → ℕ → List ℕ → ℕ → ℕ → List ℕ
copied src from dst to n = if_then (leb (from + n) (length src) && leb (to + n) (length dst)) (lay dst to (part src from n)) dst

module _ (src : List ℕ) (from : ℕ) (dst : List ℕ) (to n : ℕ) where
  pub source_ends : length src < from + n → dst ≡ copied src from dst to n
  unfolding copied
  source_ends h = rw (and_left _ (leb (to + n) (length dst)) (lt-leb (from + n) (length src) h))

  pub target_ends : length dst < to + n → dst ≡ copied src from dst to n
  unfolding copied
  target_ends h = rw (and_right (leb (from + n) (length src)) _ (lt-leb (to + n) (length dst) h))

  pub both_fit : from + n ≤ length src → to + n ≤ length dst → lay dst to (part src from n) ≡ copied src from dst to n
  unfolding copied
  both_fit h k = rw (and_make _ _ (le-leb (from + n) (length src) h) (le-leb (to + n) (length dst) k))
