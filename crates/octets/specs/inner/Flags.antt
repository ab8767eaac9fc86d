-- Flags in bytes: a table of them is a list of bytes, and this is what it says. Eight to a byte, its lowest bit first.
-- Assumes nothing.
use Rattle.std.specs.Prelude.{ℕ, zero, suc, ◌/◌, ◌%◌, Bool, List, [], ◌∷◌, ◌++◌, eqb}

-- the k lowest bits of b
unfoldable pub bits : ℕ → ℕ → List Bool
bits zero b = []
bits (suc k) b = eqb (b % 2) 1 ∷ bits k (b / 2)

unfoldable pub flags : List ℕ → List Bool
flags [] = []
flags (b ∷ bs) = bits 8 b ++ flags bs
