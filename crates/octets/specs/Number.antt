-- Little-endian numbers in bytes, once for every width: the number in the first w bytes of a list, and the w bytes of a
-- number. A list that ends early reads as if zeros followed.
use Rattle.std.specs.Prelude.{ℕ, zero, suc, ◌+◌, ◌*◌, ◌/◌, ◌%◌, ◌<◌, List, [], ◌∷◌, drop, get_or}

-- the number in the first w bytes, least byte first
unfoldable pub le : ℕ → List ℕ → ℕ
le zero xs = 0
le (suc w) [] = 0
le (suc w) (x ∷ xs) = x + 256 * le w xs

-- the w bytes of v, least byte first
unfoldable pub bytes : ℕ → ℕ → List ℕ
bytes zero v = []
bytes (suc w) v = v % 256 ∷ bytes w (v / 256)

-- the number at a, at the two widths of document 01, and the bytes of a number
abbrev pub le16 : List ℕ → ℕ → ℕ
le16 xs a = le 2 (drop a xs)

abbrev pub le32 : List ℕ → ℕ → ℕ
le32 xs a = le 4 (drop a xs)

abbrev pub bytes16 : ℕ → List ℕ
bytes16 v = bytes 2 v

abbrev pub bytes32 : ℕ → List ℕ
bytes32 v = bytes 4 v

-- every element is a byte
unfoldable pub Octets : List ℕ → Type 0
Octets xs = (i : ℕ) → get_or xs i 0 < 256
