-- A number in decimal, as ASCII bytes.
use Rattle.std.specs.Prelude.{ℕ, zero, suc, ◌+◌, ◌-◌, ◌*◌, ◌/◌, ◌%◌, List, [], ◌∷◌, ◌++◌, ltb}
use Rattle.lists.specs.Bools.{if_then}

-- the byte of a digit
abbrev pub digit : ℕ → ℕ
digit d = 48 + d

-- the digits of v, where k are enough
unfoldable pub digits : ℕ → ℕ → List ℕ
digits zero v = []
digits (suc k) v = if_then (ltb v 10) (digit v ∷ []) (digits k (v / 10) ++ (digit (v % 10) ∷ []))

-- a number v has at most v + 1 digits
unfoldable pub decimal : ℕ → List ℕ
decimal v = digits (suc v) v

-- the number that digits say, behind those that say n
unfoldable pub said : ℕ → List ℕ → ℕ
said n [] = n
said n (d ∷ ds) = said (10 * n + (d - 48)) ds
