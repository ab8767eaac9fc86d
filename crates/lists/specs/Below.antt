-- Numbers in a row, and lists that rise. Scans over `below n` are ascending by construction.
use Rattle.std.specs.Prelude.{ℕ, zero, suc, ◌≤◌, List, [], ◌∷◌}

-- numbers from a, n of them
unfoldable pub from : ℕ → ℕ → List ℕ
from a zero = []
from a (suc n) = a ∷ from (suc a) n

abbrev pub below : ℕ → List ℕ
below n = from 0 n

-- a list of numbers that rises strictly, from low on
pub data Rising : ℕ → List ℕ → Type 0 where
  flat : {a : ℕ} → Rising a []
  step : {a x : ℕ} {xs : List ℕ} → a ≤ x → Rising (suc x) xs → Rising a (x ∷ xs)

-- pairs
module _ {A B : Type 0} where
  unfoldable pub zip : List A → List B → List (A × B)
  zip [] ys = []
  zip (x ∷ xs) [] = []
  zip (x ∷ xs) (y ∷ ys) = (x, y) ∷ zip xs ys
