-- Tables and files in bytes: rows of equal width w, of which row i is the part at i·w. Page k of a file is its row k at the
-- width of a page. A table as a list of rows, and back; a row or page laid over another; rows slid up or down by one.
use Rattle.std.specs.Prelude.{ℕ, zero, suc, ◌+◌, ◌-◌, ◌*◌, ◌≡◌, List, [], ◌∷◌, ◌++◌, length, take, drop}
use Rattle.octets.specs.Part.{part, lay}

module _ {A : Type 0} where
  -- row i of a table that begins at s; page k of a file is its row k, from 0 on
  unfoldable pub row : ℕ → ℕ → ℕ → List A → List A
  row s w i xs = part xs (s + i * w) w

  abbrev pub page : ℕ → ℕ → List A → List A
  page P k xs = row 0 P k xs

  -- the first n rows, and rows one after the other
  unfoldable pub rows : ℕ → ℕ → List A → List (List A)
  rows w zero xs = []
  rows w (suc n) xs = take w xs ∷ rows w n (drop w xs)

  unfoldable pub join : List (List A) → List A
  join [] = []
  join (r ∷ rs) = r ++ join rs

  -- each row is w long
  unfoldable pub Even : ℕ → List (List A) → Type 0
  Even w [] = Unit
  Even w (r ∷ rs) = (length r ≡ w) × Even w rs

  -- rows i to n - 1 slid up by one row (row i stands twice then), and rows i + 1 to n - 1 slid down by one (the last twice)
  unfoldable pub slid_up : ℕ → ℕ → ℕ → List A → List A
  slid_up w i n xs = lay xs (i * w + w) (part xs (i * w) ((n - i) * w))

  unfoldable pub slid_down : ℕ → ℕ → ℕ → List A → List A
  slid_down w i n xs = lay xs (i * w) (part xs (i * w + w) ((n - i - 1) * w))
