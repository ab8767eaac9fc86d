-- The two words that carry most definitions of the layer: the part of xs at a, n long; and xs with ys laid over at a.
-- Files, buffers and tables are lists of bytes, and what a call does to them is said with these two. Laying is cut off at
-- the end of xs, so xs keeps its length whatever is laid.
use Rattle.std.specs.Prelude.{ℕ, zero, suc, List, [], ◌∷◌, take, drop}

module _ {A : Type 0} where
  -- the part of xs at a, n long; shorter where xs ends before
  unfoldable pub part : List A → ℕ → ℕ → List A
  part xs a n = take n (drop a xs)

  -- xs with ys laid over at a
  unfoldable pub lay : List A → ℕ → List A → List A
  lay [] a ys = []
  lay (x ∷ xs) zero [] = x ∷ xs
  lay (x ∷ xs) zero (y ∷ ys) = y ∷ lay xs zero ys
  lay (x ∷ xs) (suc a) ys = x ∷ lay xs a ys
