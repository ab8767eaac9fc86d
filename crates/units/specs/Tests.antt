-- The tests of a call in their order, each with the number that it refuses by (document 01, "Numbers of refusal").
-- A call is a list of such tests and what it does if all of them pass.
use Rattle.std.specs.Prelude.{ℕ, Bool, true, ◌&&◌, List, [], ◌∷◌, ltb}
use Rattle.lists.specs.Bools.{if_then}

-- a refusal's number, and whether the test passes
abbrev pub Test : Type 0
Test = ℕ × Bool

-- every test passes
unfoldable pub passes : List Test → Bool
passes [] = true
passes (t ∷ ts) = t.1 && passes ts

-- the number of the first test that fails, 0 if none does
unfoldable pub verdict : List Test → ℕ
verdict [] = 0
verdict (t ∷ ts) = if_then t.1 (verdict ts) t.0

-- r, unless a test fails: then what is answered with the number of the first that does
unfoldable pub tested : {R : Type 0} → List Test → (ℕ → R) → R → R
tested [] refused r = r
tested (t ∷ ts) refused r = if_then t.1 (tested ts refused r) (refused t.0)

-- a test with a number of its own: 0 is an accepted call
abbrev pub numbered : Test → Bool
numbered t = ltb 0 t.0
