-- What is kept of an input that is laid into a buffer piece behind piece, and cut off at its end: the input's first bytes.
-- Assumes nothing.
use Prim.Native.Nat.{ℕ, zero, suc, ◌-◌, ◌≤◌, min}
use Rattle.std.specs.Prelude.{◌≡◌, length, take}
use Rattle.std.proofs.Math.Path.{refl, ap}
use mathlib.Core.List.{List, [], ◌∷◌}
use Rattle.std.proofs.Common.{arith}
use Rattle.std.proofs.Math.Seq.{take-nil}
use Rattle.octets.specs.Part.{lay}

module _ {A : Type 0} where
  -- nothing is laid behind the end
  pub lay_past : (xs : List A) (a : ℕ) (ys : List A) → length xs ≤ a → lay xs a ys ≡ xs
  unfolding lay
  lay_past [] a ys h = refl
  lay_past (x ∷ xs) zero ys h = absurd (omega arith)
  lay_past (x ∷ xs) (suc a) ys h = ap (λ (r : List A). x ∷ r) (lay_past xs a ys (omega arith))

  -- what there is room for is all that is laid
  pub lay_room : (xs : List A) (a : ℕ) (ys : List A) (n : ℕ) → n ≡ min (length ys) (length xs - a) → lay xs a (take n ys) ≡ lay xs a ys
  unfolding lay
  lay_room [] a ys n e = refl
  lay_room (x ∷ xs) zero [] n e = rw (take-nil {A = A} n)
  lay_room (x ∷ xs) zero (y ∷ ys) zero e = absurd (omega arith)
  lay_room (x ∷ xs) zero (y ∷ ys) (suc n) e = ap (λ (r : List A). y ∷ r) (lay_room xs zero ys n (omega arith))
  lay_room (x ∷ xs) (suc a) ys n e = ap (λ (r : List A). x ∷ r) (lay_room xs a ys n (omega arith))

  -- an input laid from the front: its first bytes, as many as there are and as there is room for
  pub lay_front : (xs ys : List A) (n : ℕ) → n ≡ min (length ys) (length xs) → take n (lay xs 0 ys) ≡ take (length xs) ys
  unfolding lay
  lay_front [] ys n e = take-nil {A = A} n
  lay_front (x ∷ xs) [] zero e = refl
  lay_front (x ∷ xs) [] (suc n) e = absurd (omega arith)
  lay_front (x ∷ xs) (y ∷ ys) zero e = absurd (omega arith)
  lay_front (x ∷ xs) (y ∷ ys) (suc n) e = ap (λ (r : List A). y ∷ r) (lay_front xs ys n (omega arith))
