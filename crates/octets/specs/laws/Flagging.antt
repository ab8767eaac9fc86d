-- Laws of flags in bytes: how many there are, that zeros are no flags, and which bit of which byte flag i is, read and set.
-- Assumes nothing.
use Prim.Native.Nat.{ℕ, zero, suc, ◌+◌, ◌-◌, ◌*◌, ◌/◌, ◌%◌, ◌^◌, ◌<◌}
use Rattle.std.specs.Prelude.{◌≡◌, eqb, length, get_or, set, replicate}
use Rattle.std.proofs.Math.Path.{refl}
use Rattle.std.proofs.Common.{◌∙◌, sym, ap, le_of_suc-le-suc, not-suc-le-zero, pow-suc, mul_comm, div-one, length-append}
use Rattle.std.proofs.Math.Bool.{true, false}
use mathlib.Core.List.{List, [], ◌∷◌}
use Rattle.std.proofs.Math.Nat.{div-div-eq-div-mul, zero-div}
use native.Mathlib.Omega.{arith}
use Rattle.std.specs.Int.Bits.{bit_or, or_step, or_zero_r}
use Rattle.std.proofs.lemmas.List.{replicate-append-replicate, get_or-append_right, set-append_left, set-append_right}
use Rattle.std.proofs.Math.ListN.{get_or-append}
use Rattle.octets.specs.inner.Flags.{bits, flags}

-- how many
length_bits : (n b : ℕ) → length (bits n b) ≡ n
unfolding bits
length_bits zero b = refl
length_bits (suc n) b = ap suc (length_bits n (b / 2))

pub length_flags : (s : List ℕ) → length (flags s) ≡ 8 * length s
unfolding flags
length_flags [] = refl
length_flags (b ∷ s) = omega (arith, length-append (bits 8 b) (flags s), length_bits 8 b, length_flags s)

-- none is set in zeros
pub flags_clear : (n : ℕ) → flags (replicate n 0) ≡ replicate (8 * n) false
unfolding flags bits
flags_clear zero = refl
flags_clear (suc n) =
    let e : 8 * suc n ≡ 8 + 8 * n = omega arith in
    rw (flags_clear n, e) (replicate-append-replicate 8 (8 * n) false)

-- a bit, read and set
bit_read : (n k b : ℕ) → k < n → get_or (bits n b) k false ≡ eqb (b / 2 ^ k % 2) 1
unfolding bits
bit_read zero k b h = absurd (not-suc-le-zero h)
bit_read (suc n) zero b h = rw (div-one b)
bit_read (suc n) (suc k) b h =
    bit_read n k (b / 2) (le_of_suc-le-suc h) ∙ rw (div-div-eq-div-mul b 2 (2 ^ k), mul_comm 2 (2 ^ k), ← pow-suc 2 k)

-- the lowest bit of b set, and a higher one
or_low : (b : ℕ) → bit_or b 1 ≡ b / 2 * 2 + 1
or_low b = or_step b 1 ∙ rw (or_zero_r (b / 2)) (omega arith)

or_high : (k b : ℕ) → bit_or b (2 ^ suc k) ≡ bit_or (b / 2) (2 ^ k) * 2 + b % 2
or_high k b =
    let half : 2 ^ suc k / 2 ≡ 2 ^ k = omega (arith, pow-suc 2 k) in
    let even : 2 ^ suc k % 2 ≡ 0 = omega (arith, pow-suc 2 k) in
    or_step b (2 ^ suc k) ∙ rw (half, even) (omega arith)

bit_set : (n k b : ℕ) → k < n → bits n (bit_or b (2 ^ k)) ≡ set (bits n b) k true
unfolding bits
bit_set zero k b h = absurd (not-suc-le-zero h)
bit_set (suc n) zero b h =
    let r : bit_or b 1 % 2 ≡ 1 = omega (arith, or_low b) in
    let q : bit_or b 1 / 2 ≡ b / 2 = omega (arith, or_low b) in
    rw (r, q)
bit_set (suc n) (suc k) b h =
    let r : bit_or b (2 ^ suc k) % 2 ≡ b % 2 = omega (arith, or_high k b) in
    let q : bit_or b (2 ^ suc k) / 2 ≡ bit_or (b / 2) (2 ^ k) = omega (arith, or_high k b) in
    rw (r, q, bit_set n k (b / 2) (le_of_suc-le-suc h))

-- flag 8 * q + k is bit k of byte q
module _ (k : ℕ) (h : k < 8) where
  pub flag_read : (s : List ℕ) (q i : ℕ) → i ≡ 8 * q + k → get_or (flags s) i false ≡ eqb (get_or s q 0 / 2 ^ k % 2) 1
  unfolding flags
  flag_read [] q i e = rw (zero-div (2 ^ k))
  flag_read (b ∷ s) zero i e =
      let z : i ≡ k = omega arith in
      rw z (get_or-append (bits 8 b) (flags s) false k (omega (arith, length_bits 8 b)) ∙ bit_read 8 k b h)
  flag_read (b ∷ s) (suc q) i e =
      get_or-append_right (bits 8 b) (flags s) 8 i false (length_bits 8 b) (omega arith) ∙ flag_read s q (i - 8) (omega arith)

  pub flag_set : (s : List ℕ) (q i : ℕ) → i ≡ 8 * q + k → flags (set s q (bit_or (get_or s q 0) (2 ^ k))) ≡ set (flags s) i true
  unfolding flags
  flag_set [] q i e = refl
  flag_set (b ∷ s) zero i e =
      let z : i ≡ k = omega arith in
      rw (z, bit_set 8 k b h) (sym (set-append_left (bits 8 b) (flags s) k true (omega (arith, length_bits 8 b))))
  flag_set (b ∷ s) (suc q) i e =
      rw (flag_set s q (i - 8) (omega arith)) (sym (set-append_right (bits 8 b) (flags s) 8 i true (length_bits 8 b) (omega arith)))
