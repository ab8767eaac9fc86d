-- Numbers of up to four bytes as the code writes them: by std's words of four bytes. Assumes nothing.
use Rattle.std.specs.Prelude.{ℕ, zero, suc, ◌/◌, ◌%◌, ◌≤◌, ◌≡◌, refl, List, ◌∷◌, take}
use Rattle.std.specs.Int.{w32, to_le_bytes}
use Rattle.std.proofs.Common.{◌∙◌, ap, le_of_suc-le-suc, not-suc-le-zero, arith}
use Rattle.octets.specs.Number.{bytes}

-- what is written: the first w bytes of a word
bytes_front : (w n v : ℕ) → w ≤ n → take w (bytes n v) ≡ bytes w v
unfolding bytes
bytes_front zero n v h = refl
bytes_front (suc w) zero v h = absurd (not-suc-le-zero h)
bytes_front (suc w) (suc n) v h = ap (λ (r : List ℕ). v % 256 ∷ r) (bytes_front w n (v / 256) (le_of_suc-le-suc h))

whole : (v : ℕ) → to_le_bytes w32 v ≡ bytes 4 v
unfolding bytes
whole v =
    let e₁ : v / 65536 ≡ v / 256 / 256 = omega arith in
    let e₂ : v / 16777216 ≡ v / 256 / 256 / 256 = omega arith in
    rw (e₁, e₂)

pub word_written : (w v : ℕ) → w ≤ 4 → take w (to_le_bytes w32 v) ≡ bytes w v
word_written w v h = ap (take w) (whole v) ∙ bytes_front w 4 v h
