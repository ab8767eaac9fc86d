-- Laws of specs/Number: a number written is the number read, and back; how much bytes can say. Assumes nothing.
use Rattle.std.specs.Prelude.{ℕ, zero, suc, ◌+◌, ◌-◌, ◌*◌, ◌/◌, ◌%◌, ◌^◌, ◌<◌, ◌≤◌, ◌≡◌, refl, List, [], ◌∷◌, ◌++◌, length, take, drop, get_or}
use Rattle.std.proofs.Common.{◌∙◌, sym, ap, le_of_suc-le-suc, not-suc-le-zero, div-lt_iff_lt-mul, mul_comm, add-one, arith, length-drop, drop-cons}
use Rattle.std.proofs.Math.Nat.{pow-succ'}
use Rattle.octets.specs.Part.{lay}
use Rattle.octets.specs.laws.Part.{drop_lay_in, drop_lay, lay_zero, take_lay}
use Rattle.octets.specs.Number.{Octets, bytes, le, le16, le32}

pub length_bytes : (w v : ℕ) → length (bytes w v) ≡ w
unfolding bytes
length_bytes zero v = refl
length_bytes (suc w) v = ap suc (length_bytes w (v / 256))

-- reading what was written
pub le_bytes : (w v : ℕ) (ys : List ℕ) → v < 256 ^ w → le w (bytes w v ++ ys) ≡ v
unfolding le bytes
le_bytes zero v ys h = omega arith
le_bytes (suc w) v ys h =
    let q : v / 256 < 256 ^ w = (div-lt_iff_lt-mul {k = 256} {x = v} {y = 256 ^ w} (omega arith)).1 (rw (pow-succ' 256 w, mul_comm 256 (256 ^ w)) at h) in
    rw (le_bytes w (v / 256) ys q) (omega arith)

-- writing what was read
pub bytes_le : (w : ℕ) (xs : List ℕ) → Octets xs → w ≤ length xs → bytes w (le w xs) ≡ take w xs
unfolding le bytes Octets
bytes_le zero xs o h = refl
bytes_le (suc w) [] o h = absurd (not-suc-le-zero h)
bytes_le (suc w) (x ∷ xs) o h =
    let b : x < 256 = o 0 in
    let r : (x + 256 * le w xs) % 256 ≡ x = omega arith in
    let q : (x + 256 * le w xs) / 256 ≡ le w xs = omega arith in
    rw (r, q, bytes_le w xs (λ i. o (suc i)) (le_of_suc-le-suc h))

-- a number of w bytes is below its bound
pub le_below : (w : ℕ) (xs : List ℕ) → Octets xs → le w xs < 256 ^ w
unfolding le Octets
le_below zero xs o = omega arith
le_below (suc w) [] o = rw (pow-succ' 256 w) (omega (arith, le_below w [] o))
le_below (suc w) (x ∷ xs) o = rw (pow-succ' 256 w) (omega (arith, le_below w xs (λ i. o (suc i)), o 0))

-- the written ones are bytes
pub octets_bytes : (w v : ℕ) → Octets (bytes w v)
unfolding bytes Octets
octets_bytes zero v i = omega arith
octets_bytes (suc w) v zero = omega arith
octets_bytes (suc w) v (suc i) = octets_bytes w (v / 256) i

-- a number looks at its own bytes only
pub le_take : (w n : ℕ) (xs : List ℕ) → w ≤ n → le w (take n xs) ≡ le w xs
unfolding le
le_take zero n xs h = refl
le_take (suc w) zero xs h = absurd (not-suc-le-zero h)
le_take (suc w) (suc n) [] h = refl
le_take (suc w) (suc n) (x ∷ xs) h = ap (λ (k : ℕ). x + 256 * k) (le_take w n xs (le_of_suc-le-suc h))

pub le_front : (w : ℕ) (xs ys : List ℕ) → w ≤ length xs → le w (xs ++ ys) ≡ le w xs
unfolding le
le_front zero xs ys h = refl
le_front (suc w) [] ys h = absurd (not-suc-le-zero h)
le_front (suc w) (x ∷ xs) ys h = ap (λ (k : ℕ). x + 256 * k) (le_front w xs ys (le_of_suc-le-suc h))

-- the number at a after other bytes were laid: the one laid, or the one that stood there
pub le_lay_same : (w : ℕ) (xs : List ℕ) (a v : ℕ) → a + w ≤ length xs → v < 256 ^ w → le w (drop a (lay xs a (bytes w v))) ≡ v
le_lay_same w xs a v h k =
    let l = length_bytes w v in
    let d : a ≡ a + 0 = omega arith in
    rw (drop_lay_in xs a 0 a (bytes w v) d, lay_zero (drop a xs) (bytes w v) (rw (l, length-drop a xs) (omega arith)))
    (le_bytes w v (drop (length (bytes w v)) (drop a xs)) k)

pub le_lay_after : (w : ℕ) (xs : List ℕ) (a : ℕ) (ys : List ℕ) (b : ℕ) → a + length ys ≤ b → le w (drop b (lay xs a ys)) ≡ le w (drop b xs)
le_lay_after w xs a ys b h = ap (le w) (drop_lay xs a ys b h)

pub le_lay_before : (w : ℕ) (xs : List ℕ) (a : ℕ) (ys : List ℕ) (b : ℕ) → b + w ≤ a → le w (drop b (lay xs a ys)) ≡ le w (drop b xs)
le_lay_before w xs a ys b h =
    let e : a ≡ b + (a - b) = omega arith in
    ap (le w) (drop_lay_in xs b (a - b) a ys e)
    ∙ sym (le_take w w (lay (drop b xs) (a - b) ys) (omega arith))
    ∙ ap (le w) (take_lay (drop b xs) (a - b) ys w (omega arith))
    ∙ le_take w w (drop b xs) (omega arith)

-- one byte of the number at a, and the number behind it
pub le_step : (w : ℕ) (xs : List ℕ) (a b : ℕ) → b ≡ a + 1 → a < length xs → le (suc w) (drop a xs) ≡ get_or xs a 0 + 256 * le w (drop b xs)
unfolding le
le_step w xs a b e h = rw (drop-cons xs a 0 h, e, add-one a)

pub le_none : (xs : List ℕ) → le 0 xs ≡ 0
unfolding le
le_none xs = refl

-- the numbers of two and of four bytes, byte by byte
pub le_two : (xs : List ℕ) (a : ℕ) → a + 2 ≤ length xs → le16 xs a ≡ get_or xs a 0 + get_or xs (a + 1) 0 * 256
le_two xs a h =
    omega (
      arith,
      le_step 1 xs a (a + 1) refl (omega arith),
      le_step 0 xs (a + 1) (a + 2) (omega arith) (omega arith),
      le_none (drop (a + 2) xs),
    )

pub le_four : (xs : List ℕ) (a : ℕ) → a + 4 ≤ length xs
    → le32 xs a ≡ get_or xs a 0 + get_or xs (a + 1) 0 * 256 + get_or xs (a + 2) 0 * 65536 + get_or xs (a + 3) 0 * 16777216
le_four xs a h =
    omega (
      arith,
      le_step 3 xs a (a + 1) refl (omega arith),
      le_step 2 xs (a + 1) (a + 2) (omega arith) (omega arith),
      le_step 1 xs (a + 2) (a + 3) (omega arith) (omega arith),
      le_step 0 xs (a + 3) (a + 4) (omega arith) (omega arith),
      le_none (drop (a + 4) xs),
    )
