-- `blocks`, one turn of the code's loop at a time.
use Rattle.std.proofs.Common.{◌≡◌, ℕ, suc, ◌-◌, ◌/◌, ◌<◌, ◌≤◌, List, [], ◌∷◌, length, take, drop, refl, arith, length-drop, take_all}
use Rattle.lookup3.specs.declared.Words.{Words}
use Rattle.lookup3.specs.Hash.{add_block, mix, final, begin, blocks, hashlittle}

pub none : (xs : List ℕ) (start : ℕ) → length xs ≡ 0 → (begin (length xs) start).c ≡ hashlittle xs start
unfolding hashlittle
none [] start e = refl
none (x ∷ xs) start e = absurd (omega arith)

-- what the loop keeps: some bytes are left, and from the words and those bytes the hash is r
abbrev pub Gives : Words → List ℕ → ℕ → Type 0
Gives w xs r = (0 < length xs) × (blocks ((length xs - 1) / 12) w xs ≡ r)

pub first : (xs : List ℕ) (start : ℕ) → 0 < length xs → Gives (begin (length xs) start) xs (hashlittle xs start)
unfolding hashlittle
first [] start h = absurd (omega arith)
first (x ∷ xs) start h =
    let q : (suc (length xs) - 1) / 12 ≡ length xs / 12 = omega arith in
    (h, rw q)

-- `take .. (drop 12 xs)` is `&s[12..]`, as the code's rule has it
pub turn : (xs : List ℕ) (w v : Words) (r : ℕ) → 12 < length xs → v ≡ mix (add_block xs w) → Gives w xs r
    → Gives v (take (length xs - 12) (drop 12 xs)) r
unfolding blocks
turn xs w v r h e g =
    let l = length-drop 12 xs in
    let part : take (length xs - 12) (drop 12 xs) ≡ drop 12 xs = take_all (length xs - 12) (drop 12 xs) (omega arith) in
    let q : (length xs - 1) / 12 ≡ suc ((length (drop 12 xs) - 1) / 12) = omega arith in
    rw (part, e) (omega arith, rw q at g.1)

pub last : (xs : List ℕ) (w : Words) → length xs ≤ 12 → blocks ((length xs - 1) / 12) w xs ≡ final (add_block xs w)
unfolding blocks
last xs w h =
    let q : (length xs - 1) / 12 ≡ 0 = omega arith in
    rw q
