-- Laws of specs/Decimal: how long a number gets in decimal, and its digits one by one. Assumes nothing.
use Rattle.std.specs.Prelude.{ℕ, zero, suc, ◌+◌, ◌-◌, ◌*◌, ◌/◌, ◌%◌, ◌^◌, ◌<◌, ◌≤◌, ◌≡◌, refl, List, [], ◌∷◌, ◌++◌, length, get_or}
use Rattle.std.proofs.Common.{◌∙◌, ap, div-lt_iff_lt-mul, mul_comm, arith, length-append, lt-ltb, le-ltb}
use Rattle.std.proofs.Math.Decide.{dec_lt}
use Rattle.std.proofs.Math.Nat.{pow-succ'}
use Rattle.listing.specs.Decimal.{decimal, digit, digits, said}

-- any k that is enough gives the same digits
digits_enough : (k j v : ℕ) → v < k → v < j → digits k v ≡ digits j v
unfolding digits
digits_enough zero j v h m = absurd (omega arith)
digits_enough (suc k) zero v h m = absurd (omega arith)
digits_enough (suc k) (suc j) v h m = go (dec_lt v 10) (λ g. digits_enough k j (v / 10) (omega arith) (omega arith))
  where
    go : Dec (v < 10) → (10 ≤ v → digits k (v / 10) ≡ digits j (v / 10)) → digits (suc k) v ≡ digits (suc j) v
    go (yes l) ih = rw (lt-ltb v 10 l)
    go (no l) ih = let g : 10 ≤ v = omega (arith, l) in rw (le-ltb v 10 g, ih g)

-- one digit, and one more
pub decimal_one : (v : ℕ) → v < 10 → decimal v ≡ digit v ∷ []
unfolding decimal digits
decimal_one v h = rw (lt-ltb v 10 h)

pub decimal_more : (v : ℕ) → 10 ≤ v → decimal v ≡ decimal (v / 10) ++ (digit (v % 10) ∷ [])
unfolding decimal digits
decimal_more v h = rw (le-ltb v 10 h, digits_enough v (suc (v / 10)) (v / 10) (omega arith) (omega arith))

pub decimal_longer : (v : ℕ) → 10 ≤ v → length (decimal v) ≡ length (decimal (v / 10)) + 1
decimal_longer v h = ap length (decimal_more v h) ∙ length-append (decimal (v / 10)) (digit (v % 10) ∷ [])

-- what holds of one digit, and of one more where it holds before, holds of every number
by_digits : (P : ℕ → Type 0) → ((v : ℕ) → v < 10 → P v) → ((v : ℕ) → 10 ≤ v → P (v / 10) → P v) → (v : ℕ) → P v
by_digits P one more v = below (suc v) v (omega arith)
  where
    step : (k v : ℕ) → v < suc k → ((u : ℕ) → u < k → P u) → Dec (v < 10) → P v
    step k v h ih (yes l) = one v l
    step k v h ih (no l) = let g : 10 ≤ v = omega (arith, l) in more v g (ih (v / 10) (omega arith))

    below : (k v : ℕ) → v < k → P v
    below zero v h = absurd (omega arith)
    below (suc k) v h = step k v h (below k) (dec_lt v 10)

said_last : (n d : ℕ) (ds : List ℕ) → said n (ds ++ (d ∷ [])) ≡ 10 * said n ds + (d - 48)
unfolding said
said_last n d [] = refl
said_last n d (c ∷ ds) = said_last (10 * n + (c - 48)) d ds

pub decimal_said : (v : ℕ) → said 0 (decimal v) ≡ v
unfolding said
decimal_said =
    by_digits (λ v. said 0 (decimal v) ≡ v) (λ v h. rw (decimal_one v h) (omega arith))
    (λ v h ih. rw (decimal_more v h, said_last 0 (digit (v % 10)) (decimal (v / 10)), ih) (omega arith))

-- no number but 0 begins with a zero
leads : (ds es : List ℕ) → 48 < get_or ds 0 0 → 48 < get_or (ds ++ es) 0 0
leads [] es h = absurd (omega arith)
leads (d ∷ ds) es h = h

pub decimal_leads : (v : ℕ) → 0 < v → 48 < get_or (decimal v) 0 0
decimal_leads =
    by_digits (λ v. 0 < v → 48 < get_or (decimal v) 0 0) (λ v h z. rw (decimal_one v h) (omega arith))
    (λ v h ih z. rw (decimal_more v h) (leads (decimal (v / 10)) (digit (v % 10) ∷ []) (ih (omega arith))))

-- a number below 10 ^ k has at most k digits; one of 32 bits at most ten
abbrev Short : ℕ → Type 0
Short v = (k : ℕ) → v < 10 ^ suc k → length (decimal v) ≤ suc k

pub decimal_length : (v k : ℕ) → v < 10 ^ suc k → length (decimal v) ≤ suc k
decimal_length = by_digits Short (λ v h k m. rw (decimal_one v h) (omega arith)) more
  where
    more : (v : ℕ) → 10 ≤ v → Short (v / 10) → Short v
    more v h ih zero m = absurd (omega arith)
    more v h ih (suc k) m =
        let q : v / 10 < 10 ^ suc k = (div-lt_iff_lt-mul {k = 10} {x = v} {y = 10 ^ suc k} (omega arith)).1 (rw (pow-succ' 10 (suc k), mul_comm 10 (10 ^ suc k)) at m) in
        omega (arith, decimal_longer v h, ih k q)

pub decimal_ten : (v : ℕ) → v < 4294967296 → length (decimal v) ≤ 10
decimal_ten v h = decimal_length v 9 (omega arith)
