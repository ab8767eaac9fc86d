-- Laws of the checksum that callers cite, and the published test vectors, by computing.
use Rattle.std.proofs.Common.{◌≡◌, ℕ, zero, suc, ◌%◌, ◌^◌, ◌<◌, List, [], ◌∷◌, drop, refl, arith}
use Rattle.lookup3.specs.declared.Words.{Words}
use Rattle.lookup3.specs.Hash.{sub_xor, xor_sub, half, mix, final, add_block, begin, blocks, hashlittle}

-- The hash is a word of 32 bits, whatever the list and the start are.
wraps : (x : ℕ) → x % 2 ^ 32 < 4294967296
wraps x = omega arith

blocks_below : (n : ℕ) (w : Words) (k : List ℕ) → blocks n w k < 4294967296
unfolding blocks final xor_sub
blocks_below zero w k = wraps _
blocks_below (suc n) w k = blocks_below n (mix (add_block k w)) (drop 12 k)

pub below : (xs : List ℕ) (start : ℕ) → hashlittle xs start < 4294967296
unfolding hashlittle begin
below [] start = wraps _
below (x ∷ xs) start = blocks_below _ _ _

-- The published vectors: the comments of driver5 in lookup3.c.
pub empty : hashlittle [] 0 ≡ 0xdeadbeef
unfolding hashlittle begin
empty = refl

pub empty_started : hashlittle [] 0xdeadbeef ≡ 0xbd5b7dde
unfolding hashlittle begin
empty_started = refl

-- "Four score and seven years ago"
abbrev pub four_score : List ℕ
four_score =
    70 ∷ 111 ∷ 117 ∷ 114 ∷ 32 ∷ 115 ∷ 99 ∷ 111 ∷ 114 ∷ 101 ∷ 32 ∷ 97 ∷ 110 ∷ 100 ∷ 32
    ∷ 115 ∷ 101 ∷ 118 ∷ 101 ∷ 110 ∷ 32 ∷ 121 ∷ 101 ∷ 97 ∷ 114 ∷ 115 ∷ 32 ∷ 97 ∷ 103 ∷ 111 ∷ []

pub four_score_lem : hashlittle four_score 0 ≡ 0x17770551
unfolding hashlittle begin blocks add_block mix half final sub_xor xor_sub
four_score_lem = refl

pub four_score_started : hashlittle four_score 1 ≡ 0xcd628161
unfolding hashlittle begin blocks add_block mix half final sub_xor xor_sub
four_score_started = refl
