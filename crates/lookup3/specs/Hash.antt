-- The checksum: Bob Jenkins' lookup3, `hashlittle`, over a list of bytes. His published file decides (lookup3.c,
-- May 2006), so this file is written to be read beside it: his names, his lines in the comments, his constants.
-- Where the key is aligned he reads it by words, else by bytes, with one result; this is the reading by bytes.
use Rattle.std.specs.Prelude.{ℕ, zero, suc, ◌+◌, ◌-◌, ◌*◌, ◌/◌, ◌%◌, ◌^◌, List, [], ◌∷◌, length, drop, bit_or, bit_xor, slice_index}
use Rattle.lookup3.specs.declared.Words.{Words}

-- x + y and x - y of uint32_t
abbrev pub add : ℕ → ℕ → ℕ
add x y = (x + y) % 2 ^ 32

abbrev pub sub : ℕ → ℕ → ℕ
sub x y = (x + (2 ^ 32 - y)) % 2 ^ 32

-- rot(x,k): (x<<k) | (x>>(32-k))
abbrev pub rot : ℕ → ℕ → ℕ
rot x k = bit_or (x * 2 ^ k % 2 ^ 32) (x / 2 ^ (32 - k))

-- x -= y; x ^= rot(y,k);
unfoldable pub sub_xor : ℕ → ℕ → ℕ → ℕ
sub_xor x y k = bit_xor (sub x y) (rot y k)

-- x ^= y; x -= rot(y,k);
unfoldable pub xor_sub : ℕ → ℕ → ℕ → ℕ
xor_sub x y k = sub (bit_xor x y) (rot y k)

-- three lines of mix(a,b,c), at the rotations i, j, k:
--     a -= c; a ^= rot(c,i); c += b;
--     b -= a; b ^= rot(a,j); a += c;
--     c -= b; c ^= rot(b,k); b += a;
unfoldable pub half : Words → ℕ → ℕ → ℕ → Words
half w i j k =
    let record { a = a; b = b; c = c } = w in
    let a = sub_xor a c i in
    let c = add c b in
    let b = sub_xor b a j in
    let a = add a c in
    let c = sub_xor c b k in
    let b = add b a in
    record { a = a; b = b; c = c }

-- mix(a,b,c): the three lines twice
unfoldable pub mix : Words → Words
mix w = half (half w 4 6 8) 16 19 4

-- final(a,b,c): seven lines, of which only c is used after the last
unfoldable pub final : Words → ℕ
final w =
    let record { a = a; b = b; c = c } = w in
    let c = xor_sub c b 14 in
    let a = xor_sub a c 11 in
    let b = xor_sub b a 25 in
    let c = xor_sub c b 16 in
    let a = xor_sub a c 4 in
    let b = xor_sub b a 14 in
    xor_sub c b 24

-- k[i] + (k[i+1]<<8) + (k[i+2]<<16) + (k[i+3]<<24), with zeros past the end of the key
abbrev pub word : List ℕ → ℕ → ℕ
word k i = slice_index k i + slice_index k (i + 1) * 2 ^ 8 + slice_index k (i + 2) * 2 ^ 16 + slice_index k (i + 3) * 2 ^ 24

-- a, b and c each take up a word of the next twelve bytes: in the loop all twelve are there,
-- in the switch after it (case 12 to case 1) the missing ones add nothing
unfoldable pub add_block : List ℕ → Words → Words
add_block k w = record { a = add w.a (word k 0); b = add w.b (word k 4); c = add w.c (word k 8) }

-- a = b = c = 0xdeadbeef + ((uint32_t)length) + initval;
unfoldable pub begin : ℕ → ℕ → Words
begin n start = let v = add (add 0xdeadbeef (n % 2 ^ 32)) start in record { a = v; b = v; c = v }

-- the loop, for a number of blocks that is known before, and then the last bytes and final
unfoldable pub blocks : ℕ → Words → List ℕ → ℕ
blocks zero w k = final (add_block k w)
blocks (suc n) w k = blocks n (mix (add_block k w)) (drop 12 k)

-- `while (length > 12)` leaves 1 to 12 of the bytes: for length n + 1 it has n / 12 turns.
-- case 0 of the switch, `return c`, is met by the empty key alone
unfoldable pub hashlittle : List ℕ → ℕ → ℕ
hashlittle [] start = (begin 0 start).c
hashlittle (x ∷ xs) start = blocks (length xs / 12) (begin (suc (length xs)) start) (x ∷ xs)
