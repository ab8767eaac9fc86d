-- Bytes laid one behind the other, as a run of stores does, and what they make: a header. Assumes nothing.
use Prim.Native.Nat.{ℕ, ◌+◌, ◌≤◌}
use mathlib.Core.Path.{◌≡◌, ◌∙◌, sym, ap}
use mathlib.Core.List.{List, ◌++◌}
use native.Mathlib.Omega.{arith}
use lib.ListN.{length, take}
use Rattle.octets.specs.Number.{bytes32}
use Rattle.octets.specs.Part.{part, lay}
use Rattle.octets.specs.laws.Part.{lay_next, part_lay_same}
use Rattle.sidefile.specs.declared.Header.{Header}
use Rattle.sidefile.specs.Encode.{checksum, header_front, header_bytes}
use Rattle.sidefile.specs.laws.Lengths.{length_header_front}
use Rattle.sidefile.specs.inner.Sealed.{first_bytes, second_bytes, both_halves, length_first}

pub next : (xs m s ys zs : List ℕ) (a k : ℕ) → m ≡ lay xs a ys → s ≡ lay m k zs → k ≡ a + length ys → s ≡ lay xs a (ys ++ zs)
next xs m s ys zs a k e f g = f ∙ ap (λ (m : List ℕ). lay m k zs) e ∙ lay_next xs a ys zs k g

-- a header: its halves, and the checksum of both
pub headed : (h : Header) (sum own : ℕ) (xs first second last : List ℕ) → 32 ≤ length xs
    → first ≡ lay xs 0 (first_bytes h)
    → second ≡ lay first 16 (second_bytes h sum)
    → own ≡ checksum (take 32 second)
    → last ≡ lay second 32 (bytes32 own)
    → last ≡ lay xs 0 (header_bytes h sum)
unfolding header_bytes part
headed h sum own xs first second last long e f g k =
    let front = header_front h sum in
    let l = length_header_front h sum in
    let both : second ≡ lay xs 0 front
    = next xs first second (first_bytes h) (second_bytes h sum) 0 16 e f (omega (arith, length_first h))
    ∙ ap (lay xs 0) (both_halves h sum) in
    let read : take 32 second ≡ front
    = ap (take 32) both
    ∙ ap (λ (n : ℕ). take n (lay xs 0 front)) (sym l)
    ∙ part_lay_same xs 0 front (omega arith) in
    let summed : own ≡ checksum front = g ∙ ap checksum read in
    next xs second last front (bytes32 own) 0 32 both k (omega arith)
    ∙ ap (λ (n : ℕ). lay xs 0 (front ++ bytes32 n)) summed
