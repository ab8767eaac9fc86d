-- Numbers in a row: one more of them, one of them set, and what one turn of a pass over them does. Assumes nothing.
use Rattle.std.specs.Prelude.{ℕ, zero, suc, ◌+◌, ◌-◌, ◌<◌, ◌≤◌, ◌≡◌, refl, Bool, true, false, List, [], ◌∷◌, ◌++◌, map, eqb, set}
use Rattle.std.proofs.Common.{◌∙◌, sym, ap, add-one, eq-eqb, ne_eqb}
use native.Mathlib.Omega.{arith}
use Rattle.lists.specs.Below.{from, below}
use Rattle.lists.specs.Bools.{if_then}
use Rattle.lists.specs.laws.Bools.{or_no, or_right}
use Rattle.lists.specs.laws.Maps.{any_snoc}
use Rattle.lists.specs.Scans.{any_of, all_of}

from_snoc : (a n : ℕ) → from a (suc n) ≡ from a n ++ ((a + n) ∷ [])
unfolding from
from_snoc a zero = let e : a ≡ a + 0 = omega arith in ap (λ (k : ℕ). k ∷ []) e
from_snoc a (suc n) =
    let e : suc a + n ≡ a + suc n = omega arith in
    ap (λ (l : List ℕ). a ∷ l) (from_snoc (suc a) n ∙ ap (λ (k : ℕ). from (suc a) n ++ (k ∷ [])) e)

pub below_snoc : (n : ℕ) → below (n + 1) ≡ below n ++ (n ∷ [])
below_snoc n = let e : 0 + n ≡ n = omega arith in rw (add-one n) (from_snoc 0 n ∙ ap (λ (k : ℕ). below n ++ (k ∷ [])) e)

pub set_from : {B : Type 0} (f : ℕ → B) (v : B) (a n k p : ℕ) → k < n → p ≡ a + k → set (map f (from a n)) k v ≡ map (λ q. if_then (eqb p q) v (f q)) (from a n)
unfolding from
set_from f v a zero k p h e = absurd (omega arith)
set_from {B} f v a (suc n) zero p h e = rw (eq-eqb p a (omega arith)) (ap (λ (l : List B). v ∷ l) (same (suc a) n (omega arith)))
  where
    same : (b m : ℕ) → p < b → map f (from b m) ≡ map (λ q. if_then (eqb p q) v (f q)) (from b m)
    same b zero h = refl
    same b (suc m) h = rw (ne_eqb p b (λ z. omega arith)) (ap (λ (l : List B). f b ∷ l) (same (suc b) m (omega arith)))
set_from {B} f v a (suc n) (suc k) p h e =
    rw (ne_eqb p a (λ z. omega arith)) (ap (λ (l : List B). f a ∷ l) (set_from f v (suc a) n k p (omega arith) (omega arith)))

-- those below n from i on: one and the others, or none
pub from_here : (n i : ℕ) → i < n → from i (n - i) ≡ i ∷ from (i + 1) (n - (i + 1))
unfolding from
from_here n i h = let e : n - i ≡ suc (n - (i + 1)) = omega arith in rw (e, add-one i)

pub from_end : (n i : ℕ) → n ≤ i → from i (n - i) ≡ []
unfolding from
from_end n i h = let e : n - i ≡ 0 = omega arith in rw e

-- a search that goes to the end
module _ (t : ℕ → Bool) (i : ℕ) where
  pub any_more : t i ≡ true → true ≡ any_of t (below (i + 1))
  any_more e = sym (ap (any_of t) (below_snoc i) ∙ any_snoc t (below i) i ∙ or_right (any_of t (below i)) (t i) e)

  pub any_same : t i ≡ false → any_of t (below i) ≡ any_of t (below (i + 1))
  any_same e = sym (ap (any_of t) (below_snoc i) ∙ any_snoc t (below i) i ∙ rw e (or_no (any_of t (below i))))

-- a test of all that ends at the first that fails
module _ (t : ℕ → Bool) (m : ℕ) where
  -- from q on
  unfoldable pub all_from : ℕ → Bool
  all_from q = all_of t (from q (m - q))

  pub all_start : all_of t (below m) ≡ all_from 0
  unfolding all_from
  all_start = let e : m - 0 ≡ m = omega arith in rw e

  module _ (q : ℕ) where
    pub all_end : m ≤ q → all_from q ≡ true
    unfolding all_from all_of
    all_end h = rw (from_end m q h)

    module _ (h : q < m) where
      pub all_stop : t q ≡ false → all_from q ≡ false
      unfolding all_from all_of
      all_stop k = rw (from_here m q h, k)

      pub all_turn : t q ≡ true → all_from q ≡ all_from (q + 1)
      unfolding all_from all_of
      all_turn k = rw (from_here m q h, k)
