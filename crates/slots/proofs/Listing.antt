-- The order of use while a page comes last in it and another makes way: what one turn, from the end on, does to it.
-- Assumes nothing.
use Prim.Native.Nat.{ℕ, suc, ◌+◌, ◌<◌}
use mathlib.Core.Path.{◌≡◌, refl, ◌∙◌, sym, ap}
use mathlib.Core.List.{List, [], ◌∷◌, ◌++◌, map, append_assoc}
use mathlib.Core.Bool.{Bool, true, false}
use native.Mathlib.Numerals.{add-one}
use native.Mathlib.Omega.{arith}
use lib.Dec.{eqb}
use lib.ListN.{length, take, drop, get_or, set, length-set}
use lib.Seq.{take-suc, drop-cons, set_split, take-set-le, drop-set-lt, get_or-set_same}
use borrow.Author.Tests.{eq-eqb, ne_eqb}
use Rattle.lists.specs.Bools.{if_then}
use Rattle.lists.specs.laws.Maps.{map_append}
use Rattle.units.specs.inner.Pages.{numbers_of}
use Rattle.units.specs.declared.Page.{Page}
use Rattle.slots.specs.Table.{to_page, without, times}
use Rattle.slots.specs.laws.Order.{times_here, times_next, times_last}

-- the numbers of pages, and pages again
pub pages_back : (l : List Page) → map to_page (map (λ p. p.0) l) ≡ l
pages_back [] = refl
pages_back (p ∷ ps) = ap (λ (l : List Page). p ∷ l) (pages_back ps)

map_last : {A B : Type 0} (f : A → B) (l : List A) (x : A) (r : List B) → map f (l ++ (x ∷ [])) ++ r ≡ map f l ++ (f x ∷ r)
map_last {B = B} f l x r = ap (λ (ys : List B). ys ++ r) (map_append f l (x ∷ [])) ∙ append_assoc (map f l) (f x ∷ []) r

-- x is taken out of a list with one element more at the end
without_last : (x y : ℕ) (l : List ℕ) → (y ≡ x → ⊥) → without x (l ++ (y ∷ [])) ≡ without x l ++ (y ∷ [])
unfolding without
without_last x y [] n = rw (ne_eqb y x n)
without_last x y (z ∷ zs) n = go (eqb z x) (without_last x y zs n)
  where
    go : (b : Bool) → without x (zs ++ (y ∷ [])) ≡ without x zs ++ (y ∷ [])
        → if_then b (zs ++ (y ∷ [])) (z ∷ without x (zs ++ (y ∷ []))) ≡ if_then b zs (z ∷ without x zs) ++ (y ∷ [])
    go true ih = refl
    go false ih = ap (λ (l : List ℕ). z ∷ l) ih

without_only : (x : ℕ) (l : List ℕ) → times x l ≡ 0 → without x (l ++ (x ∷ [])) ≡ l
unfolding without times
without_only x [] h = rw (eq-eqb x x refl)
without_only x (z ∷ zs) h = go (eqb z x) h (without_only x zs)
  where
    go : (b : Bool) → if_then b (suc (times x zs)) (times x zs) ≡ 0 → (times x zs ≡ 0 → without x (zs ++ (x ∷ [])) ≡ zs)
        → if_then b (zs ++ (x ∷ [])) (z ∷ without x (zs ++ (x ∷ []))) ≡ z ∷ zs
    go true h ih = absurd (omega arith)
    go false h ih = ap (λ (l : List ℕ). z ∷ l) (ih h)

-- the page of a load comes last
pub set_last : (n p : ℕ) (o : List Page) → n < length o → set o n (to_page p) ≡ map to_page (numbers_of n o ++ (p ∷ [])) ++ drop (n + 1) o
set_last n p o h = sym (map_last to_page (numbers_of n o) p (drop (n + 1) o) ∙ rw (pages_back (take n o), add-one n, set_split o n (to_page p) h))

-- x is still to be taken out of the first i pages, and carry to be put behind them
unfoldable pub moving : ℕ → ℕ → Page → List Page → List Page
moving x i carry o = map to_page (without x (numbers_of i o)) ++ (carry ∷ drop i o)

pub moving_start : (x p i : ℕ) (o : List Page) → map to_page (without x (numbers_of i o) ++ (p ∷ [])) ++ drop i o ≡ moving x i (to_page p) o
unfolding moving
moving_start x p i o = map_last to_page (without x (numbers_of i o)) p (drop i o)

module _ (x i j : ℕ) (o : List Page) (e : i ≡ suc j) (h : j < length o) where
  pub last_of : numbers_of i o ≡ numbers_of j o ++ ((get_or o j (to_page 0)).0 ∷ [])
  last_of = rw (e, take-suc o j (to_page 0) h) (map_append (λ (p : Page). p.0) (take j o) (get_or o j (to_page 0) ∷ []))

  times_stop : (get_or o j (to_page 0)).0 ≡ x → times x (numbers_of i o) ≡ suc (times x (numbers_of j o))
  times_stop q = rw (last_of, q, times_last) (times_here x (numbers_of j o))

  module _ (carry : Page) where
    kept : drop j (set o j carry) ≡ carry ∷ drop i o
    kept =
        drop-cons (set o j carry) j (to_page 0) (rw (length-set o j carry) h)
        ∙ rw (get_or-set_same o j carry (to_page 0) h, drop-set-lt (suc j) o j carry (omega arith), e)

    pub moving_stop : (get_or o j (to_page 0)).0 ≡ x → times x (numbers_of i o) ≡ 1 → moving x i carry o ≡ set o j carry
    unfolding moving
    moving_stop q m =
        let z : times x (numbers_of j o) ≡ 0 = omega (arith, times_stop q) in
        rw (last_of, q, without_only x (numbers_of j o) z, pages_back (take j o), e, set_split o j carry h)

    module _ (n : (get_or o j (to_page 0)).0 ≡ x → ⊥) where
      pub times_step : times x (numbers_of i o) ≡ times x (numbers_of j (set o j carry))
      times_step =
          rw (take-set-le j o j carry (omega arith), last_of, times_last)
          (times_next x (get_or o j (to_page 0)).0 (numbers_of j o) n)

      pub moving_step : moving x i carry o ≡ moving x j (get_or o j (to_page 0)) (set o j carry)
      unfolding moving
      moving_step =
          rw (last_of, without_last x (get_or o j (to_page 0)).0 (numbers_of j o) n, map_last to_page, take-set-le j o j carry (omega arith), kept)
