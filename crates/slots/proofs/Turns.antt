-- What the searches of the table find, and what one turn of a loop does to each count and test of the order of use, from its k-th
-- page on. Assumes nothing.
use Prim.Native.Nat.{ℕ, zero, suc, ◌+◌, ◌<◌, ◌≤◌}
use mathlib.Core.Path.{◌≡◌, refl, ◌∙◌, sym, ap}
use mathlib.Core.List.{List, [], ◌∷◌, map}
use mathlib.Core.Bool.{Bool, true, false, ◌&&◌}
use mathlib.Core.Option.{Option, some, none}
use Rattle.std.specs.Prelude.{MatchBool, MatchOption, Some, None}
use Rattle.std.specs.Prelude as Std
use Rattle.std.specs.List.{AllWithin, HoldsAt}
use Rattle.lists.specs.Options.{to_option}
use native.Mathlib.Numerals.{add-one}
use native.Mathlib.Decide.{dec_lt, ℕ_discrete}
use native.Mathlib.Omega.{arith}
use lib.Dec.{eqb, ltb}
use lib.ListN.{length, take, drop, get_or, length-map, drop_of_length-le, get_or-map}
use lib.Seq.{drop-cons, get_or-take, length-take-le}
use borrow.Author.Tests.{eq-eqb, ne_eqb, lt-ltb, ltb-true}
use Rattle.lists.specs.Below.{from}
use Rattle.lists.specs.laws.Below.{every_from}
use Rattle.lists.specs.Bools.{if_then}
use Rattle.lists.specs.laws.Bools.{not_both, both, and_make, and_left, and_right, and_yes}
use Rattle.lists.specs.Scans.{all_of, first}
use Rattle.lists.specs.laws.Scans.{every_map, none_any, none_first}
use Rattle.units.specs.inner.Pages.{numbers_of}
use Rattle.units.specs.declared.Page.{Page}
use Rattle.slots.specs.Table.{to_page, page_at, slot_of, uses, times, or_else, victim_in, victim}
use Rattle.slots.specs.inner.Lent.{table_of}
use Rattle.slots.specs.declared.Slots.{Slots}

-- the first of the numbers from a on that passes: x, or nowhere
pub first_at : (t : ℕ → Bool) (a n x : ℕ) → a ≤ x → x < a + n → t x ≡ true → ((j : ℕ) → a ≤ j → j < x → t j ≡ false) → first t (from a n) ≡ some x
unfolding first from
first_at t a zero x h k q f = absurd (omega arith)
first_at t a (suc n) x h k q f = go (t a) refl (ℕ_discrete a x) (λ z. first_at t (suc a) n x (omega (arith, z)) (omega arith) q (λ j l m. f j (omega arith) m))
  where
    go : (b : Bool) → t a ≡ b → Dec (a ≡ x) → ((a ≡ x → ⊥) → first t (from (suc a) n) ≡ some x) → if_then b (some a) (first t (from (suc a) n)) ≡ some x
    go true p (yes z) ih = ap some z
    go true p (no z) ih = absurd (not_both (t a) p (f a (omega arith) (omega (arith, z))))
    go false p (yes z) ih = absurd (not_both (t a) (rw z q) p)
    go false p (no z) ih = ih z

pub first_nowhere : (t : ℕ → Bool) (a n : ℕ) → ((j : ℕ) → a ≤ j → j < a + n → t j ≡ false) → first t (from a n) ≡ none
first_nowhere t a n f = none_first t (from a n) (none_any t (from a n) (every_map (λ j k. f j k.0 k.1) (from a n) (every_from a n)))

-- the slot of page p, as a search of the first S pages finds it
module _ (S : ℕ) (t : Slots) (p : ℕ) (m : S ≤ length t.pages) where
  abbrev pub FoundBy : Std.Option ℕ → Type 0
  FoundBy r =
      MatchOption r (AllWithin (λ (q : Page). q.0 ≡ p → ⊥) (take S t.pages) 0 (length (take S t.pages)))
      (λ i. (i < length (take S t.pages)) × HoldsAt (λ (q : Page). q.0 ≡ p) (take S t.pages) i × AllWithin (λ (q : Page). q.0 ≡ p → ⊥) (take S t.pages) 0 i)

  other : (high : ℕ) → high ≤ S → AllWithin (λ (q : Page). q.0 ≡ p → ⊥) (take S t.pages) 0 high → (j : ℕ) → 0 ≤ j → j < high → eqb (page_at t j) p ≡ false
  unfolding page_at
  other high k f j l h =
      ne_eqb (page_at t j) p
      (λ e. f j (to_page 0) l h (ap (λ (q : Page). q.0) (get_or-take S t.pages j (to_page 0) (omega arith)) ∙ e))

  pub slot_found_by : (r : Std.Option ℕ) → FoundBy r → to_option r ≡ slot_of S t p
  unfolding slot_of page_at
  slot_found_by None f =
      let long : length (take S t.pages) ≡ S = length-take-le S t.pages m in
      sym (first_nowhere (λ i. eqb (page_at t i) p) 0 S (λ j l h. other S (omega arith) (rw long at f) j l (omega arith)))
  slot_found_by (Some i) f =
      let long : length (take S t.pages) ≡ S = length-take-le S t.pages m in
      let h : i < S = omega (arith, f.0) in
      let e : page_at t i ≡ p = ap (λ (q : Page). q.0) (sym (get_or-take S t.pages i (to_page 0) h)) ∙ f.1 (to_page 0) in
      sym (first_at (λ i. eqb (page_at t i) p) 0 S i (omega arith) (omega arith) (eq-eqb (page_at t i) p e) (other i (omega arith) f.2))

-- the numbers of some pages, from the k-th on
module _ (l : List Page) (k : ℕ) where
  numbers_next : k < length l → drop k (map (λ p. p.0) l) ≡ (get_or l k (to_page 0)).0 ∷ drop (k + 1) (map (λ p. p.0) l)
  numbers_next h =
      rw (add-one k)
      (drop-cons (map (λ (p : Page). p.0) l) k 0 (omega (arith, length-map l (λ (p : Page). p.0)))
      ∙ ap (λ (x : ℕ). x ∷ drop (suc k) (map (λ (p : Page). p.0) l)) (get_or-map (λ (p : Page). p.0) l k (to_page 0)))

  numbers_end : length l ≤ k → drop k (map (λ p. p.0) l) ≡ []
  numbers_end h = drop_of_length-le (map (λ (p : Page). p.0) l) {i = k} (omega (arith, length-map l (λ (p : Page). p.0)))

-- how often p stands among the first n: one turn, and the end
module _ (l : List Page) (n k p : ℕ) (m : n ≤ length l) where
  here : k < n → drop k (numbers_of n l) ≡ (get_or l k (to_page 0)).0 ∷ drop (k + 1) (numbers_of n l)
  here h = rw (← get_or-take n l k (to_page 0) h) (numbers_next (take n l) k (omega (arith, length-take-le n l m)))

  pub times_end : n ≤ k → times p (drop k (numbers_of n l)) ≡ 0
  unfolding times
  times_end h = rw (numbers_end (take n l) k (omega (arith, length-take-le n l m)))

  -- x counts page k
  pub times_turn : (x : ℕ) (b : Bool) → b ≡ (eqb (get_or l k (to_page 0)).0 p && ltb k n) → (b ≡ true → x ≡ 1) → (b ≡ false → x ≡ 0)
      → (x ≤ 1) × (times p (drop k (numbers_of n l)) ≡ x + times p (drop (k + 1) (numbers_of n l)))
  unfolding times
  times_turn x true e one _ =
      let t = both (eqb (get_or l k (to_page 0)).0 p) (ltb k n) (sym e) in
      (omega (arith, one refl), rw (here (ltb-true k n t.1), t.0) (omega (arith, one refl)))
  times_turn x false e _ nothing = (omega (arith, nothing refl), go (dec_lt k n))
    where
      go : Dec (k < n) → times p (drop k (numbers_of n l)) ≡ x + times p (drop (k + 1) (numbers_of n l))
      go (yes h) =
          let f : eqb (get_or l k (to_page 0)).0 p ≡ false = sym (e ∙ rw (lt-ltb k n h) (and_yes (eqb (get_or l k (to_page 0)).0 p))) in
          rw (here h, f) (omega (arith, nothing refl))
      go (no h) =
          rw (numbers_end (take n l) k (omega (arith, h, length-take-le n l m)), numbers_end (take n l) (k + 1) (omega (arith, h, length-take-le n l m)))
          (omega (arith, nothing refl))

-- a test of every number, as a search for one that fails it ends
module _ (test : ℕ → Bool) where
  abbrev pub ToldBy : List ℕ → Bool → Type 0
  ToldBy xs r = MatchBool r (AllWithin (λ x. test x ≡ true) xs 0 (length xs)) ((k : ℕ) × (k < length xs) × HoldsAt (λ x. test x ≡ false) xs k)

  pub all_told : (xs : List ℕ) (r : Bool) → ToldBy xs r → r ≡ all_of test xs
  unfolding all_of
  all_told [] true f = refl
  all_told [] false f = absurd (omega (arith, f.1))
  all_told (x ∷ xs) true f =
      sym (and_make (test x) (all_of test xs) (f 0 0 (omega arith) (omega arith)) (sym (all_told xs true (λ k d l h. f (suc k) d (omega arith) (omega arith)))))
  all_told (x ∷ xs) false (zero, h, f) = sym (and_left (test x) (all_of test xs) (f 0))
  all_told (x ∷ xs) false (suc k, h, f) = sym (and_right (test x) (all_of test xs) (sym (all_told xs false (k, omega arith, f))))

  -- of the numbers of some pages, from the k-th on
  module _ (l : List Page) (k : ℕ) where
    pub uses_end : length l ≤ k → all_of test (drop k (map (λ p. p.0) l)) ≡ true
    unfolding all_of
    uses_end h = rw (numbers_end l k h)

    pub uses_next : k < length l → all_of test (drop k (map (λ p. p.0) l)) ≡ (test (get_or l k (to_page 0)).0 && all_of test (drop (k + 1) (map (λ p. p.0) l)))
    unfolding all_of
    uses_next h = rw (numbers_next l k h)

-- the victim, from the k-th page in the order of use on
module _ (S : ℕ) (mask : List Bool) (t : Slots) where
  unfoldable pub victim_from : ℕ → Option ℕ
  victim_from k = victim_in S (λ i. get_or mask i false) t (drop k (uses t))

  pub victim_start : victim S (λ i. get_or mask i false) t ≡ victim_from 0
  unfolding victim victim_from
  victim_start = refl

  module _ (k : ℕ) where
    pub victim_end : length (take t.used t.order) ≤ k → victim_from k ≡ none
    unfolding victim_from victim_in uses
    victim_end h = rw (numbers_end (take t.used t.order) k h)

    -- by the slot of its page
    pub victim_next : k < length (take t.used t.order)
        → victim_from k ≡ or_else (slot_of S (table_of t.pages []) (get_or (take t.used t.order) k (to_page 0)).0) (λ i. get_or mask i false) (victim_from (k + 1))
    unfolding victim_from victim_in uses slot_of page_at
    victim_next h = rw (numbers_next (take t.used t.order) k h)
