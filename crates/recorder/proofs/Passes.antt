-- Passes over slots and over the kind table: what the library says of them, in the terms of the rules. Assumes nothing.
use Prim.Native.Nat.{ℕ, zero, suc, ◌<◌, ◌≤◌}
use mathlib.Core.Path.{◌≡◌, refl, ◌∙◌, sym, ap}
use mathlib.Core.Bool.{Bool, ◌||◌, ◌&&◌, true}
use mathlib.Core.List.{List, [], ◌∷◌, ◌++◌}
use native.Mathlib.Omega.{arith}
use native.Mathlib.Numerals.{add-one}
use lib.Dec.{eqb, ltb}
use lib.ListN.{length, take, get_or, length-take}
use lib.Seq.{get_or-take}
use borrow.Author.Tests.{ltb-true, ne_eqb}
use Rattle.std.specs.List.{list_all, All}
use Rattle.std.proofs.lemmas.List.Elements.{All-from_get_or}
use Rattle.std.proofs.lemmas.List.Folds.{list_all_more}
use Rattle.lists.specs.Below.{from, below}
use Rattle.lists.specs.laws.Below.{all_from_lem}
use Rattle.lists.specs.laws.Bools.{or_drop, and_assoc, and_yes}
use Rattle.lists.specs.laws.Passes.{below_snoc}
use Rattle.lists.specs.Scans.{all_of}
use Rattle.slots.specs.Rules.{slot_rules}
use Rattle.slots.specs.laws.Sits.{slot_facts}
use Rattle.slots.specs.Table.{to_page, no_page, page_at, vacant}
use Rattle.slots.specs.declared.Slots.{Slots}
use Rattle.recorder.specs.inner.Seats.{SeatBelow, seat_fits}

all_snoc : {A : Type 0} (t : A → Bool) (l : List A) (x : A) → all_of t (l ++ (x ∷ [])) ≡ (all_of t l && t x)
unfolding all_of
all_snoc t [] x = and_yes (t x)
all_snoc t (y ∷ l) x = rw (all_snoc t l x) (and_assoc (t y) (all_of t l) (t x))

module _ {A : Type 0} (t : A → Bool) where
  pub all_listed : (l : List A) → list_all t l ≡ all_of t l
  unfolding all_of
  all_listed [] = refl
  all_listed (x ∷ xs) = ap (λ b. t x && b) (all_listed xs)

  -- the first n, by their numbers
  pub all_taken : (d : A) (l : List A) (n : ℕ) → n ≤ length l → list_all t (take n l) ≡ all_of (λ i. t (get_or l i d)) (below n)
  unfolding all_of from
  all_taken d l zero h = refl
  all_taken d l (suc n) h =
      ap (λ (k : ℕ). list_all t (take k l)) (sym (add-one n))
      ∙ list_all_more t l n d (omega arith)
      ∙ ap (λ b. b && t (get_or l n d)) (all_taken d l n (omega arith))
      ∙ sym (all_snoc (λ i. t (get_or l i d)) (below n) n)
      ∙ ap (all_of (λ i. t (get_or l i d))) (sym (below_snoc n) ∙ ap below (add-one n))

-- a slot table
module _ (t : Slots) (S : ℕ) where
  pub table_below : (end n : ℕ) → slot_rules S end t ≡ true → end ≤ n → All (SeatBelow n) (take S t.pages)
  unfolding vacant page_at
  table_below end n r k = All-from_get_or (SeatBelow n) (take S t.pages) (to_page 0) low
    where
      low : (i : ℕ) → i < length (take S t.pages) → SeatBelow n (get_or (take S t.pages) i (to_page 0))
      low i j ne =
          let m : i < S = omega (arith, rw (length-take S t.pages) at j) in
          let e = get_or-take S t.pages i (to_page 0) m in
          rw e
          (omega (arith, k, ltb-true (page_at t i) end (or_drop (vacant t i) (ltb (page_at t i) end) (all_from_lem (λ i. vacant t i || ltb (page_at t i) end) 0 S i (omega arith) (omega arith) (slot_facts S end t r).low) (ne_eqb (page_at t i) no_page (rw e at ne)))))

  pub table_fits : S ≤ length t.pages → (kinds : List ℕ) → list_all (seat_fits kinds) (take S t.pages) ≡ all_of (λ i. vacant t i || eqb (get_or kinds (page_at t i) 0) 0) (below S)
  unfolding vacant page_at
  table_fits h kinds = all_taken (seat_fits kinds) (to_page 0) t.pages S h
