-- Places that may be given, found one after the other: what one turn of `free_places` does. Assumes nothing.
use Prim.Native.Nat.{ℕ, suc, ◌+◌, ◌-◌, ◌<◌, ◌≤◌}
use mathlib.Core.Path.{◌≡◌, ◌∙◌, sym, ap}
use mathlib.Core.Bool.{Bool, true, false, not, ◌&&◌}
use mathlib.Core.List.{List, [], ◌∷◌, ◌++◌, append_assoc, append-nil}
use native.Mathlib.Omega.{arith}
use native.Mathlib.Numerals.{add-one}
use lib.ListN.{length, take, set, get_or}
use lib.Seq.{take-nil, take-suc-set}
use Rattle.lists.specs.Below.{from, below}
use Rattle.lists.specs.laws.Maps.{map_append}
use Rattle.lists.specs.laws.Bools.{and_make, and_left, and_right}
use Rattle.lists.specs.Scans.{keep, any_of}
use Rattle.units.specs.declared.Place.{Place}
use Rattle.units.specs.declared.Settings.{Settings}
use Rattle.units.specs.declared.Tick.{Tick}
use Rattle.ledger.specs.declared.Entry.{Entry}
use Rattle.ledger.specs.Entries.{at, is_reusable}
use Rattle.ledger.specs.inner.Numbers.{place_numbers, length_numbers}
use Rattle.ledger.specs.inner.Placed.{resting}
use Rattle.ledger.specs.inner.Tables.{held_by, may_give, table_get}

module _ (f : ℕ → Bool) (m wanted : ℕ) where
  -- the places found before q, and what is left to find
  unfoldable pub Found : List Place → ℕ → ℕ → Type 0
  Found l count q = take wanted (keep f (below m)) ≡ place_numbers count l ++ take (wanted - count) (keep f (from q (m - q)))

  pub found_none : (l : List Place) → Found l 0 0
  unfolding Found
  found_none l =
      let a : wanted - 0 ≡ wanted = omega arith in
      let b : m - 0 ≡ m = omega arith in
      rw (a, b)

  module _ (l : List Place) (count q : ℕ) (found : Found l count q) where
    pub found_skip : q < m → f q ≡ false → Found l count (q + 1)
    unfolding Found keep from
    found_skip h e =
        let z : m - q ≡ suc (m - (q + 1)) = omega arith in
        found ∙ rw (z, e, add-one q)

    pub found_take : q < m → f q ≡ true → count < wanted → count < length l → Found (set l count (record { 0 = q })) (count + 1) (q + 1)
    unfolding Found keep from
    found_take h e k n =
        let z : m - q ≡ suc (m - (q + 1)) = omega arith in
        let y : wanted - count ≡ suc (wanted - (count + 1)) = omega arith in
        found
        ∙ rw (z, e, y, add-one q, add-one count, take-suc-set l count (record { 0 = q }) n, map_append (λ p. p.0) (take count l) (record { 0 = q } ∷ []))
        (sym (append_assoc (place_numbers count l) (q ∷ []) (take (wanted - suc count) (keep f (from (suc q) (m - suc q))))))

    -- enough were found, or there are no more
    pub found_all : count ≡ wanted → place_numbers count l ≡ take wanted (keep f (below m))
    unfolding Found
    found_all e =
        let z : wanted - count ≡ 0 = omega arith in
        sym (found ∙ rw z (append-nil (place_numbers count l)))

    pub found_last : m ≤ q → place_numbers count l ≡ take wanted (keep f (below m))
    unfolding Found keep from
    found_last h =
        let z : m - q ≡ 0 = omega arith in
        sym (found ∙ rw (z, take-nil {A = ℕ} (wanted - count)) (append-nil (place_numbers count l)))

  pub found_count : (l : List Place) (count : ℕ) → count ≤ length l → place_numbers count l ≡ take wanted (keep f (below m)) → count ≡ length (take wanted (keep f (below m)))
  found_count l count h e = omega (arith, ap length e, length_numbers (λ p. p.0) count l h)

-- whether place q may be given, by its flag in the table of held places and by whether it rests
module _ (s : Settings) (w : ℕ) (N : Tick) (es : List Entry) (ledger : List ℕ) (q : ℕ) (h : q < 272) (taken : List Bool) (t : taken ≡ held_by es) (held : Bool) (d : held ≡ get_or taken q false) where
  gives : is_reusable s w N es ledger q ≡ (not held && not (resting s w N ledger q))
  gives =
      may_give s w N es ledger q
      ∙ ap (λ (b : Bool). not b && not (resting s w N ledger q)) (sym (d ∙ ap (λ (l : List Bool). get_or l q false) t ∙ table_get (λ k. any_of (at k) es) q h))

  pub gives_yes : not held ≡ true → (b : Bool) → b ≡ not (resting s w N ledger q) → b ≡ true → is_reusable s w N es ledger q ≡ true
  gives_yes k b e z = gives ∙ and_make (not held) (not (resting s w N ledger q)) k (sym e ∙ z)

  pub gives_rests : (b : Bool) → b ≡ not (resting s w N ledger q) → b ≡ false → is_reusable s w N es ledger q ≡ false
  gives_rests b e z = gives ∙ and_right (not held) (not (resting s w N ledger q)) (sym e ∙ z)

  pub gives_held : not held ≡ false → is_reusable s w N es ledger q ≡ false
  gives_held k = gives ∙ and_left (not held) (not (resting s w N ledger q)) k
