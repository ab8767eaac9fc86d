-- Rows laid over bytes one after the other, each at an offset of its own: what a close does to image places and to base pages,
-- one for each of some entries. A row that none of them takes stays; one that is taken holds what was laid there. Assumes
-- nothing.
use Rattle.std.specs.Prelude.{ℕ, ◌+◌, ◌*◌, ◌<◌, ◌≤◌, ◌≡◌, Bool, ◌||◌}
use Rattle.std.proofs.Math.Path.{refl}
use Rattle.std.proofs.Common.{◌∙◌, sym}
use Rattle.std.proofs.Math.Bool.{true, false}
use Rattle.std.proofs.lemmas.Bool.{false≢true}
use mathlib.Core.List.{List, [], ◌∷◌}
use Rattle.std.proofs.Math.Dec.{eqb}
use Rattle.std.proofs.Math.ListN.{length}
use borrow.Author.Tests.{eqb-true, eqb-false}
use Rattle.lists.specs.Scans.{Every, any_of}
use Rattle.lists.specs.laws.Scans.{head, tail, every_map, any_none}
use Rattle.octets.specs.Part.{lay}
use Rattle.octets.specs.laws.Part.{length_lay}
use Rattle.octets.specs.Rows.{row}
use Rattle.octets.specs.laws.Rows.{row_laid, row_other}

module _ {A : Type 0} (at : A → ℕ) (bytes : A → List ℕ) where
  unfoldable pub lay_each : List A → List ℕ → List ℕ
  lay_each [] xs = xs
  lay_each (x ∷ l) xs = lay_each l (lay xs (at x) (bytes x))

  pub length_lay_each : (l : List A) (xs : List ℕ) → length (lay_each l xs) ≡ length xs
  unfolding lay_each
  length_lay_each [] xs = refl
  length_lay_each (x ∷ l) xs = length_lay_each l (lay xs (at x) (bytes x)) ∙ length_lay xs (at x) (bytes x)

  -- each is row f x of a table that begins at s and has m rows of w bytes
  module _ (s w m : ℕ) (f : A → ℕ) where
    abbrev pub Fits : List A → Type 0
    Fits l = Every (λ x. (at x ≡ s + f x * w) × (f x < m) × (length (bytes x) ≡ w)) l

    pub row_beside : (k : ℕ) (l : List A) (xs : List ℕ) → s + m * w ≤ length xs → Fits l → Every (λ x. f x ≡ k → ⊥) l → row s w k (lay_each l xs) ≡ row s w k xs
    unfolding lay_each
    row_beside k [] xs h e n = refl
    row_beside k (x ∷ l) xs h e n =
        row_beside k l (lay xs (at x) (bytes x)) (rw (length_lay xs (at x) (bytes x)) h) (tail e) (tail n)
        ∙ rw (head e).0 (row_other s w xs m h k (f x) (bytes x) (head e).2 (λ z. head n (sym z)))

    -- all that is laid at k is b, and something is
    pub row_here : (k : ℕ) (b : List ℕ) (l : List A) (xs : List ℕ) → s + m * w ≤ length xs → Fits l → Every (λ x. f x ≡ k → bytes x ≡ b) l
        → any_of (λ x. eqb (f x) k) l ≡ true → row s w k (lay_each l xs) ≡ b
    unfolding lay_each any_of
    row_here k b [] xs h e n a = absurd (false≢true a)
    row_here k b (x ∷ l) xs h e n a =
        let h' : s + m * w ≤ length (lay xs (at x) (bytes x)) = rw (length_lay xs (at x) (bytes x)) h in
        go (any_of (λ x. eqb (f x) k) l) refl (eqb (f x) k) refl a
        (row_here k b l (lay xs (at x) (bytes x)) h' (tail e) (tail n))
        (λ z. row_beside k l (lay xs (at x) (bytes x)) h' (tail e) (every_map (λ y o. eqb-false (f y) k o) l (any_none (λ x. eqb (f x) k) l z)))
      where
        go : (c : Bool) → any_of (λ x. eqb (f x) k) l ≡ c → (d : Bool) → eqb (f x) k ≡ d → (d || any_of (λ x. eqb (f x) k) l) ≡ true
            → (any_of (λ x. eqb (f x) k) l ≡ true → row s w k (lay_each l (lay xs (at x) (bytes x))) ≡ b)
            → (any_of (λ x. eqb (f x) k) l ≡ false → row s w k (lay_each l (lay xs (at x) (bytes x))) ≡ row s w k (lay xs (at x) (bytes x)))
            → row s w k (lay_each l (lay xs (at x) (bytes x))) ≡ b
        go true p d q a ih other = ih p
        go false p true q a ih other =
            let z : f x ≡ k = eqb-true (f x) k q in
            other p ∙ rw ((head e).0, ← z) (row_laid s w xs m h (f x) (bytes x) (head e).2 (head e).1) ∙ head n z
        go false p false q a ih other = ih a
