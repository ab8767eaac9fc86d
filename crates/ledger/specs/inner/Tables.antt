-- Places in tables: which of 272 places pass a test, the row of a place after a close by a flag; and which places the entries
-- of some rows hold. Assumes nothing.
use Rattle.std.specs.Prelude.{ℕ, zero, suc, ◌<◌, ◌≡◌, Bool, not, ◌&&◌, ◌||◌, eqb, length, get_or, set, replicate}
use Rattle.std.proofs.Math.Path.{refl, ap}
use Rattle.std.proofs.Common.{◌∙◌, sym, arith}
use Rattle.std.proofs.Math.Bool.{true, false}
use mathlib.Core.List.{List, ◌∷◌, map}
use Rattle.std.proofs.Math.ListN.{length-map}
use Rattle.lists.specs.Below.{from, below}
use Rattle.lists.specs.laws.Below.{length_from, get_from}
use Rattle.lists.specs.Bools.{if_then}
use Rattle.lists.specs.laws.Passes.{set_from}
use Rattle.lists.specs.Scans.{keep, any_of}
use Rattle.units.specs.Ages as Ages
use Rattle.units.specs.Sizes.{wait, places}
use Rattle.units.specs.declared.Settings.{Settings}
use Rattle.units.specs.declared.Tick.{Tick}
use Rattle.ledger.specs.declared.Entry.{Entry}
use Rattle.ledger.specs.View.{entries_in, place_row_at, retired, retired_at, retired_row, free_row}
use Rattle.ledger.specs.Entries.{at, is_reusable, place_after}
use Rattle.ledger.specs.inner.Placed.{given_up, resting}

-- for each place that any settings can have, whether it passes
unfoldable pub place_table : (ℕ → Bool) → List Bool
place_table f = map f (below 272)

-- the places that may be given at close N, with the ledger's first n entries
unfoldable pub free_in : Settings → ℕ → Tick → List ℕ → List ℕ
free_in s n N ledger = keep (is_reusable s (wait s) N (entries_in n ledger) ledger) (below (places s))

-- the row of place q after close N, if it is given up or not
unfoldable pub row_after : Settings → ℕ → Tick → Bool → List ℕ → ℕ → List ℕ
row_after s wait N gone ledger q = if_then gone (retired_row N) (if_then (resting s wait N ledger q) (place_row_at s ledger q) free_row)

-- the rows of all places after close N, by a table of those given up
unfoldable pub rows_after : Settings → Tick → List Bool → List ℕ → ℕ → List ℕ
rows_after s N gone ledger q = row_after s (wait s) N (get_or gone q false) ledger q

pub row_after_lem : (s : Settings) (wait : ℕ) (N : Tick) (changed_in : ℕ → Bool) (es : List Entry) (ledger : List ℕ) (q : ℕ)
    → row_after s wait N (given_up wait N changed_in es q) ledger q ≡ place_after s wait N changed_in es ledger q
unfolding row_after place_after
row_after_lem s wait N changed_in es ledger q = refl

-- a place may be given if no entry holds it and it is not resting
pub may_give : (s : Settings) (wait : ℕ) (N : Tick) (es : List Entry) (ledger : List ℕ) (q : ℕ)
    → is_reusable s wait N es ledger q ≡ (not (any_of (at q) es) && not (resting s wait N ledger q))
unfolding is_reusable
may_give s wait N es ledger q = go (retired s ledger q) (Ages.reusable wait (retired_at s ledger q) N)
  where
    go : (a b : Bool) → (not (any_of (at q) es) && (not a || b)) ≡ (not (any_of (at q) es) && not (a && not b))
    go true true = refl
    go true false = refl
    go false b = refl

-- The table.

none_from : (a n : ℕ) → replicate n false ≡ map (λ (q : ℕ). false) (from a n)
unfolding from
none_from a zero = refl
none_from a (suc n) = ap (λ (l : List Bool). false ∷ l) (none_from (suc a) n)

module _ (f : ℕ → Bool) where
  pub length_table : length (place_table f) ≡ 272
  unfolding place_table
  length_table = length-map (below 272) f ∙ length_from 0 272

  pub table_get : (q : ℕ) → q < 272 → get_or (place_table f) q false ≡ f q
  unfolding place_table
  table_get q h = get_from f false 0 272 q h ∙ ap f (omega arith)

  pub table_mark : (p : ℕ) → p < 272 → set (place_table f) p true ≡ place_table (λ q. f q || eqb p q)
  unfolding place_table
  table_mark p h = set_from f true 0 272 p p h (omega arith) ∙ (λ i. map (λ q. one (eqb p q) (f q) i) (below 272))
    where
      one : (a b : Bool) → if_then a true b ≡ (b || a)
      one true true = refl
      one true false = refl
      one false true = refl
      one false false = refl

pub table_none : place_table (λ q. false) ≡ replicate 272 false
unfolding place_table
table_none = sym (none_from 0 272)

-- the places of some entries
abbrev pub held_by : List Entry → List Bool
held_by es = place_table (λ q. any_of (at q) es)
