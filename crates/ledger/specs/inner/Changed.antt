-- The changed pages of a close as an array has them, the first k of its pages, and the rows that give up their places by them:
-- those of the changed pages, and those that are old enough to leave. Assumes nothing.
use Rattle.std.specs.Prelude.{ℕ, suc, ◌+◌, ◌<◌, ◌≤◌, ◌≡◌, refl, Bool, true, false, ◌&&◌, ◌||◌, List, [], ◌∷◌, map, eqb, set}
use Rattle.std.proofs.Common.{◌∙◌, sym, ap, arith, eq-eqb, eqb-true}
use Rattle.std.proofs.Math.Decide.{dec_lt}
use Rattle.lists.specs.Below.{below}
use Rattle.lists.specs.laws.Below.{every_from, any_from}
use Rattle.lists.specs.Bools.{if_then}
use Rattle.lists.specs.laws.Bools.{and_make, or_no, or_right}
use Rattle.lists.specs.Scans.{Every, Every.done, Every.more, keep, any_of}
use Rattle.lists.specs.laws.Scans.{every_map, any_none, none_any, any_keep}
use Rattle.units.specs.Ages as Ages
use Rattle.units.specs.declared.Tick.{Tick}
use Rattle.sidefile.specs.Judge.{ascending}
use Rattle.sidefile.specs.inner.Table.{position}
use Rattle.ledger.specs.declared.Entry.{Entry}
use Rattle.ledger.specs.View.{indexed}
use Rattle.ledger.specs.Entries.{page_of, has, find, retires, is_leaving, entered_or}
use Rattle.ledger.specs.laws.Ordered.{asc_inv, asc_once}

-- p is one of some numbers
unfoldable pub among : List ℕ → ℕ → Bool
among cs p = any_of (eqb p) cs

-- an entry leaves at N unless its page is changed
unfoldable pub is_old : ℕ → Tick → Entry → Bool
is_old wait N e = Ages.leaves wait e.changed false N

-- the entry ticks of changed pages: those of their entries, or N
unfoldable pub entry_ticks : Tick → List Entry → List ℕ → List Tick
entry_ticks N es cs = map (λ p. entered_or N (find p es)) cs

-- the pages that pass a test are those among which a page is if it passes
pub among_kept : (t : ℕ → Bool) (end : ℕ) → ((p : ℕ) → end ≤ p → t p ≡ false) → (p : ℕ) → among (keep t (below end)) p ≡ t p
unfolding among
among_kept t end far p = any_keep (eqb p) t (below end) ∙ go (t p) refl (dec_lt p end)
  where
    go : (b : Bool) → t p ≡ b → Dec (p < end) → any_of (λ c. eqb p c && t c) (below end) ≡ b
    go true e (yes h) = any_from (λ c. eqb p c && t c) 0 end p (omega arith) (omega arith) (and_make (eqb p p) (t p) (eq-eqb p p refl) e)
    go true e (no h) = let z : true ≡ false = sym e ∙ far p (omega (arith, h)) in absurd (let y : ◌≡◌ {A = ℕ} 0 1 = cc in omega arith)
    go false e h = none_any (λ c. eqb p c && t c) (below end) (every_map (λ c k. one c (eqb p c) refl) (below end) (every_from 0 end))
      where
        one : (c : ℕ) (b : Bool) → eqb p c ≡ b → (b && t c) ≡ false
        one c true q = ap t (sym (eqb-true p c q)) ∙ e
        one c false q = refl

-- an entry gives up its place if it is old or its page is changed
pub retires_old : (wait : ℕ) (N : Tick) (changed_in : ℕ → Bool) (e : Entry) → (is_old wait N e || changed_in (page_of e)) ≡ retires wait N changed_in e
unfolding is_old retires is_leaving Ages.leaves
retires_old wait N changed_in e = go (changed_in (page_of e)) (is_old wait N e) refl
  where
    go : (c old : Bool) → is_old wait N e ≡ old → (old || c) ≡ (c || Ages.leaves wait e.changed c N)
    go true true h = refl
    go true false h = refl
    go false true h = sym h
    go false false h = sym h

-- the flag of a page's entry is set
pub mark_page : (t : Entry → Bool) (p low : ℕ) (l : List Entry) → ascending low (map indexed l) ≡ true
    → set (map t l) (position (has p) l) true ≡ map (λ e. t e || has p e) l
unfolding position has
mark_page t p low [] a = refl
mark_page t p low (x ∷ xs) a = go (has p x) refl (mark_page t p (page_of x + 1) xs (asc_inv low x xs a).1)
  where
    same : (l : List Entry) → Every (λ e. has p e ≡ false) l → map t l ≡ map (λ e. t e || has p e) l
    same l done = refl
    same l (more {x = y} {xs = ys} h e) = rw (h, or_no (t y)) (ap (λ (r : List Bool). t y ∷ r) (same ys e))

    go : (b : Bool) → has p x ≡ b → set (map t xs) (position (has p) xs) true ≡ map (λ e. t e || has p e) xs
        → set (t x ∷ map t xs) (if_then b 0 (suc (position (has p) xs))) true ≡ ((t x || b) ∷ map (λ e. t e || has p e) xs)
    go true q ih = rw (or_right (t x) true refl) (ap (λ (r : List Bool). true ∷ r) (same xs (any_none (has p) xs once)))
      where
        once : any_of (has p) xs ≡ false
        once = rw (eqb-true (page_of x) p q) at (asc_once low x xs a)
    go false q ih = rw (or_no (t x)) (ap (λ (r : List Bool). t x ∷ r) ih)
