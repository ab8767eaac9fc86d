-- Laws of specs/Tests: when a list of tests passes, and what is answered when it does not. Assumes nothing.
use Rattle.std.specs.Prelude.{ℕ, zero, suc, ◌≡◌, Bool, ◌&&◌, eqb, ltb, take, drop, get_or}
use Rattle.std.proofs.Common.{arith, ◌∙◌, sym, ap, true≢false, eqb-true, ltb-true}
use Rattle.std.proofs.Math.Path.{refl}
use Rattle.std.proofs.Math.Bool.{true, false}
use mathlib.Core.List.{List, [], ◌∷◌, ◌++◌}
use Rattle.lists.specs.Bools.{if_then}
use Rattle.lists.specs.laws.Bools.{not_both, false_of, both, and_make, and_right, and_yes, and_assoc}
use Rattle.lists.specs.Scans.{Every, done, more, all_of}
use Rattle.lists.specs.laws.Scans.{head, tail, every_all, every_all_of}
use Rattle.units.specs.Tests.{Test, numbered, passes, tested, verdict}

-- tests pass together if they pass one by one, and a list of them in both its parts
pub every_passes : (ts : List Test) → Every (λ t. t.1 ≡ true) ts → passes ts ≡ true
unfolding passes
every_passes [] e = refl
every_passes (t ∷ ts) e = and_make t.1 (passes ts) (head e) (every_passes ts (tail e))

pub passes_every : (ts : List Test) → passes ts ≡ true → Every (λ t. t.1 ≡ true) ts
unfolding passes
passes_every [] h = done
passes_every (t ∷ ts) h = let b = both t.1 (passes ts) h in more b.0 (passes_every ts b.1)

pub passes_and : (ts us : List Test) → passes (ts ++ us) ≡ (passes ts && passes us)
unfolding passes
passes_and [] us = refl
passes_and (t ∷ ts) us = rw (passes_and ts us) (and_assoc t.1 (passes ts) (passes us))

pub passes_append : (ts us : List Test) → passes ts ≡ true → passes us ≡ true → passes (ts ++ us) ≡ true
passes_append ts us p q = passes_and ts us ∙ and_make (passes ts) (passes us) p q

pub passes_both : (ts us : List Test) → passes (ts ++ us) ≡ true → (passes ts ≡ true) × (passes us ≡ true)
passes_both ts us h = both (passes ts) (passes us) (sym (passes_and ts us) ∙ h)

-- test k fails; all pass before the last, which then decides
pub fails_at : (k : ℕ) (ts : List Test) → (get_or ts k (0, true)).1 ≡ false → passes ts ≡ false
unfolding passes
fails_at k [] e = absurd (true≢false e)
fails_at zero (t ∷ ts) e = rw e
fails_at (suc k) (t ∷ ts) e = and_right t.1 (passes ts) (fails_at k ts e)

pub passes_last : (k : ℕ) (ts : List Test) (t : Test) → drop k ts ≡ t ∷ [] → Every (λ t. t.1 ≡ true) (take k ts) → passes ts ≡ t.1
unfolding passes
passes_last zero ts t d e = rw d (and_yes t.1)
passes_last (suc k) [] t d e = let z : ◌≡◌ {A = ℕ} 0 1 = cc in absurd (omega arith)
passes_last (suc k) (u ∷ ts) t d e = rw (head e) (passes_last k ts t d (tail e))

module _ {R : Type 0} (refused : ℕ → R) (r : R) where
  pub tested_passes : (ts : List Test) → passes ts ≡ true → tested ts refused r ≡ r
  unfolding passes tested
  tested_passes [] h = refl
  tested_passes (t ∷ ts) h = let b = both t.1 (passes ts) h in rw b.0 (tested_passes ts b.1)

  pub tested_fails : (ts : List Test) → passes ts ≡ false → tested ts refused r ≡ refused (verdict ts)
  unfolding passes tested verdict
  tested_fails [] h = absurd (true≢false h)
  tested_fails (t ∷ ts) h = go t.1 h (tested_fails ts)
    where
      go : (b : Bool) → (b && passes ts) ≡ false → (passes ts ≡ false → tested ts refused r ≡ refused (verdict ts))
          → if_then b (tested ts refused r) (refused t.0) ≡ refused (if_then b (verdict ts) t.0)
      go true h ih = ih h
      go false h ih = refl

  pub tested_append : (ts us : List Test) → tested (ts ++ us) refused r ≡ tested ts refused (tested us refused r)
  unfolding tested
  tested_append [] us = refl
  tested_append (t ∷ ts) us = rw (tested_append ts us)

  -- what holds of every refusal by a number that the tests have, and of what is answered if all tests pass, holds of the answer
  pub tested_by : (P : R → Type 0) (has : ℕ → Bool) (ts : List Test) → all_of (λ t. has t.0) ts ≡ true → ((n : ℕ) → has n ≡ true → P (refused n))
      → (passes ts ≡ true → P r)
      → P (tested ts refused r)
  unfolding tested passes all_of
  tested_by P has [] e f p = p refl
  tested_by P has (t ∷ ts) e f p =
      let b = both (has t.0) (all_of (λ t. has t.0) ts) e in
      go t.1 b.0 p (tested_by P has ts b.1 f)
    where
      go : (b : Bool) → has t.0 ≡ true → ((b && passes ts) ≡ true → P r) → ((passes ts ≡ true → P r) → P (tested ts refused r))
          → P (if_then b (tested ts refused r) (refused t.0))
      go true n p ih = ih p
      go false n p ih = f t.0 n

  pub tested_has : (P : R → Type 0) → ((n : ℕ) → P (refused n)) → P r → (ts : List Test) → P (tested ts refused r)
  tested_has P f p ts = tested_by P (λ n. true) ts (every_all_of {P = λ t. Unit} (λ t. true) (λ t h. refl) ts (every_all {P = λ t. Unit} (λ t. tt) ts)) (λ n h. f n) (λ h. p)

  -- an answer whose number is that of no test has passed them all
  pub tested_accepted : (number : R → ℕ) → ((n : ℕ) → number (refused n) ≡ n) → (ts : List Test) → all_of numbered ts ≡ true
      → number (tested ts refused r) ≡ 0
      → passes ts ≡ true
  tested_accepted number f ts e h = tested_by (λ a. number a ≡ 0 → passes ts ≡ true) (ltb 0) ts e no (λ p z. p) h
    where
      no : (n : ℕ) → ltb 0 n ≡ true → number (refused n) ≡ 0 → passes ts ≡ true
      no n k z = absurd (omega (arith, f n, ltb-true 0 n k))

  -- two answers to the same tests are equal, if they are where all tests pass
  pub tested_same : (other : R) (ts : List Test) → (passes ts ≡ true → r ≡ other) → tested ts refused r ≡ tested ts refused other
  unfolding tested passes
  tested_same other [] h = h refl
  tested_same other (t ∷ ts) h = go t.1 h (tested_same other ts)
    where
      go : (b : Bool) → ((b && passes ts) ≡ true → r ≡ other)
          → ((passes ts ≡ true → r ≡ other) → tested ts refused r ≡ tested ts refused other)
          → if_then b (tested ts refused r) (refused t.0) ≡ if_then b (tested ts refused other) (refused t.0)
      go true h ih = ih h
      go false h ih = refl

-- tests that pass may be left out
pub tested_behind : {R : Type 0} (refused : ℕ → R) (r : R) (ts us : List Test) → passes ts ≡ true → tested (ts ++ us) refused r ≡ tested us refused r
tested_behind refused r ts us p = tested_append refused r ts us ∙ tested_passes refused (tested us refused r) ts p

-- a verdict is an answer whose refusals are the numbers themselves
verdict_tested : (ts : List Test) → verdict ts ≡ tested ts (λ n. n) 0
unfolding verdict tested
verdict_tested [] = refl
verdict_tested (t ∷ ts) = rw (verdict_tested ts)

pub verdict_passes : (ts : List Test) → passes ts ≡ true → verdict ts ≡ 0
verdict_passes ts h = verdict_tested ts ∙ tested_passes (λ n. n) 0 ts h

pub verdict_behind : (ts us : List Test) → passes ts ≡ true → verdict (ts ++ us) ≡ verdict us
verdict_behind ts us p = verdict_tested (ts ++ us) ∙ tested_behind (λ n. n) 0 ts us p ∙ sym (verdict_tested us)

pub verdict_before : (ts us : List Test) → passes ts ≡ false → verdict (ts ++ us) ≡ verdict ts
verdict_before ts us e =
    verdict_tested (ts ++ us) ∙ tested_append (λ n. n) 0 ts us ∙ tested_fails (λ n. n) (tested us (λ n. n) 0) ts e

-- tests that all refuse by k
pub verdict_by : (k : ℕ) (ts : List Test) → all_of (λ t. eqb t.0 k) ts ≡ true → passes ts ≡ false → verdict ts ≡ k
verdict_by k ts a e =
    verdict_tested ts
    ∙ tested_by (λ n. n) 0 (λ n. n ≡ k) (λ n. eqb n k) ts a (λ n h. eqb-true n k h) (λ p. absurd (not_both (passes ts) p e))

-- a verdict of 0, where no test refuses by 0
pub verdict_none : (ts : List Test) → all_of numbered ts ≡ true → verdict ts ≡ 0 → passes ts ≡ true
verdict_none ts a e = tested_accepted (λ n. n) 0 (λ n. n) (λ n. refl) ts a (sym (verdict_tested ts) ∙ e)

-- a verdict that is no 0: the tests fail, and it refuses, also where other tests stand behind
pub not_passed : (ts : List Test) (n : ℕ) → n ≡ verdict ts → (n ≡ 0 → ⊥) → passes ts ≡ false
not_passed ts n e ne = false_of (passes ts) (λ p. ne (e ∙ verdict_passes ts p))

pub stopped : (ts us : List Test) (n : ℕ) → n ≡ verdict ts → (n ≡ 0 → ⊥) → n ≡ verdict (ts ++ us)
stopped ts us n e ne = e ∙ sym (verdict_before ts us (not_passed ts n e ne))

module _ {R : Type 0} (refused : ℕ → R) (r : R) (ts : List Test) where
  pub refused_by : (n : ℕ) → n ≡ verdict ts → (n ≡ 0 → ⊥) → tested ts refused r ≡ refused n
  refused_by n e ne = tested_fails refused r ts (not_passed ts n e ne) ∙ ap refused (sym e)

pub refused_before : {R : Type 0} (refused : ℕ → R) (r : R) (ts us : List Test) (n : ℕ) → n ≡ verdict ts → (n ≡ 0 → ⊥) → tested (ts ++ us) refused r ≡ refused n
refused_before refused r ts us n e ne = tested_append refused r ts us ∙ refused_by refused (tested us refused r) ts n e ne

-- tests that pass, and one more behind them
module _ {R : Type 0} (refused : ℕ → R) (r : R) (ts : List Test) (k : ℕ) (t : Bool) (p : passes ts ≡ true) where
  pub refused_last : t ≡ false → tested (ts ++ ((k, t) ∷ [])) refused r ≡ refused k
  unfolding tested
  refused_last e = tested_behind refused r ts ((k, t) ∷ []) p ∙ rw e

  pub accepted_last : t ≡ true → tested (ts ++ ((k, t) ∷ [])) refused r ≡ r
  unfolding tested
  accepted_last e = tested_behind refused r ts ((k, t) ∷ []) p ∙ rw e
