-- Laws of specs/Ages: each age said exactly, and how they exclude or follow each other. Assumes nothing.
use Rattle.std.specs.Prelude.{ℕ, ◌+◌, ◌<◌, ◌≤◌, ◌≡◌, Bool, ◌&&◌, ◌||◌}
use Rattle.std.proofs.Math.Path.{refl, sym}
use Rattle.std.proofs.Common.{◌∙◌, true≢false}
use Rattle.std.proofs.Math.Bool.{true, false}
use Rattle.std.proofs.lemmas.Bool.{false≢true}
use native.Mathlib.Omega.{arith}
use Rattle.std.proofs.Math.Decide.{ℕ_discrete, dec_lt}
use Rattle.std.proofs.Math.Dec.{eqb, ltb, leb}
use borrow.Author.Tests.{eq-eqb, ne_eqb, lt-ltb, le-ltb, eqb-true, eqb-false, ltb-true, ltb-false, le-leb, lt-leb}
use Rattle.lists.specs.laws.Bools.{or_left}
use Rattle.units.specs.declared.Tick.{Tick}
use Rattle.units.specs.Ages.{due, leaves, owed, reusable, tick}

-- What `due` answers in its three cases.

module _ (wait : ℕ) (entered : Tick) (changed_now : Bool) (N : Tick) where
  pub due_now : entered.0 + wait ≡ N.0 → due wait entered changed_now N ≡ true
  unfolding due
  due_now e = or_left _ _ (eq-eqb (entered.0 + wait) N.0 e)

  pub due_past : entered.0 + wait < N.0 → due wait entered changed_now N ≡ changed_now
  unfolding due
  due_past h = rw (ne_eqb (entered.0 + wait) N.0 (λ e. omega arith), lt-ltb (entered.0 + wait) N.0 h)

  pub due_not_yet : N.0 < entered.0 + wait → due wait entered changed_now N ≡ false
  unfolding due
  due_not_yet h = rw (ne_eqb (entered.0 + wait) N.0 (λ e. omega arith), le-ltb (entered.0 + wait) N.0 (omega arith))

-- Exactly how long, k ticks after the tick named: these laws fail if an age is one tick more or one less.

module _ (wait t k : ℕ) where
  pub owed_exactly : owed wait (tick t) (tick (t + k)) ≡ ltb k wait
  unfolding owed
  owed_exactly = go (dec_lt k wait)
    where
      go : Dec (k < wait) → ltb (t + k) (t + wait) ≡ ltb k wait
      go (yes h) = lt-ltb (t + k) (t + wait) (omega arith) ∙ sym (lt-ltb k wait h)
      go (no h) = le-ltb (t + k) (t + wait) (omega arith) ∙ sym (le-ltb k wait (omega arith))

  pub due_exactly : due wait (tick t) false (tick (t + k)) ≡ eqb k wait
  unfolding due
  due_exactly = go (ℕ_discrete k wait)
    where
      or_none : (a b : Bool) → (a || b && false) ≡ a
      or_none true b = refl
      or_none false true = refl
      or_none false false = refl

      go : Dec (k ≡ wait) → (eqb (t + wait) (t + k) || ltb (t + wait) (t + k) && false) ≡ eqb k wait
      go (yes h) = or_none (eqb (t + wait) (t + k)) (ltb (t + wait) (t + k)) ∙ eq-eqb (t + wait) (t + k) (omega arith) ∙ sym (eq-eqb k wait h)
      go (no h) = or_none (eqb (t + wait) (t + k)) (ltb (t + wait) (t + k)) ∙ ne_eqb (t + wait) (t + k) (λ e. h (omega arith)) ∙ sym (ne_eqb k wait h)

  pub due_changed_exactly : due wait (tick t) true (tick (t + k)) ≡ leb wait k
  unfolding due
  due_changed_exactly = go (dec_lt k wait)
    where
      or_two : (a b c : Bool) → a ≡ false → b ≡ c → (a || b && true) ≡ c
      or_two true b c p q = absurd (true≢false p)
      or_two false true c p q = q
      or_two false false c p q = q

      same : Dec (k ≡ wait) → (k < wait → ⊥) → (eqb (t + wait) (t + k) || ltb (t + wait) (t + k) && true) ≡ true
      same (yes e) n = rw (eq-eqb (t + wait) (t + k) (omega arith))
      same (no e) n =
          or_two (eqb (t + wait) (t + k)) (ltb (t + wait) (t + k)) true (ne_eqb (t + wait) (t + k) (λ z. e (omega arith)))
          (lt-ltb (t + wait) (t + k) (omega (arith, e, n)))

      go : Dec (k < wait) → (eqb (t + wait) (t + k) || ltb (t + wait) (t + k) && true) ≡ leb wait k
      go (yes h) =
          or_two (eqb (t + wait) (t + k)) (ltb (t + wait) (t + k)) false (ne_eqb (t + wait) (t + k) (λ z. omega arith)) (le-ltb (t + wait) (t + k) (omega arith))
          ∙ sym (lt-leb wait k h)
      go (no h) = same (ℕ_discrete k wait) h ∙ sym (le-leb wait k (omega (arith, h)))

  pub leaves_exactly : leaves wait (tick t) false (tick (t + k)) ≡ eqb k (wait + 1)
  unfolding leaves
  leaves_exactly = go (ℕ_discrete k (wait + 1))
    where
      go : Dec (k ≡ wait + 1) → eqb (t + wait + 1) (t + k) ≡ eqb k (wait + 1)
      go (yes h) = eq-eqb (t + wait + 1) (t + k) (omega arith) ∙ sym (eq-eqb k (wait + 1) h)
      go (no h) = ne_eqb (t + wait + 1) (t + k) (λ e. h (omega arith)) ∙ sym (ne_eqb k (wait + 1) h)

  pub leaves_changed : leaves wait (tick t) true (tick (t + k)) ≡ false
  unfolding leaves
  leaves_changed = refl

  pub reusable_exactly : reusable wait (tick t) (tick (t + k)) ≡ leb wait k
  unfolding reusable
  reusable_exactly = go (dec_lt k wait)
    where
      go : Dec (k < wait) → leb (t + wait) (t + k) ≡ leb wait k
      go (yes h) = lt-leb (t + wait) (t + k) (omega arith) ∙ sym (lt-leb wait k h)
      go (no h) = le-leb (t + wait) (t + k) (omega (arith, h)) ∙ sym (le-leb wait k (omega (arith, h)))

-- How the ages fit together. With these a close keeps what a desk may still read.

module _ (wait : ℕ) where
  -- what was retired after t is not given again within `wait` of t
  pub reusable_late : (t : ℕ) (retired N : Tick) → t < retired.0 → N.0 ≤ t + wait → reusable wait retired N ≡ false
  unfolding reusable
  reusable_late t retired N h k = lt-leb (retired.0 + wait) N.0 (omega arith)

  -- what changed after t does not leave within `wait` and one of t
  pub leaves_late : (t : ℕ) (changed N : Tick) → t < changed.0 → N.0 ≤ t + wait + 1 → leaves wait changed false N ≡ false
  unfolding leaves
  leaves_late t changed N h k = ne_eqb (changed.0 + wait + 1) N.0 (λ e. omega arith)

  -- what entered after t is not written to the base within `wait` of t
  pub due_late : (t : ℕ) (entered N : Tick) (changed_now : Bool) → t < entered.0 → N.0 ≤ t + wait → due wait entered changed_now N ≡ false
  unfolding due
  due_late t entered N changed_now h k = rw (ne_eqb (entered.0 + wait) N.0 (λ z. omega arith), le-ltb (entered.0 + wait) N.0 (omega arith))

  -- an unchanged entry that is due was owed before the close
  pub due_owed : (entered : Tick) (closed : ℕ) → due wait entered false (tick (closed + 1)) ≡ true → owed wait entered (tick closed) ≡ true
  unfolding due owed
  due_owed entered closed h = go (eqb (entered.0 + wait) (closed + 1)) refl (ltb (entered.0 + wait) (closed + 1)) h
    where
      go : (a : Bool) → eqb (entered.0 + wait) (closed + 1) ≡ a → (b : Bool) → (a || b && false) ≡ true → ltb closed (entered.0 + wait) ≡ true
      go true p b h = lt-ltb closed (entered.0 + wait) (omega (arith, eqb-true (entered.0 + wait) (closed + 1) p))
      go false p true h = absurd (false≢true h)
      go false p false h = absurd (false≢true h)

  -- an entry that leaves was not owed any more
  pub leaves_written : (entered changed : Tick) (changed_now : Bool) (closed : ℕ) → entered.0 ≤ changed.0
      → leaves wait changed changed_now (tick (closed + 1)) ≡ true
      → owed wait entered (tick closed) ≡ false
  unfolding leaves owed
  leaves_written entered changed true closed h e = absurd (false≢true e)
  leaves_written entered changed false closed h e = le-ltb closed (entered.0 + wait) (omega (arith, eqb-true (changed.0 + wait + 1) (closed + 1) e))

  -- a changed entry that is not owed after the close is due at it
  pub due_changed : (entered N : Tick) → owed wait entered N ≡ false → due wait entered true N ≡ true
  unfolding due owed
  due_changed entered N h = go (ℕ_discrete (entered.0 + wait) N.0)
    where
      right : (a b : Bool) → b ≡ true → (a || b && true) ≡ true
      right true b h = refl
      right false b h = rw h

      go : Dec (entered.0 + wait ≡ N.0) → (eqb (entered.0 + wait) N.0 || ltb (entered.0 + wait) N.0 && true) ≡ true
      go (yes z) = rw (eq-eqb (entered.0 + wait) N.0 z)
      go (no z) =
          right (eqb (entered.0 + wait) N.0) (ltb (entered.0 + wait) N.0)
          (lt-ltb (entered.0 + wait) N.0 (omega (arith, z, ltb-false N.0 (entered.0 + wait) h)))

  -- an entry that is neither due at the close nor owed after it was not owed before it
  pub not_due_before : (entered : Tick) (closed : ℕ) (changed_now : Bool) → due wait entered changed_now (tick (closed + 1)) ≡ false
      → owed wait entered (tick (closed + 1)) ≡ false
      → owed wait entered (tick closed) ≡ false
  unfolding due owed
  not_due_before entered closed changed_now d o =
      le-ltb closed (entered.0 + wait)
      (omega (
        arith,
        eqb-false (entered.0 + wait) (closed + 1) (first (eqb (entered.0 + wait) (closed + 1)) (ltb (entered.0 + wait) (closed + 1) && changed_now) d),
        ltb-false (closed + 1) (entered.0 + wait) o,
      ))
    where
      first : (a b : Bool) → (a || b) ≡ false → a ≡ false
      first true b h = absurd (true≢false h)
      first false b h = refl

  -- what is owed after a close was owed before it
  pub owed_before : (entered : Tick) (closed : ℕ) → owed wait entered (tick (closed + 1)) ≡ true → owed wait entered (tick closed) ≡ true
  unfolding owed
  owed_before entered closed h = lt-ltb closed (entered.0 + wait) (omega (arith, ltb-true (closed + 1) (entered.0 + wait) h))

  -- what enters at a close is owed after it, unless the wait is none
  pub owed_new : (N : Tick) → 0 < wait → owed wait N N ≡ true
  unfolding owed
  owed_new N h = lt-ltb N.0 (N.0 + wait) (omega arith)
