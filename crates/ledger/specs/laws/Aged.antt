-- The ages of document 01, of entries: units' laws of ticks, said of an entry at a close. With these a proof about a close
-- speaks of entries that are owed, due or leaving, and never of ticks. Assumes nothing.
use Rattle.std.specs.Prelude.{ℕ, ◌+◌, ◌<◌, ◌≤◌, ◌≡◌, refl, Bool, true, false, ◌&&◌, List}
use Rattle.std.proofs.Common.{◌∙◌, eq-eqb}
use Rattle.std.proofs.Math.Path.{sym}
use Rattle.lists.specs.laws.Bools.{and_make, or_false, or_drop, and_true}
use Rattle.lists.specs.Scans.{Every}
use Rattle.lists.specs.laws.Scans.{every_map, every_self, any_none}
use Rattle.units.specs.laws.Ages as Ages
use Rattle.units.specs.Ages.{tick}
use Rattle.units.specs.declared.Tick.{Tick}
use Rattle.ledger.specs.declared.Entry.{Entry}
use Rattle.ledger.specs.Entries.{page_of, has, is_owed, owed_page, is_leaving, retires, is_due}

module _ (wait : ℕ) (changed_in : ℕ → Bool) (e : Entry) where
  -- an entry that keeps its place did not change and does not leave; one that gives it up unchanged leaves
  pub stay_split : (N : Tick) → retires wait N changed_in e ≡ false → (changed_in (page_of e) ≡ false) × (is_leaving wait N changed_in e ≡ false)
  unfolding retires
  stay_split N h = or_false (changed_in (page_of e)) (is_leaving wait N changed_in e) h

  pub goes_unchanged : (N : Tick) → retires wait N changed_in e ≡ true → changed_in (page_of e) ≡ false → is_leaving wait N changed_in e ≡ true
  unfolding retires
  goes_unchanged N h c = or_drop (changed_in (page_of e)) (is_leaving wait N changed_in e) h c

  -- what leaves was not owed any more
  pub leaving_written : (closed : ℕ) → e.entered.0 ≤ e.changed.0 → is_leaving wait (tick (closed + 1)) changed_in e ≡ true → is_owed wait (tick closed) e ≡ false
  unfolding is_leaving is_owed
  leaving_written closed h l = Ages.leaves_written wait e.entered e.changed (changed_in (page_of e)) closed h l

  -- what is due unchanged was owed; what changed and is not owed afterwards is due; what is neither due nor owed afterwards was
  -- not owed
  pub due_unchanged : (closed : ℕ) → changed_in (page_of e) ≡ false → is_due wait (tick (closed + 1)) changed_in e ≡ true → is_owed wait (tick closed) e ≡ true
  unfolding is_due is_owed
  due_unchanged closed c h = Ages.due_owed wait e.entered closed (rw c at h)

  pub due_changed : (N : Tick) → changed_in (page_of e) ≡ true → is_owed wait N e ≡ false → is_due wait N changed_in e ≡ true
  unfolding is_due is_owed
  due_changed N c h = rw c (Ages.due_changed wait e.entered N h)

  pub not_due : (closed : ℕ) → is_due wait (tick (closed + 1)) changed_in e ≡ false → is_owed wait (tick (closed + 1)) e ≡ false → is_owed wait (tick closed) e ≡ false
  unfolding is_due is_owed
  not_due closed d o = Ages.not_due_before wait e.entered closed (changed_in (page_of e)) d o

  -- what entered after t is not due within the wait of t
  pub due_late : (t : ℕ) (N : Tick) → t < e.entered.0 → N.0 ≤ t + wait → is_due wait N changed_in e ≡ false
  unfolding is_due
  due_late t N h k = Ages.due_late wait t e.entered N (changed_in (page_of e)) h k

-- what is owed after a close was owed before it
pub owed_before : (wait : ℕ) (e : Entry) (closed : ℕ) → is_owed wait (tick (closed + 1)) e ≡ true → is_owed wait (tick closed) e ≡ true
unfolding is_owed
owed_before wait e closed h = Ages.owed_before wait e.entered closed h

-- the page of an owed entry is owed, and an entry of a page that is not owed is not
module _ (wait : ℕ) (closed : Tick) (l : List Entry) where
  pub owed_pages : Every (λ e. is_owed wait closed e ≡ true → owed_page wait closed l (page_of e) ≡ true) l
  unfolding owed_page has
  owed_pages =
      every_map (λ e f h. f (λ y. has (page_of e) y && is_owed wait closed y) (and_make (has (page_of e) e) (is_owed wait closed e) (eq-eqb (page_of e) (page_of e) refl) h))
      l (every_self l)

  pub not_owed : (p : ℕ) → owed_page wait closed l p ≡ false → Every (λ e. page_of e ≡ p → is_owed wait closed e ≡ false) l
  unfolding owed_page has
  not_owed p h =
      every_map (λ e k z. sym (and_true (eq-eqb (page_of e) p z)) ∙ k) l (any_none (λ e. has p e && is_owed wait closed e) l h)
