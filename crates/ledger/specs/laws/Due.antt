-- The entries that a close writes to the base: which pages are written, and which are not. A page that entered after a tick is
-- not written within the wait of it, so that a desk of that tick reads the base as it was. Assumes nothing.
use Rattle.std.specs.Prelude.{ℕ, ◌+◌, ◌<◌, ◌≤◌, ◌≡◌, Bool, true, false, List, map, ◌⊎◌}
use Rattle.std.proofs.Common.{inl, inr}
use borrow.Author.Tests.{eqb-false}
use Rattle.lists.specs.laws.Bools.{not_both}
use Rattle.lists.specs.Scans.{Every, keep, any_of}
use Rattle.lists.specs.laws.Scans.{every_map, every_keep, any_none}
use Rattle.sidefile.specs.Judge.{ascending, apart}
use Rattle.ledger.specs.declared.Entry.{Entry}
use Rattle.ledger.specs.View.{indexed}
use Rattle.ledger.specs.Entries.{page_of, has, is_owed, is_due}
use Rattle.ledger.specs.laws.Ordered.{self_kept, other_kept}
use Rattle.ledger.specs.laws.Aged.{stay_split, due_unchanged, due_late}
use Rattle.ledger.specs.laws.Closing.{Closing, now, wait_of, later_of, IsNew, IsStay, later_facts, asc_later, entered_later}

abbrev pub due_in : Closing → Entry → Bool
due_in c e = is_due (wait_of c) (now c) c.changed_in e

abbrev pub due_of : Closing → List Entry
due_of c = keep (due_in c) (later_of c)

module _ (c : Closing) where
  -- an entry that is due changed in N, or stays and was owed
  pub due_facts : ascending 0 (map indexed c.old) ≡ true → apart (map indexed c.old) ≡ true → {P : Entry → Type 0} → Every P c.old
      → Every (λ e. IsNew c e ⊎ (IsStay c e × (is_owed (wait_of c) c.closed e ≡ true) × P e)) (due_of c)
  due_facts a b {P} old = every_map one (due_of c) (every_keep (due_in c) (later_of c) (later_facts c a b old))
    where
      one : (e : Entry) → (due_in c e ≡ true) × (IsNew c e ⊎ (IsStay c e × P e)) → IsNew c e ⊎ (IsStay c e × (is_owed (wait_of c) c.closed e ≡ true) × P e)
      one e (d, inl n) = inl n
      one e (d, inr s) =
          inr (s.0, due_unchanged (wait_of c) c.changed_in e c.closed.0 (stay_split (wait_of c) c.changed_in e (now c) s.0.stays).0 d, s.1)

  -- the page of a due entry is written, that of another is not, nor that of none
  pub due_here : Every (λ e. due_in c e ≡ true → any_of (has (page_of e)) (due_of c) ≡ true) (later_of c)
  due_here = self_kept (due_in c) (later_of c)

  pub due_not_here : ascending 0 (map indexed c.old) ≡ true → Every (λ e. due_in c e ≡ false → Every (λ y. page_of y ≡ page_of e → ⊥) (due_of c)) (later_of c)
  due_not_here a = other_kept (due_in c) 0 (later_of c) (asc_later c a)

  pub due_nowhere : (p : ℕ) → any_of (has p) (later_of c) ≡ false → Every (λ e. page_of e ≡ p → ⊥) (due_of c)
  unfolding has
  due_nowhere p h = every_map (λ e k z. eqb-false (page_of e) p k.1 z) (due_of c) (every_keep (due_in c) (later_of c) (any_none (has p) (later_of c) h))

  -- a page that entered after t is not written within the wait of t
  pub due_later : (t p : ℕ) → t < (now c).0 → (now c).0 ≤ t + wait_of c → Every (λ e. page_of e ≡ p → t < e.entered.0) c.old → Every (λ e. page_of e ≡ p → ⊥) (due_of c)
  due_later t p h k old =
      every_map (λ e r z. not_both (due_in c e) r.0 (due_late (wait_of c) c.changed_in e t (now c) (r.1 z) k)) (due_of c)
      (every_keep (due_in c) (later_of c) (entered_later c t p h old))
