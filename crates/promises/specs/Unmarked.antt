-- The clause of the letter that failed, as it should have read: what the marks of a refresh tell. A desk took its index at one
-- close of a recording and refreshes at a later close of the same recording, within the maximum lag. A metadata page that is
-- not marked was in the file at both closes and held the same bytes at both; one that came into the file in between is
-- marked; and a marked page has an entry whose last change is after the held tick, which is all that a refresh compares.
-- The statement, over recordings as Demand.antt has them; desks/Telling proves it (refresh_tells).
use Rattle.std.specs.Prelude.{ℕ, ◌+◌, ◌<◌, ◌≤◌, List, ◌++◌, ◌≡◌, ◌⊎◌, length, get_or}
use Rattle.std.proofs.Math.Option.{some}
use Rattle.ledger.specs.Entries.{find}
use Rattle.ledger.specs.declared.Entry.{Entry}
use Rattle.recorder.specs.Runs.{Call, Recording, opening, reached, held_by}
use Rattle.recorder.specs.World.{entries_of, kind_of}
use Rattle.desk.specs.Take.{Taken, refresh_reply}
use Rattle.promises.specs.Demand.{AtClose, later, WithinLag, HoldsIndex, SideNow}

-- the recording with further calls made
abbrev pub further : Recording → List Call → Recording
further r more = record { settings = r.settings; end = r.end; tick = r.tick; lent = r.lent; calls = r.calls ++ more }

-- the mark of page p in what a refresh leaves
abbrev pub mark : Taken → ℕ → ℕ
mark x p = get_or x.marks p 0

-- what a refresh x after those calls tells
pub record Told (r : Recording) (more : List Call) (x : Taken) : Type 0 where
  -- the refresh is accepted, and the desk holds the index of the later close then
  pub accepted : x.number ≡ 0
  pub holds : HoldsIndex (further r more) x.held
  -- each page in the file is marked or not
  pub two : (p : ℕ) → p < (later r more).state.end → (mark x p ≡ 0) ⊎ (mark x p ≡ 1)
  -- a metadata page that is not marked held the same bytes at both closes
  pub unmarked : (p : ℕ) → p < (reached r).state.end → kind_of (reached r) p ≡ 0 → mark x p ≡ 0 → held_by (further r more) p ≡ held_by r p
  -- one that was not in the file at the earlier close is marked
  pub newer : (p : ℕ) → (reached r).state.end ≤ p → p < (later r more).state.end → kind_of (later r more) p ≡ 0 → mark x p ≡ 1
  -- a marked page has an entry whose last change is after the held tick
  pub marked : (p : ℕ) → p < (later r more).state.end → mark x p ≡ 1
      → (e : Entry) × (find p (entries_of (later r more)) ≡ some e) × ((reached r).state.closed.0 < e.changed.0)

abbrev pub RefreshTells : Type 0
RefreshTells =
    (r : Recording) → (opening r).number ≡ 0 → AtClose r
    → (more : List Call) → AtClose (further r more) → WithinLag r more
    → (held : List ℕ) → HoldsIndex r held
    → (marks : List ℕ) → (later r more).state.end ≤ length marks
    → (side : List ℕ) → SideNow r (later r more) side
    → Told r more (refresh_reply side held marks)
