-- The state rules of document 01 that speak of the ledger: those of one entry, and those of all entries and places; `end` is e,
-- and `seated` says which pages are in slots.
use Rattle.std.specs.Prelude.{ℕ, Bool, not, ◌&&◌, ◌||◌, List, map, ltb, leb}
use Rattle.lists.specs.Below.{below}
use Rattle.lists.specs.Scans.{all_of}
use Rattle.units.specs.Sizes.{wait, places}
use Rattle.units.specs.declared.Settings.{Settings}
use Rattle.units.specs.declared.Tick.{Tick}
use Rattle.sidefile.specs.Judge.{ascending, apart}
use Rattle.ledger.specs.declared.Entry.{Entry}
use Rattle.ledger.specs.View.{indexed, entries_in, retired, retired_at}
use Rattle.ledger.specs.Entries.{page_of, place_of, is_owed}

-- one entry: its page below e, entry tick at most last change at most closed tick, owed only in a slot, its place below M and
-- not retired
unfoldable pub entry_rules : Settings → ℕ → Tick → (ℕ → Bool) → List ℕ → Entry → Bool
entry_rules s end closed seated ledger e =
    ltb (page_of e) end
    && leb e.entered.0 e.changed.0
    && leb e.changed.0 closed.0
    && (not (is_owed (wait s) closed e) || seated (page_of e))
    && ltb (place_of e) (places s)
    && not (retired s ledger (place_of e))

-- a retired place was retired by then
abbrev pub retired_by : Settings → List ℕ → Tick → ℕ → Bool
retired_by s ledger t q = not (retired s ledger q) || leb (retired_at s ledger q).0 t.0

-- the first n entries: pages ascend, each keeps its rules, no place is held twice; and all places
unfoldable pub ledger_rules : Settings → ℕ → Tick → (ℕ → Bool) → ℕ → List ℕ → Bool
ledger_rules s end closed seated n ledger =
    ascending 0 (map indexed (entries_in n ledger))
    && all_of (entry_rules s end closed seated ledger) (entries_in n ledger)
    && apart (map indexed (entries_in n ledger))
    && all_of (retired_by s ledger closed) (below (places s))
