-- What a close looks at, and not the rest of a state: the contracts of its parts speak of every world with this. Assumes nothing.
use Rattle.std.specs.Prelude.{ℕ, List}
use Rattle.units.specs.declared.Page.{Page}
use Rattle.units.specs.declared.Settings.{Settings}
use Rattle.slots.specs.Table.{set_changed}
use Rattle.recorder.specs.World.{World, set_slots, set_state, set_ledger, set_base, set_side, set_buffer}
use Rattle.recorder.specs.declared.State.{State}

-- the world with these settings, this e, so many entries, these pages in the slots, and this ledger
abbrev pub handed : Settings → ℕ → ℕ → List Page → List ℕ → World → World
handed settings end entries pages ledger w =
    let s = w.state in
    set_ledger ledger
    (set_state
    (record {
      settings = settings;
      end = end;
      closed = s.closed;
      entries = entries;
      slots = record { pages = pages; changed = s.slots.changed; order = s.slots.order; used = s.slots.used };
      meta = s.meta;
      raw = s.raw;
    })
    w)

-- with these flags of change; with these files and this page buffer
abbrev pub flagged : List ℕ → World → World
flagged changed w = set_state (set_slots (set_changed changed w.state.slots) w.state) w

abbrev pub filed : List ℕ → List ℕ → List ℕ → World → World
filed base side buffer w = set_base base (set_side side (set_buffer buffer w))

-- with these parts of a state, and a ledger
abbrev pub seen : State → List ℕ → World → World
seen s ledger w = handed s.settings s.end s.entries s.slots.pages ledger (flagged s.slots.changed w)
