-- The state rules of document 01 (end of "Numbers of refusal"), in its order, and the lengths that a call asks of its slices.
-- A state that breaks a rule is refused by 3, a short slice by 2; the two rules that look into the kind table come after 2.
use Rattle.std.specs.Prelude.{ℕ, Bool, ◌&&◌, ◌||◌, List, [], ◌∷◌, leb, length}
use Rattle.lists.specs.Below.{below}
use Rattle.lists.specs.Scans.{all_of}
use Rattle.units.specs.Refusals as Refusals
use Rattle.units.specs.Sizes.{limits, entries, side_length, base_length, buffer_length, ledger_length}
use Rattle.units.specs.Tests.{Test}
use Rattle.units.specs.declared.Settings.{Settings}
use Rattle.slots.specs.Rules.{is_some, slot_rules}
use Rattle.slots.specs.Table.{page_at, vacant}
use Rattle.ledger.specs.Entries.{page_of}
use Rattle.ledger.specs.Rules.{ledger_rules}
use Rattle.recorder.specs.World.{World, entries_of, metadata, slot_for, slot_count}

-- page p is in a slot
abbrev pub in_slot : World → ℕ → Bool
in_slot w p = is_some (slot_for w p)

-- the rules that need no other slice than the ledger
unfoldable pub rules : World → Bool
rules w =
    limits w.state.settings
    && leb (ledger_length w.state.settings) (length w.ledger)
    && leb w.state.end w.state.settings.capacity
    && leb w.state.entries (entries w.state.settings)
    && slot_rules (slot_count w) w.state.end w.state.slots
    && ledger_rules w.state.settings w.state.end w.state.closed (in_slot w) w.state.entries w.ledger

-- the other slices are long enough
unfoldable pub long_enough : Settings → World → Bool
long_enough s w =
    leb (base_length s) (length w.base)
    && leb (side_length s) (length w.side)
    && leb (buffer_length s) (length w.buffer)
    && leb s.capacity (length w.kinds)

-- slots and entries are of metadata pages
unfoldable pub kind_rules : World → Bool
kind_rules w =
    all_of (λ i. vacant w.state.slots i || metadata w (page_at w.state.slots i)) (below (slot_count w))
    && all_of (λ e. metadata w (page_of e)) (entries_of w)

-- what every call but open begins with: 3, 2, 3
unfoldable pub standing : World → List Test
standing w =
    (Refusals.state, rules w)
    ∷ (Refusals.short, long_enough w.state.settings w)
    ∷ (Refusals.state, kind_rules w)
    ∷ []
