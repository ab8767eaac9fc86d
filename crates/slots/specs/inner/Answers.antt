-- What the code's answers say in the terms of the table: a seat, the table with a page in it; and what uses, loads and
-- evictions share.
use Rattle.std.specs.Prelude.{ℕ, Bool, true, false, [], ◌∷◌, ◌++◌, map, set, Option, Some, None}
use Rattle.std.proofs.Math.Option as Maybe
use Rattle.slots.specs.Table as Table
use Rattle.slots.specs.Table.{to_page, set_page, set_changed, set_order, uses, spare_uses, without, loaded, evicted}
use Rattle.slots.specs.declared.Slots.{Slots}
use Rattle.slots.specs.declared.seats.Seat.{Seat}

-- the seat that a page gets, without the table that it makes
abbrev pub seating : Maybe.Option Table.Seat → Option Seat
seating (Maybe.some s) = Some (record { slot = s.slot; evicts = s.evicts })
seating Maybe.none = None

-- the table with page p in slot i, an empty one or one whose page is evicted
abbrev pub taken : ℕ → Bool → ℕ → Slots → Slots
taken i false p t = loaded i p t
taken i true p t = evicted i p t

-- the table with page p in slot i, not changed
abbrev pub fresh : ℕ → ℕ → Slots → Slots
fresh i p t = set_page i p (set_changed (set t.changed i 0) t)

-- the table with page p last in the order of use, and the page `gone` out of it
unfoldable pub relisted : ℕ → ℕ → Slots → Slots
relisted gone p t = set_order (map to_page (without gone (uses t) ++ (p ∷ [])) ++ spare_uses t.used t) t.used t
