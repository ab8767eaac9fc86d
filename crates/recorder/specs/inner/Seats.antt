-- What the judge asks of one slot, by the page in it alone.
use Rattle.std.specs.Prelude.{ℕ, ◌<◌, ◌≢◌, Bool, ◌||◌, List, eqb, get_or}
use Rattle.units.specs.declared.Page.{Page}
use Rattle.slots.specs.Table.{no_page}

-- the slot is empty, or its page is below n; is empty, or its page is metadata
abbrev pub SeatBelow : ℕ → Page → Type 0
SeatBelow n p = p.0 ≢ no_page → p.0 < n

abbrev pub seat_fits : List ℕ → Page → Bool
seat_fits kinds p = eqb p.0 no_page || eqb (get_or kinds p.0 0) 0
