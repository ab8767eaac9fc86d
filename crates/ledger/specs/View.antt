-- The ledger as lists: its entries, written and read, and what is known of an image place.
use Rattle.std.specs.Prelude.{ℕ, ◌-◌, ◌*◌, Bool, not, List, ◌++◌, map, eqb, length, replicate}
use Rattle.octets.specs.Number.{bytes32, le32}
use Rattle.octets.specs.Rows.{row, rows, join}
use Rattle.units.specs.Ages.{tick}
use Rattle.units.specs.Sizes.{entry_row, place_row, entries, places_at}
use Rattle.units.specs.declared.Settings.{Settings}
use Rattle.units.specs.declared.Tick.{Tick}
use Rattle.sidefile.specs.Encode.{index_row_of}
use Rattle.sidefile.specs.declared.IndexEntry.{IndexEntry}
use Rattle.ledger.specs.declared.Entry.{Entry}

-- an entry as the side file's index has it
abbrev pub indexed : Entry → IndexEntry
indexed e = record { page = e.page; place = e.place; changed = e.changed; sum = e.sum }

-- the row of an entry, and what a row says
unfoldable pub entry_row_of : Entry → List ℕ
entry_row_of e = index_row_of (indexed e) ++ bytes32 e.entered.0

unfoldable pub entry_of : List ℕ → Entry
entry_of r =
    record { page = record { 0 = le32 r 0 }; place = record { 0 = le32 r 4 }; changed = tick (le32 r 8); sum = le32 r 12; entered = tick (le32 r 16) }

-- the first n entries of a ledger
unfoldable pub entries_in : ℕ → List ℕ → List Entry
entries_in n ledger = map entry_of (rows entry_row n ledger)

-- X rows for these entries: those from their number on are zero
unfoldable pub entry_bytes : Settings → List Entry → List ℕ
entry_bytes s es = join (map entry_row_of es) ++ replicate (entry_row * (entries s - length es)) 0

-- the row of place q: whether it is retired, and since when
unfoldable pub place_row_at : Settings → List ℕ → ℕ → List ℕ
place_row_at s ledger q = row (places_at s) place_row q ledger

unfoldable pub retired : Settings → List ℕ → ℕ → Bool
retired s ledger q = not (eqb (le32 (place_row_at s ledger q) 0) 0)

unfoldable pub retired_at : Settings → List ℕ → ℕ → Tick
retired_at s ledger q = tick (le32 (place_row_at s ledger q) 4)

-- a place retired at N, and one that is not retired
unfoldable pub retired_row : Tick → List ℕ
retired_row N = bytes32 1 ++ bytes32 N.0

abbrev pub free_row : List ℕ
free_row = replicate place_row 0
