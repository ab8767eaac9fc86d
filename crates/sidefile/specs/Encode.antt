-- The side file's bytes: header and index (document 01, "The side file"), written and read. Offsets and widths stand here
-- and in units' Sizes alone.
use Rattle.std.specs.Prelude.{ℕ, ◌-◌, ◌*◌, List, [], ◌∷◌, ◌++◌, map, length, drop, replicate}
use Rattle.lookup3.specs.Hash.{hashlittle}
use Rattle.octets.specs.Number.{bytes16, bytes32, le16, le32}
use Rattle.octets.specs.Rows.{rows, join}
use Rattle.units.specs.Ages.{tick}
use Rattle.units.specs.Sizes.{header_length, index_row, entries}
use Rattle.units.specs.declared.Settings.{Settings}
use Rattle.units.specs.declared.Tick.{Tick}
use Rattle.units.specs.declared.Page.{Page}
use Rattle.sidefile.specs.declared.Header.{Header}
use Rattle.sidefile.specs.declared.IndexEntry.{IndexEntry}

-- lookup3 with start value 0; the checksum of a page's image takes the page as well, and does not look at it
unfoldable pub checksum : List ℕ → ℕ
checksum xs = hashlittle xs 0

unfoldable pub image_sum : Page → List ℕ → ℕ
image_sum p xs = checksum xs

-- the mark "TWL" and a zero; the version
abbrev pub mark : List ℕ
mark = 84 ∷ 87 ∷ 76 ∷ 0 ∷ []

abbrev pub version : ℕ
version = 1

-- the settings as far as a side file names them
abbrev pub named : Settings → Settings
named s = record { size = s.size; slots = s.slots; lag = s.lag; capacity = 65535 }

-- bytes 0 to 31 of a header, with the checksum of the index's entries; and the header
unfoldable pub header_front : Header → ℕ → List ℕ
header_front h index_sum =
    mark ++ (bytes16 version ++ (bytes16 h.settings.lag ++ (bytes32 h.settings.size ++ (bytes32 h.closed.0
    ++ (bytes32 h.end ++ (bytes32 h.entries ++ (bytes16 h.settings.slots ++ (bytes16 0 ++ bytes32 index_sum))))))))

unfoldable pub header_bytes : Header → ℕ → List ℕ
header_bytes h index_sum = header_front h index_sum ++ bytes32 (checksum (header_front h index_sum))

-- the row of an entry, the rows of all, and the index: X rows, those from n on zero
unfoldable pub index_row_of : IndexEntry → List ℕ
index_row_of x = bytes32 x.page.0 ++ (bytes32 x.place.0 ++ (bytes32 x.changed.0 ++ bytes32 x.sum))

unfoldable pub index_rows : List IndexEntry → List ℕ
index_rows xs = join (map index_row_of xs)

unfoldable pub index_bytes : Settings → List IndexEntry → List ℕ
index_bytes s xs = index_rows xs ++ replicate (index_row * (entries s - length xs)) 0

-- the header of a tick closed with these entries
abbrev pub header_of_close : Settings → Tick → ℕ → List IndexEntry → Header
header_of_close s closed end xs = record { settings = s; closed = closed; end = end; entries = length xs }

unfoldable pub header_for : Settings → Tick → ℕ → List IndexEntry → List ℕ
header_for s closed end xs = header_bytes (header_of_close s closed end xs) (checksum (index_rows xs))

-- what a header says, and the entries that it counts
unfoldable pub header_of : List ℕ → Header
header_of xs =
    record {
      settings = record { size = le32 xs 8; slots = le16 xs 24; lag = le16 xs 6; capacity = 65535 };
      closed = tick (le32 xs 12);
      end = le32 xs 16;
      entries = le32 xs 20;
    }

unfoldable pub index_entry_of : List ℕ → IndexEntry
index_entry_of r = record { page = record { 0 = le32 r 0 }; place = record { 0 = le32 r 4 }; changed = tick (le32 r 8); sum = le32 r 12 }

unfoldable pub index_of : List ℕ → List IndexEntry
index_of xs = map index_entry_of (rows index_row (header_of xs).entries (drop header_length xs))
