-- The settings of document 01 ("Parties and numbers"), their limits, and what follows from them: X, M and every length and
-- offset that the document names. Lengths are in bytes.
use Rattle.std.specs.Prelude.{ℕ, ◌+◌, ◌-◌, ◌*◌, ◌/◌, Bool, ◌&&◌, ◌||◌, eqb, leb}
use Rattle.units.specs.declared.Settings.{Settings}
use Rattle.units.specs.declared.Place.{Place}

-- the largest tick, and any other number of 32 bits
abbrev pub top : ℕ
top = 4294967295

-- widths: the side file's header, an entry of its index; an entry of the recorder's ledger, a place of it
abbrev pub header_length : ℕ
header_length = 36

abbrev pub index_row : ℕ
index_row = 16

abbrev pub entry_row : ℕ
entry_row = 20

abbrev pub place_row : ℕ
place_row = 8

-- P, S, L and E within their limits
abbrev pub between : ℕ → ℕ → ℕ → Bool
between least most n = leb least n && leb n most

abbrev pub page_size : ℕ → Bool
page_size P = eqb P 512 || eqb P 1024 || eqb P 2048 || eqb P 4096

unfoldable pub limits : Settings → Bool
limits s = page_size s.size && between 1 16 s.slots && between 3 8 s.lag && between 1 65535 s.capacity

-- a span of n bytes at an offset is not empty and ends inside its page
abbrev pub inside_page : ℕ → ℕ → ℕ → Bool
inside_page P offset n = leb 1 n && leb (offset + n) P

-- the ticks that the ages count by: the maximum lag
unfoldable pub wait : Settings → ℕ
wait s = s.lag

-- X, the index entries, and M, the image places
unfoldable pub entries : Settings → ℕ
entries s = (wait s + 1) * s.slots

unfoldable pub places : Settings → ℕ
places s = (2 * wait s + 1) * s.slots

-- the side file: where the index ends; how much of it a held buffer has, header and index; where image place 0 begins; where
-- a place begins; and the end of image place M - 1
unfoldable pub index_end : Settings → ℕ
index_end s = header_length + index_row * entries s

abbrev pub held_length : Settings → ℕ
held_length s = index_end s

unfoldable pub first_image : Settings → ℕ
first_image s = (index_end s + (s.size - 1)) / s.size * s.size

unfoldable pub image_at : Settings → Place → ℕ
image_at s q = first_image s + q.0 * s.size

unfoldable pub side_length : Settings → ℕ
side_length s = first_image s + places s * s.size

-- the recorder's other slices: base, page buffer, ledger (entries, then places)
unfoldable pub base_length : Settings → ℕ
base_length s = s.capacity * s.size

unfoldable pub buffer_length : Settings → ℕ
buffer_length s = s.slots * s.size

unfoldable pub places_at : Settings → ℕ
places_at s = entry_row * entries s

unfoldable pub ledger_length : Settings → ℕ
ledger_length s = places_at s + place_row * places s
