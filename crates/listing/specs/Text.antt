-- The text of a listing (document 01, "Listing"; decision 38), for a side file of n bytes whose first bytes are at hand.
use Rattle.std.specs.Prelude.{ℕ, ◌+◌, ◌*◌, List, [], ◌∷◌, ◌++◌, map}
use Prim.Native.Char.{code}
use Prim.Native.String.{String, [] as []ˢ, ◌∷◌ as ◌∷ˢ◌}
use Rattle.octets.specs.Rows.{join}
use Rattle.units.specs.Tests.{tested}
use Rattle.sidefile.specs.Encode.{header_of, index_of}
use Rattle.sidefile.specs.Judge.{whole_tests}
use Rattle.sidefile.specs.declared.Header.{Header}
use Rattle.sidefile.specs.declared.IndexEntry.{IndexEntry}
use Rattle.listing.specs.Decimal.{decimal}

-- words as ASCII bytes
unfoldable pub ascii : String → List ℕ
ascii []ˢ = []
ascii (c ∷ˢ s) = code c ∷ ascii s

-- the first line: closed tick, e, n
unfoldable pub head_line : Header → List ℕ
head_line h =
    ascii "tick " ++ (decimal h.closed.0 ++ (ascii " end " ++ (decimal h.end ++ (ascii " entries " ++ (decimal h.entries ++ ascii "\n")))))

-- the line of an entry: page, place, last change; and the lines of all
unfoldable pub entry_line : IndexEntry → List ℕ
entry_line x =
    decimal x.page.0 ++ (ascii " " ++ (decimal x.place.0 ++ (ascii " " ++ (decimal x.changed.0 ++ ascii "\n"))))

unfoldable pub entry_lines : List IndexEntry → List ℕ
entry_lines xs = join (map entry_line xs)

-- all that is printed of a refused file, by its number
unfoldable pub refused_line : ℕ → List ℕ
refused_line number = ascii "refused " ++ (decimal number ++ ascii "\n")

-- the listing: the tests of a whole side file, the number of the first that fails; the lines, if all pass
unfoldable pub listing : ℕ → List ℕ → List ℕ
listing n xs = tested (whole_tests n xs) refused_line (head_line (header_of xs) ++ entry_lines (index_of xs))

-- how long it gets: numbers have ten digits at most, and entries are at most 144
abbrev pub most_text : ℕ
most_text = 50 + 144 * 33
