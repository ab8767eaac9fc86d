-- The judge of a side file: the tests of refusals 11 and 12, in the order of document 01's table. Its three extents: whole
-- (take, refresh, the listing), header and length (the desk's read), and a held buffer, which has its own length to ask for.
-- The bytes at hand may be a prefix of the file, so the whole length is a number of its own.
use Rattle.std.specs.Prelude.{ℕ, ◌+◌, ◌-◌, ◌*◌, Bool, true, not, ◌&&◌, List, [], ◌∷◌, ◌++◌, eqb, ltb, leb, length, take, get_or}
use Rattle.lists.specs.Scans.{any_of, all_of}
use Rattle.octets.specs.Number.{le16, le32}
use Rattle.octets.specs.Part.{part}
use Rattle.units.specs.Refusals.{foreign, damaged}
use Rattle.units.specs.Sizes.{header_length, index_row, limits, entries, places, index_end, side_length}
use Rattle.units.specs.Tests.{Test}
use Rattle.units.specs.declared.Settings.{Settings}
use Rattle.sidefile.specs.declared.IndexEntry.{IndexEntry}
use Rattle.sidefile.specs.Encode.{checksum, version, header_of, index_of}

-- pages ascend strictly, from low on
unfoldable pub ascending : ℕ → List IndexEntry → Bool
ascending low [] = true
ascending low (x ∷ xs) = leb low x.page.0 && ascending (x.page.0 + 1) xs

-- no place is used twice
unfoldable pub apart : List IndexEntry → Bool
apart [] = true
apart (x ∷ xs) = not (any_of (λ y. eqb y.place.0 x.place.0) xs) && apart xs

-- 11: the length of a header, the mark, byte 3, the version
unfoldable pub mark_tests : List ℕ → List Test
mark_tests xs =
    (foreign, leb header_length (length xs))
    ∷ (foreign, eqb (get_or xs 0 0) 84)
    ∷ (foreign, eqb (get_or xs 1 0) 87)
    ∷ (foreign, eqb (get_or xs 2 0) 76)
    ∷ (foreign, eqb (get_or xs 3 0) 0)
    ∷ (foreign, eqb (le16 xs 4) version)
    ∷ []

-- 12, of the header: its checksum, the settings, bytes 26 and 27, the length, e, n
unfoldable pub header_tests : (Settings → Bool) → List ℕ → List Test
header_tests long xs =
    (damaged, eqb (checksum (take 32 xs)) (le32 xs 32))
    ∷ (damaged, limits (header_of xs).settings)
    ∷ (damaged, eqb (le16 xs 26) 0)
    ∷ (damaged, long (header_of xs).settings)
    ∷ (damaged, leb (header_of xs).end 65535)
    ∷ (damaged, leb (header_of xs).entries (entries (header_of xs).settings))
    ∷ []

-- 12, of the index: pages ascending and below e, places below M and apart, last changes, spare entries, the checksum
unfoldable pub index_tests : List ℕ → List Test
index_tests xs =
    (damaged, ascending 0 (index_of xs))
    ∷ (damaged, all_of (λ x. ltb x.page.0 (header_of xs).end) (index_of xs))
    ∷ (damaged, all_of (λ x. ltb x.place.0 (places (header_of xs).settings)) (index_of xs))
    ∷ (damaged, apart (index_of xs))
    ∷ (damaged, all_of (λ x. leb x.changed.0 (header_of xs).closed.0) (index_of xs))
    ∷ (damaged, all_of (eqb 0) (part xs (header_length + index_row * (header_of xs).entries) (index_row * (entries (header_of xs).settings - (header_of xs).entries))))
    ∷ (damaged, eqb (checksum (part xs header_length (index_row * (header_of xs).entries))) (le32 xs 28))
    ∷ []

-- a file of n bytes reaches the end of image place M - 1
abbrev pub reaches : ℕ → Settings → Bool
reaches n s = leb (side_length s) n

-- a held buffer has room for header and index
abbrev pub holds : ℕ → Settings → Bool
holds n s = leb (index_end s) n

unfoldable pub whole_tests : ℕ → List ℕ → List Test
whole_tests n xs = mark_tests xs ++ (header_tests (reaches n) xs ++ index_tests xs)

unfoldable pub front_tests : ℕ → List ℕ → List Test
front_tests n xs = mark_tests xs ++ header_tests (reaches n) xs

unfoldable pub held_tests : List ℕ → List Test
held_tests xs = mark_tests xs ++ (header_tests (holds (length xs)) xs ++ index_tests xs)
