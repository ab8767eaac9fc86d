-- The desk's read: the tests 3 to 6, where the bytes lie, and the test of 14. The answer has four parts, of which each of the
-- calls shows some.
use Rattle.std.specs.Prelude.{ℕ, ◌+◌, ◌*◌, List, [], ◌∷◌, ◌++◌, eqb, ltb, leb, length}
use Rattle.std.proofs.Math.Option.{Option, some, none}
use Rattle.lists.specs.Bools.{if_then}
use Rattle.lists.specs.Scans.{first}
use Rattle.octets.specs.Part.{part}
use Rattle.units.specs.Refusals as Refusals
use Rattle.units.specs.Sizes.{inside_page, image_at}
use Rattle.units.specs.Tests.{Test, passes, tested}
use Rattle.sidefile.specs.Encode.{image_sum, header_of, index_of}
use Rattle.sidefile.specs.Judge.{front_tests, held_tests}
use Rattle.sidefile.specs.declared.Header.{Header}
use Rattle.sidefile.specs.declared.IndexEntry.{IndexEntry}
use Rattle.desk.specs.Take.{same_settings, within_lag}

-- source: 0 the base, 1 the side file; offset: where in it the bytes begin
pub record Answer : Type 0 where
  pub number : ℕ
  pub source : ℕ
  pub offset : ℕ
  pub bytes : List ℕ

-- the empty part at the base's start
abbrev pub refused : ℕ → Answer
refused n = record { number = n; source = 0; offset = 0; bytes = [] }

-- 3, 11, 12, 13, 2, 4, 6; of the side file only header and length are judged
unfoldable pub span_tests : Header → List ℕ → ℕ → ℕ → ℕ → List Test
span_tests held base p offset n =
    (Refusals.short, leb (held.settings.size * held.end) (length base))
    ∷ (Refusals.page, ltb p held.end)
    ∷ (Refusals.span, inside_page held.settings.size offset n)
    ∷ []

unfoldable pub read_tests : List ℕ → List ℕ → List ℕ → ℕ → ℕ → ℕ → List Test
read_tests held side base p offset n =
    (Refusals.state, passes (held_tests held))
    ∷ (front_tests (length side) side
    ++ ((Refusals.damaged, same_settings (header_of held).settings (header_of side).settings)
    ∷ (Refusals.lag, within_lag (header_of held) (header_of side))
    ∷ span_tests (header_of held) base p offset n))

-- the held entry of a page
unfoldable pub held_entry : List IndexEntry → ℕ → Option IndexEntry
held_entry es p = first (λ x. eqb x.page.0 p) es

-- with an entry the bytes are those of its image, whose checksum is judged whole; without one, those of the base
unfoldable pub located : Header → List ℕ → List ℕ → ℕ → ℕ → ℕ → Option IndexEntry → Answer
located held side base p offset n none =
    record { number = 0; source = 0; offset = p * held.settings.size + offset; bytes = part base (p * held.settings.size + offset) n }
located held side base p offset n (some x) =
    if_then (eqb (image_sum x.page (part side (image_at held.settings x.place) held.settings.size)) x.sum)
    (record { number = 0; source = 1; offset = image_at held.settings x.place + offset; bytes = part side (image_at held.settings x.place + offset) n })
    (refused Refusals.image)

unfoldable pub desk_read : List ℕ → List ℕ → List ℕ → ℕ → ℕ → ℕ → Answer
desk_read held side base p offset n =
    tested (read_tests held side base p offset n) refused
    (located (header_of held) side base p offset n (held_entry (index_of held) p))
