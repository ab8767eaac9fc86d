-- Take and refresh: a side file's header and index go into the held buffer, and a refresh marks the pages that changed.
use Rattle.std.specs.Prelude.{ℕ, ◌+◌, Bool, ◌&&◌, List, [], ◌∷◌, ◌++◌, map, eqb, ltb, leb, length, drop}
use Rattle.lists.specs.Below.{below}
use Rattle.lists.specs.Bools.{if_then}
use Rattle.lists.specs.Scans.{any_of}
use Rattle.octets.specs.Part.{part, lay}
use Rattle.units.specs.Refusals as Refusals
use Rattle.units.specs.Sizes.{index_end}
use Rattle.units.specs.Tests.{Test, passes, tested}
use Rattle.units.specs.declared.Settings.{Settings}
use Rattle.units.specs.declared.Tick.{Tick}
use Rattle.sidefile.specs.Encode.{header_of, index_of}
use Rattle.sidefile.specs.Judge.{whole_tests, held_tests}
use Rattle.sidefile.specs.declared.Header.{Header}
use Rattle.sidefile.specs.declared.IndexEntry.{IndexEntry}

-- what a take or a refresh answers and leaves: the number, the held buffer, the mark bytes
pub record Taken : Type 0 where
  pub number : ℕ
  pub held : List ℕ
  pub marks : List ℕ

abbrev pub untaken : List ℕ → List ℕ → ℕ → Taken
untaken held marks n = record { number = n; held = held; marks = marks }

-- how much is held of this side file; the held buffer with it
abbrev pub held_length : List ℕ → ℕ
held_length side = index_end (header_of side).settings

unfoldable pub taken : List ℕ → List ℕ → List ℕ
taken side held = lay held 0 (part side 0 (held_length side))

-- take: 11, 12, 2
unfoldable pub take_tests : List ℕ → List ℕ → List Test
take_tests side held = whole_tests (length side) side ++ ((Refusals.short, leb (held_length side) (length held)) ∷ [])

unfoldable pub take_reply : List ℕ → List ℕ → Taken
take_reply side held = tested (take_tests side held) (untaken held []) (record { number = 0; held = taken side held; marks = [] })

-- P, S and L are those held
unfoldable pub same_settings : Settings → Settings → Bool
same_settings held side = eqb held.size side.size && eqb held.slots side.slots && eqb held.lag side.lag

-- the side file's closed tick is not below the held one, and not above it by more than L
unfoldable pub within_lag : Header → Header → Bool
within_lag held side = leb held.closed.0 side.closed.0 && leb side.closed.0 (held.closed.0 + held.settings.lag)

-- the mark of page p: an entry for it with a last change after the held tick
unfoldable pub mark_of : Tick → List IndexEntry → ℕ → ℕ
mark_of held es p = if_then (any_of (λ x. eqb x.page.0 p && ltb held.0 x.changed.0) es) 1 0

unfoldable pub marks_after : List ℕ → List ℕ → List ℕ → List ℕ
marks_after side held marks =
    map (mark_of (header_of held).closed (index_of side)) (below (header_of side).end) ++ drop (header_of side).end marks

-- refresh: 3, 11, 12, 13, 2
unfoldable pub refresh_tests : List ℕ → List ℕ → List ℕ → List Test
refresh_tests side held marks =
    (Refusals.state, passes (held_tests held))
    ∷ (whole_tests (length side) side
    ++ ((Refusals.damaged, same_settings (header_of held).settings (header_of side).settings)
    ∷ (Refusals.lag, within_lag (header_of held) (header_of side))
    ∷ (Refusals.short, leb (header_of side).end (length marks))
    ∷ []))

unfoldable pub refresh_reply : List ℕ → List ℕ → List ℕ → Taken
refresh_reply side held marks =
    tested (refresh_tests side held marks) (untaken held marks)
    (record { number = 0; held = taken side held; marks = marks_after side held marks })
