-- What the recorder closes, the reader takes. First for any side file that begins with an encoding of good numbers, whatever
-- wrote it; then for the side file of a good world: a held buffer that has its index. Assumes nothing.
use Rattle.std.specs.Prelude.{ℕ, ◌≤◌, ◌≡◌, refl, length}
use Rattle.std.proofs.Common.{◌∙◌, sym, arith, le-leb}
use Rattle.std.proofs.Math.Path.{ap}
use Rattle.std.proofs.Math.Bool.{true}
use mathlib.Core.List.{List, [], ◌∷◌, ◌++◌, map}
use Rattle.std.proofs.Math.Dec.{leb}
use Rattle.lists.specs.laws.Bools.{and_make}
use Rattle.octets.specs.Part.{part, lay}
use Rattle.octets.specs.laws.Part.{part_lay_same}
use Rattle.units.specs.Refusals as Refusals
use Rattle.units.specs.Sizes.{entries, index_end, side_length}
use Rattle.units.specs.Tests.{passes}
use Rattle.units.specs.laws.Tests.{tested_passes, passes_append}
use Rattle.units.specs.declared.Settings.{Settings}
use Rattle.units.specs.declared.Tick.{Tick}
use Rattle.sidefile.specs.laws.Accept.{file_header, file_index, file_long, whole_passes, front_passes, held_passes}
use Rattle.sidefile.specs.laws.Decode.{Encodes}
use Rattle.sidefile.specs.Encode.{named, header_for, index_bytes, header_of, index_of}
use Rattle.sidefile.specs.Judge.{whole_tests, front_tests, held_tests}
use Rattle.sidefile.specs.laws.Lengths.{length_encoded, index_end_named}
use Rattle.sidefile.specs.declared.Header.{Header}
use Rattle.sidefile.specs.declared.IndexEntry.{IndexEntry}
use Rattle.ledger.specs.laws.Rowed as Rowed
use Rattle.ledger.specs.View.{indexed}
use Rattle.recorder.specs.World.{World, entries_of}
use Rattle.desk.specs.Take.{Taken, untaken, held_length, taken, take_tests, take_reply}
use Rattle.promises.specs.worlds.Encoded.{encodes_good}
use Rattle.promises.specs.worlds.Good.{front_at, Good}

-- what a desk reads in the header of a tick closed with these entries
abbrev pub header_read : Settings → Tick → ℕ → List IndexEntry → Header
header_read s closed end xs = record { settings = named s; closed = closed; end = end; entries = length xs }

-- a side file that begins with an encoding, and a buffer with room for it
module _ (s : Settings) (closed : Tick) (end : ℕ) (xs : List IndexEntry) (e : Encodes s closed end xs) (side : List ℕ)
    (front : part side 0 (index_end s) ≡ header_for s closed end xs ++ index_bytes s xs) where
  pub front_length : length (part side 0 (index_end s)) ≡ index_end s
  front_length = ap length front ∙ length_encoded s closed end xs e.few

  -- how much of it is held
  pub held_length_lem : held_length side ≡ index_end s
  held_length_lem = ap (λ (h : Header). index_end h.settings) (file_header s closed end xs e side front) ∙ index_end_named s

  pub taken_is : (held : List ℕ) → taken side held ≡ lay held 0 (part side 0 (index_end s))
  unfolding taken
  taken_is held = ap (λ (n : ℕ). lay held 0 (part side 0 n)) held_length_lem

  module _ (held : List ℕ) (room : index_end s ≤ length held) where
    -- it is in the buffer then
    pub taken_front : part (taken side held) 0 (index_end s) ≡ part side 0 (index_end s)
    taken_front =
        ap (λ (h : List ℕ). part h 0 (index_end s)) (taken_is held)
        ∙ ap (part (lay held 0 (part side 0 (index_end s))) 0) (sym front_length)
        ∙ part_lay_same held 0 (part side 0 (index_end s)) (omega (arith, front_length))

    module _ (long : side_length s ≤ length side) where
      pub take_accepts : take_reply side held ≡ record { number = 0; held = lay held 0 (part side 0 (index_end s)); marks = [] }
      unfolding take_reply take_tests passes
      take_accepts =
          tested_passes (untaken held []) _ (take_tests side held)
          (passes_append (whole_tests (length side) side) ((Refusals.short, leb (held_length side) (length held)) ∷ [])
          (whole_passes s closed end xs e side front (length side) long)
          (and_make (leb (held_length side) (length held)) true (rw held_length_lem (le-leb (index_end s) (length held) room)) refl))
          ∙ ap (λ (h : List ℕ). record { number = 0; held = h; marks = [] }) (taken_is held)

      -- and the desk holds what was encoded
      pub take_front : part (take_reply side held).held 0 (index_end s) ≡ part side 0 (index_end s)
      take_front =
          ap (λ (r : Taken). part r.held 0 (index_end s)) take_accepts
          ∙ ap (λ (h : List ℕ). part h 0 (index_end s)) (sym (taken_is held))
          ∙ taken_front

      pub taken_header : header_of (take_reply side held).held ≡ header_read s closed end xs
      taken_header = file_header s closed end xs e (take_reply side held).held (take_front ∙ front)

      pub taken_index : index_of (take_reply side held).held ≡ xs
      taken_index = file_index s closed end xs e (take_reply side held).held (take_front ∙ front)

-- a desk's buffer has the index of a world
abbrev pub Took : World → List ℕ → Type 0
Took w held = part held 0 (index_end w.state.settings) ≡ part w.side 0 (index_end w.state.settings)

-- the entries of a world as its index has them, and the header that a desk reads
abbrev pub index_in : World → List IndexEntry
index_in w = map indexed (entries_of w)

abbrev pub header_in : World → ℕ → Header
header_in w end = header_read w.state.settings w.state.closed end (index_in w)

-- a good world
module _ (w : World) (g : Good w) where
  abbrev s : Settings
  s = w.state.settings

  abbrev encodes : Encodes s w.state.closed g.ending (index_in w)
  encodes = encodes_good w g

  pub side_long : side_length s ≤ length w.side
  unfolding side_length
  side_long = g.ruled.lengths.side_long

  -- what the recorder closes, the reader takes
  module _ (held : List ℕ) (room : index_end s ≤ length held) where
    pub takes : take_reply w.side held ≡ record { number = 0; held = lay held 0 (part w.side 0 (index_end s)); marks = [] }
    takes = take_accepts s w.state.closed g.ending (index_in w) encodes w.side g.front held room side_long

    pub took_take : Took w (take_reply w.side held).held
    took_take = take_front s w.state.closed g.ending (index_in w) encodes w.side g.front held room side_long

  -- a buffer that has its index, however it came there
  module _ (held : List ℕ) (t : Took w held) where
    pub held_front : part held 0 (index_end s) ≡ front_at w g.ending
    held_front = t ∙ g.front

    pub held_header : header_of held ≡ header_in w g.ending
    held_header = file_header s w.state.closed g.ending (index_in w) encodes held held_front

    pub held_index : index_of held ≡ index_in w
    held_index = file_index s w.state.closed g.ending (index_in w) encodes held held_front

    pub held_long : index_end s ≤ length held
    held_long = file_long s w.state.closed g.ending (index_in w) encodes held held_front

    pub held_accepted : passes (held_tests held) ≡ true
    held_accepted = held_passes s w.state.closed g.ending (index_in w) encodes held held_front

  -- its own side file has it
  pub side_header : header_of w.side ≡ header_in w g.ending
  side_header = held_header w.side refl

  pub side_index : index_of w.side ≡ index_in w
  side_index = held_index w.side refl

  pub side_accepted : passes (whole_tests (length w.side) w.side) ≡ true
  side_accepted = whole_passes s w.state.closed g.ending (index_in w) encodes w.side g.front (length w.side) side_long

  pub front_accepted : passes (front_tests (length w.side) w.side) ≡ true
  front_accepted = front_passes s w.state.closed g.ending (index_in w) encodes w.side g.front (length w.side) side_long
