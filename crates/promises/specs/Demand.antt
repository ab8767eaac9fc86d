-- Demand 3 of the letter, as a statement. Read it with the letter in the other hand: each name below stands for one clause
-- of its third term, in the order of the text. closes/Demanded proves it. Nothing is assumed beside what the letter says.
use Rattle.std.specs.Prelude.{ℕ, ◌+◌, ◌*◌, ◌<◌, ◌≤◌, List, [], ◌∷◌, ◌++◌, map, ◌≡◌, length, take, replicate}
use Rattle.octets.specs.Part.{part}
use Rattle.units.specs.Sizes.{index_end, side_length, base_length}
use Rattle.recorder.specs.World.{World, kind_of}
use Rattle.recorder.specs.Close.{close_reply}
use Rattle.recorder.specs.Runs.{Call, read, write, grow, close, run, Recording, opening, reached, held_by}
use Rattle.desk.specs.Read.{Answer, desk_read}

-- The recording stands at the close of a tick: right after an accepted close, or right after its open, which counts as the
-- close of tick B.
pub data AtClose (r : Recording) : Type 0 where
  just_opened : r.calls ≡ [] → AtClose r
  just_closed : (before : List Call) → r.calls ≡ before ++ (close ∷ []) → (close_reply (run before (opening r).world)).number ≡ 0 → AtClose r

-- What makes calls equal is what they ask for. Of the slice that a read is to fill, that is its length, not what stood in it.
abbrev pub asks : Call → Call
asks (read p offset into) = read p offset (replicate (length into) 0)
asks (write p offset bs) = write p offset bs
asks (grow kind) = grow kind
asks close = close

-- Clause: two recordings that are the same up to that close, in settings, starting files, kinds and calls. Page buffers,
-- ledgers and whatever lies behind the bytes that the settings ask for may differ.
pub record SameUpToClose (a b : Recording) : Type 0 where
  pub settings : b.settings ≡ a.settings
  pub end : b.end ≡ a.end
  pub tick : b.tick ≡ a.tick
  pub base : take (base_length a.settings) b.lent.base ≡ take (base_length a.settings) a.lent.base
  pub side : take (side_length a.settings) b.lent.side ≡ take (side_length a.settings) a.lent.side
  pub kinds : take a.settings.capacity b.lent.kinds ≡ take a.settings.capacity a.lent.kinds
  pub calls : map asks b.calls ≡ map asks a.calls
  pub a_opens : (opening a).number ≡ 0
  pub b_opens : (opening b).number ≡ 0
  pub at_close : AtClose a

-- Clause: from there each goes its own way: any further calls, accepted or refused; the world that they lead to
abbrev pub later : Recording → List Call → World
later r more = run more (reached r)

-- Clause: no more further ticks are closed than the maximum lag
abbrev pub WithinLag : Recording → List Call → Type 0
WithinLag r more = (later r more).state.closed.0 ≤ (reached r).state.closed.0 + r.settings.lag

-- Clause: the desk has the index of that close: its held buffer begins with the header and index of it. A take or a refresh
-- at that close, or later in the same open tick, leaves it so (Holding: take_holds, refresh_holds).
abbrev pub HoldsIndex : Recording → List ℕ → Type 0
HoldsIndex r held = part held 0 (index_end r.settings) ≡ part (reached r).side 0 (index_end r.settings)

-- Clause: the desk reads between the recorder's calls: it is lent the recorder's two files as they are now, each as far as a
-- desk has to have it: the side file to the end of its last image place, the base P times the held e, which is e at that
-- close. Whether the desk's slices end there, and what lies behind, is left open; the recorder's own slices will do.
abbrev pub SideNow : Recording → World → List ℕ → Type 0
SideNow r now side = take (side_length r.settings) side ≡ take (side_length r.settings) now.side

abbrev pub BaseNow : Recording → World → List ℕ → Type 0
BaseNow r now base = take (r.settings.size * (reached r).state.end) base ≡ take (r.settings.size * (reached r).state.end) now.base

-- Clause: raw pages are left out: those in the file at that close and of kind 1
abbrev pub RawThen : Recording → ℕ → Type 0
RawThen r p = (p < (reached r).state.end) × (kind_of (reached r) p ≡ 1)

-- The first half: either recording answers the same, bytes and refusals: number, source, offset and bytes
abbrev pub SameAnswers : Type 0
SameAnswers =
    (a b : Recording) → SameUpToClose a b
    → (ones twos : List Call) → WithinLag a ones → WithinLag b twos
    → (held₁ held₂ : List ℕ) → HoldsIndex a held₁ → HoldsIndex b held₂
    → (side₁ side₂ : List ℕ) → SideNow a (later a ones) side₁ → SideNow b (later b twos) side₂
    → (base₁ base₂ : List ℕ) → BaseNow a (later a ones) base₁ → BaseNow b (later b twos) base₂
    → (p offset n : ℕ) → (RawThen a p → ⊥)
    → desk_read held₁ side₁ base₁ p offset n ≡ desk_read held₂ side₂ base₂ p offset n

-- The second half, of a metadata page in the file at that close: an accepted read gives the bytes that the calls up to that
-- close made of it (held_by), and a read inside the page is accepted.
pub record BytesThen (r : Recording) (p offset n : ℕ) (answer : Answer) : Type 0 where
  pub bytes : answer.number ≡ 0 → answer.bytes ≡ part (held_by r p) offset n
  pub accepted : 1 ≤ n → offset + n ≤ r.settings.size → answer.number ≡ 0

abbrev pub HeldThen : Type 0
HeldThen =
    (r : Recording) → (opening r).number ≡ 0 → AtClose r
    → (more : List Call) → WithinLag r more
    → (held : List ℕ) → HoldsIndex r held
    → (side base : List ℕ) → SideNow r (later r more) side → BaseNow r (later r more) base
    → (p offset n : ℕ) → p < (reached r).state.end → kind_of (reached r) p ≡ 0
    → BytesThen r p offset n (desk_read held side base p offset n)
