-- Open, read, write and grow: the tests in their order, then what is done (document 01, "What the recorder does").
use Rattle.std.specs.Prelude.{ℕ, ◌+◌, ◌*◌, Bool, ◌&&◌, ◌||◌, List, [], ◌∷◌, ◌++◌, eqb, ltb, leb, length, take, set, replicate}
use Rattle.std.proofs.Math.Option.{Option, some, none}
use Rattle.lists.specs.Bools.{if_then}
use Rattle.lists.specs.Scans.{all_of}
use Rattle.octets.specs.Part.{part, lay}
use Rattle.units.specs.Ages.{tick}
use Rattle.units.specs.Refusals as Refusals
use Rattle.units.specs.Sizes.{top, limits, inside_page, ledger_length}
use Rattle.units.specs.Tests.{Test, tested}
use Rattle.units.specs.declared.Settings.{Settings}
use Rattle.sidefile.specs.Encode.{header_for, index_bytes}
use Rattle.slots.specs.Table.{page_at, changed_at, touched, marked, Seat, seated, no_slots}
use Rattle.ledger.specs.Entries.{owed_page}
use Rattle.recorder.specs.World.{World, Reply, refuse, accept, set_end, set_slots, set_meta, set_raw, set_state, set_ledger, set_base, set_side, set_buffer, set_kinds, add_hit, add_miss, add_eviction, add_bypass, no_counts, zero_state, page_size, slot_count, wait_of, entries_of, kind_of, metadata, slot_for, base_bytes}
use Rattle.recorder.specs.Rules.{long_enough, standing}
use Rattle.recorder.specs.declared.State.{State}

-- Open: tick B closed, an empty index, empty slots and zero counts. It does not look at the state it is given.

unfoldable pub open_state : Settings → ℕ → ℕ → State
open_state s end B =
    record { settings = s; end = end; closed = tick B; entries = 0; slots = no_slots; meta = no_counts; raw = no_counts }

unfoldable pub open_tests : Settings → ℕ → ℕ → World → List Test
open_tests s end B w =
    (Refusals.settings, limits s && leb end s.capacity && leb B top)
    ∷ (Refusals.short, long_enough s w && leb (ledger_length s) (length w.ledger))
    ∷ (Refusals.kind, all_of (λ k. ltb k 2) (take end w.kinds))
    ∷ []

unfoldable pub opened : Settings → ℕ → ℕ → World → World
opened s end B w =
    set_state (open_state s end B)
    (set_ledger (lay w.ledger 0 (replicate (ledger_length s) 0))
    (set_side (lay w.side 0 (header_for s (tick B) end [] ++ index_bytes s [])) w))

unfoldable pub open_reply : Settings → ℕ → ℕ → World → Reply
open_reply s end B w = tested (open_tests s end B w) (refuse (set_state zero_state w) []) (accept (opened s end B w) [])

-- Read and write: a page, an offset and a slice.

unfoldable pub span_tests : World → ℕ → ℕ → ℕ → List Test
span_tests w p offset n =
    (Refusals.page, ltb p w.state.end)
    ∷ (Refusals.kind, ltb (kind_of w p) 2)
    ∷ (Refusals.span, inside_page (page_size w) offset n)
    ∷ []

-- a slot that may not be chosen: its page is changed or owed
unfoldable pub unclean : World → ℕ → Bool
unclean w i = changed_at w.state.slots i || owed_page (wait_of w) w.state.closed (entries_of w) (page_at w.state.slots i)

-- where a metadata page is found: in a slot; in none, with a slot to take; in none, with none to take
pub data Found : Type 0 where
  hit : ℕ → Found
  miss : Seat → Found
  nowhere : Found

unfoldable pub found_in : Option ℕ → Option Seat → Found
found_in (some i) seat = hit i
found_in none (some seat) = miss seat
found_in none none = nowhere

-- the slot that a page gets if it is in none
abbrev pub seat_for : World → ℕ → Option Seat
seat_for w p = seated (slot_count w) (unclean w) p w.state.slots

unfoldable pub found : World → ℕ → Found
found w p = found_in (slot_for w p) (seat_for w p)

-- the world with page p used in its slot; with page p loaded from the base into its new slot; with a bypass counted
unfoldable pub hit_world : World → ℕ → World
hit_world w p = set_state (set_slots (touched p w.state.slots) (set_meta (add_hit w.state.meta) w.state)) w

unfoldable pub miss_world : World → ℕ → Seat → World
miss_world w p seat =
    set_state (set_slots seat.table (set_meta (add_miss seat.evicts w.state.meta) w.state))
    (set_buffer (lay w.buffer (seat.slot * page_size w) (base_bytes w p)) w)

unfoldable pub meta_bypass : World → World
meta_bypass w = set_state (set_meta (add_bypass w.state.meta) w.state) w

unfoldable pub raw_bypass : World → World
raw_bypass w = set_state (set_raw (add_bypass w.state.raw) w.state) w

-- n bytes at an offset of a slot or of a page of the base
abbrev pub span_in : ℕ → List ℕ → ℕ → ℕ → ℕ → List ℕ
span_in P xs i offset n = part xs (i * P + offset) n

abbrev pub laid_in : ℕ → List ℕ → ℕ → ℕ → List ℕ → List ℕ
laid_in P xs i offset bs = lay xs (i * P + offset) bs

unfoldable pub read_found : World → ℕ → ℕ → ℕ → Found → Reply
read_found w p offset n (hit i) = accept (hit_world w p) (span_in (page_size w) w.buffer i offset n)
read_found w p offset n (miss seat) =
    accept (miss_world w p seat) (span_in (page_size w) (miss_world w p seat).buffer seat.slot offset n)
read_found w p offset n nowhere = accept (meta_bypass w) (span_in (page_size w) w.base p offset n)

unfoldable pub read_reply : ℕ → ℕ → List ℕ → World → Reply
read_reply p offset into w =
    tested (standing w ++ span_tests w p offset (length into)) (refuse w into)
    (if_then (metadata w p)
    (read_found w p offset (length into) (found w p))
    (accept (raw_bypass w) (span_in (page_size w) w.base p offset (length into))))

-- slot i of a world is written and counts as changed
unfoldable pub written : World → ℕ → ℕ → List ℕ → World
written w i offset bs =
    set_state (set_slots (marked i w.state.slots) w.state)
    (set_buffer (laid_in (page_size w) w.buffer i offset bs) w)

unfoldable pub write_found : World → ℕ → ℕ → List ℕ → Found → Reply
write_found w p offset bs (hit i) = accept (written (hit_world w p) i offset bs) bs
write_found w p offset bs (miss seat) = accept (written (miss_world w p seat) seat.slot offset bs) bs
write_found w p offset bs nowhere = refuse w bs Refusals.no_slot

unfoldable pub write_reply : ℕ → ℕ → List ℕ → World → Reply
write_reply p offset bs w =
    tested (standing w ++ span_tests w p offset (length bs)) (refuse w bs)
    (if_then (metadata w p)
    (write_found w p offset bs (found w p))
    (accept (set_base (laid_in (page_size w) w.base p offset bs) (raw_bypass w)) bs))

-- Grow: page e, all zero, of the named kind.

unfoldable pub grow_tests : World → ℕ → List Test
grow_tests w kind =
    (Refusals.kind, ltb kind 2)
    ∷ (Refusals.no_page, ltb w.state.end w.state.settings.capacity)
    ∷ []

-- one page more, of this kind
unfoldable pub grown : World → ℕ → World
grown w kind = set_state (set_end (w.state.end + 1) w.state) (set_kinds (set w.kinds w.state.end kind) w)

abbrev pub zero_page : World → List ℕ
zero_page w = replicate (page_size w) 0

unfoldable pub grow_seated : World → Option Seat → Reply
grow_seated w none = refuse w [] Refusals.no_slot
grow_seated w (some seat) =
    accept
    (set_state (set_slots (marked seat.slot seat.table) (set_meta (add_eviction seat.evicts w.state.meta) (grown w 0).state))
    (set_buffer (lay w.buffer (seat.slot * page_size w) (zero_page w)) (grown w 0)))
    []

unfoldable pub grow_reply : ℕ → World → Reply
grow_reply kind w =
    tested (standing w ++ grow_tests w kind) (refuse w [])
    (if_then (eqb kind 0)
    (grow_seated w (seat_for w w.state.end))
    (accept (set_base (lay w.base (w.state.end * page_size w) (zero_page w)) (grown w 1)) []))
