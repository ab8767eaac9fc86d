-- The recorder's world: its state and the bytes it is lent; what stands where in them; one setter to a field. And what a
-- call replies: a number, the world after it, and the caller's slice after it.
use Rattle.std.specs.Prelude.{ℕ, ◌+◌, min, Bool, true, false, List, [], eqb, get_or}
use Rattle.std.proofs.Math.Option.{Option, some, none}
use Rattle.octets.specs.Rows.{row, page}
use Rattle.units.specs.Sizes.{top, wait, first_image}
use Rattle.units.specs.declared.Tick.{Tick}
use Rattle.slots.specs.Table.{slot_of, zero_slots}
use Rattle.slots.specs.declared.Slots.{Slots}
use Rattle.ledger.specs.View.{entries_in}
use Rattle.ledger.specs.declared.Entry.{Entry}
use Rattle.recorder.specs.declared.Counts.{Counts}
use Rattle.recorder.specs.declared.State.{State}

pub record World : Type 0 where
  pub state : State
  pub ledger : List ℕ
  pub base : List ℕ
  pub side : List ℕ
  pub buffer : List ℕ
  pub kinds : List ℕ

pub record Reply : Type 0 where
  pub number : ℕ
  pub world : World
  pub bytes : List ℕ

-- a refusal leaves the world and the caller's slice as they were given
abbrev pub refuse : World → List ℕ → ℕ → Reply
refuse w bs n = record { number = n; world = w; bytes = bs }

abbrev pub accept : World → List ℕ → Reply
accept w bs = record { number = 0; world = w; bytes = bs }

-- setters of the state
abbrev pub set_end : ℕ → State → State
set_end e s = record { settings = s.settings; end = e; closed = s.closed; entries = s.entries; slots = s.slots; meta = s.meta; raw = s.raw }

abbrev pub set_closed : Tick → State → State
set_closed t s = record { settings = s.settings; end = s.end; closed = t; entries = s.entries; slots = s.slots; meta = s.meta; raw = s.raw }

abbrev pub set_entries : ℕ → State → State
set_entries n s = record { settings = s.settings; end = s.end; closed = s.closed; entries = n; slots = s.slots; meta = s.meta; raw = s.raw }

abbrev pub set_slots : Slots → State → State
set_slots t s = record { settings = s.settings; end = s.end; closed = s.closed; entries = s.entries; slots = t; meta = s.meta; raw = s.raw }

abbrev pub set_meta : Counts → State → State
set_meta c s = record { settings = s.settings; end = s.end; closed = s.closed; entries = s.entries; slots = s.slots; meta = c; raw = s.raw }

abbrev pub set_raw : Counts → State → State
set_raw c s = record { settings = s.settings; end = s.end; closed = s.closed; entries = s.entries; slots = s.slots; meta = s.meta; raw = c }

-- setters of the world
abbrev pub set_state : State → World → World
set_state s w = record { state = s; ledger = w.ledger; base = w.base; side = w.side; buffer = w.buffer; kinds = w.kinds }

abbrev pub set_ledger : List ℕ → World → World
set_ledger xs w = record { state = w.state; ledger = xs; base = w.base; side = w.side; buffer = w.buffer; kinds = w.kinds }

abbrev pub set_base : List ℕ → World → World
set_base xs w = record { state = w.state; ledger = w.ledger; base = xs; side = w.side; buffer = w.buffer; kinds = w.kinds }

abbrev pub set_side : List ℕ → World → World
set_side xs w = record { state = w.state; ledger = w.ledger; base = w.base; side = xs; buffer = w.buffer; kinds = w.kinds }

abbrev pub set_buffer : List ℕ → World → World
set_buffer xs w = record { state = w.state; ledger = w.ledger; base = w.base; side = w.side; buffer = xs; kinds = w.kinds }

abbrev pub set_kinds : List ℕ → World → World
set_kinds xs w = record { state = w.state; ledger = w.ledger; base = w.base; side = w.side; buffer = w.buffer; kinds = xs }

-- counts: each stops at the largest number
abbrev pub bump : ℕ → ℕ
bump n = min (n + 1) top

abbrev pub add_hit : Counts → Counts
add_hit c = record { accesses = bump c.accesses; hits = bump c.hits; misses = c.misses; evictions = c.evictions; bypasses = c.bypasses }

abbrev pub add_eviction : Bool → Counts → Counts
add_eviction false c = c
add_eviction true c = record { accesses = c.accesses; hits = c.hits; misses = c.misses; evictions = bump c.evictions; bypasses = c.bypasses }

abbrev pub add_miss : Bool → Counts → Counts
add_miss evicts c =
    add_eviction evicts (record { accesses = bump c.accesses; hits = c.hits; misses = bump c.misses; evictions = c.evictions; bypasses = c.bypasses })

abbrev pub add_bypass : Counts → Counts
add_bypass c = record { accesses = c.accesses; hits = c.hits; misses = c.misses; evictions = c.evictions; bypasses = bump c.bypasses }

-- P, S and the wait of a world; its entries; the kind of a page
abbrev pub page_size : World → ℕ
page_size w = w.state.settings.size

abbrev pub slot_count : World → ℕ
slot_count w = w.state.settings.slots

abbrev pub wait_of : World → ℕ
wait_of w = wait w.state.settings

unfoldable pub entries_of : World → List Entry
entries_of w = entries_in w.state.entries w.ledger

abbrev pub kind_of : World → ℕ → ℕ
kind_of w p = get_or w.kinds p 0

abbrev pub metadata : World → ℕ → Bool
metadata w p = eqb (kind_of w p) 0

-- slot i of the buffer, page p of the base, image place q of the side file; and where page p has its slot, its bytes there
unfoldable pub slot_bytes : World → ℕ → List ℕ
slot_bytes w i = page (page_size w) i w.buffer

unfoldable pub base_bytes : World → ℕ → List ℕ
base_bytes w p = page (page_size w) p w.base

unfoldable pub image_bytes : World → ℕ → List ℕ
image_bytes w q = row (first_image w.state.settings) (page_size w) q w.side

unfoldable pub slot_for : World → ℕ → Option ℕ
slot_for w p = slot_of (slot_count w) w.state.slots p

abbrev pub bytes_at : World → Option ℕ → List ℕ
bytes_at w none = []
bytes_at w (some i) = slot_bytes w i

unfoldable pub bytes_in : World → ℕ → List ℕ
bytes_in w p = bytes_at w (slot_for w p)

-- the all-zero state, and lent slices before an open
abbrev pub no_counts : Counts
no_counts = record { accesses = 0; hits = 0; misses = 0; evictions = 0; bypasses = 0 }

unfoldable pub zero_state : State
zero_state =
    record {
      settings = record { size = 0; slots = 0; lag = 0; capacity = 0 };
      end = 0;
      closed = record { 0 = 0 };
      entries = 0;
      slots = zero_slots;
      meta = no_counts;
      raw = no_counts;
    }
