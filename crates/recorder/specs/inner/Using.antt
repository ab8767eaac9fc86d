-- A metadata page used, wherever it is found: what the code answers of it, what it makes of slot table and counts, and what the
-- buffer then has in the page's slot.
use Rattle.std.specs.Prelude.{ℕ, ◌+◌, ◌*◌, ◌<◌, ◌≤◌, ◌≡◌, List, Option, Some, None, IfSome}
use Rattle.std.proofs.Math.Option.{none}
use Rattle.octets.specs.Part.{lay}
use Rattle.slots.specs.inner.Answers.{seating, taken}
use Rattle.slots.specs.inner.Asked.{Takes}
use Rattle.slots.specs.Table.{uses, times, touched, marked}
use Rattle.slots.specs.declared.seats.Seat.{Seat}
use Rattle.slots.specs.declared.Slots.{Slots}
use Rattle.recorder.specs.World.{World, add_hit, add_miss, add_eviction, set_end, set_slots, set_meta, slot_count, slot_for}
use Rattle.recorder.specs.Calls.{Found, hit, miss, nowhere, found, seat_for}
use Rattle.recorder.specs.declared.Counts.{Counts}
use Rattle.recorder.specs.declared.State.{State}
use Rattle.recorder.specs.declared.buffer.Use.{Use}
use Rattle.recorder.specs.declared.buffer.Use.TheVariants.{Hit, Taken}

-- where a page is used, and its slot there
abbrev pub use_of : Found → Option Use
use_of (hit i) = Some (Hit i)
use_of (miss seat) = Some (Taken (record { slot = seat.slot; evicts = seat.evicts }))
use_of nowhere = None

abbrev pub slot_in : Use → ℕ
slot_in (Hit i) = i
slot_in (Taken seat) = seat.slot

-- what is asked for page p to be used there, and the table after it
abbrev pub Places : Use → ℕ → Slots → Type 0
Places (Hit i) p t = (t.used ≤ 16) × (times p (uses t) ≡ 1)
Places (Taken seat) p t = Takes seat.slot seat.evicts t

abbrev pub placed : Use → ℕ → Slots → Slots
placed (Hit i) p t = touched p t
placed (Taken seat) p t = taken seat.slot seat.evicts p t

-- The answers for page p in a world: the seat that it gets if it is in no slot, and where it is used. A slot that is answered is
-- one of the buffer's, and the page may be used in it; a page that the file does not have yet is in none.
pub record Seated (w : World) (p : ℕ) (r : Option Seat) : Type 0 where
  pub is : r ≡ seating (seat_for w p)
  pub fits : IfSome r (λ s. (s.slot < slot_count w) × Takes s.slot s.evicts w.state.slots)

pub record Chosen (w : World) (p : ℕ) (r : Option Use) : Type 0 where
  pub is : r ≡ use_of (found w p)
  pub fits : IfSome r (λ u. (slot_in u < slot_count w) × Places u p w.state.slots)
  pub absent : w.state.end ≤ p → slot_for w p ≡ none

-- a hit, or a miss that evicts or not
abbrev pub add_use : Use → Counts → Counts
add_use (Hit i) c = add_hit c
add_use (Taken seat) c = add_miss seat.evicts c

-- the state with page p used; with the page of a slot changed; with one page more, changed in the slot that it takes
abbrev pub used_state : Use → ℕ → State → State
used_state u p s = set_slots (placed u p s.slots) (set_meta (add_use u s.meta) s)

abbrev pub changed_state : ℕ → State → State
changed_state i s = set_slots (marked i s.slots) s

abbrev pub seated_state : Seat → State → State
seated_state seat s =
    set_slots (marked seat.slot (taken seat.slot seat.evicts s.end s.slots)) (set_meta (add_eviction seat.evicts s.meta) (set_end (s.end + 1) s))

-- the buffer with a page's bytes at its slot: on a hit they are there
abbrev pub brought_to : Use → ℕ → List ℕ → List ℕ → List ℕ
brought_to (Hit i) P page xs = xs
brought_to (Taken seat) P page xs = lay xs (seat.slot * P) page
