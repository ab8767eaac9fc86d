-- The close of a tick (document 01, "Close"): which pages changed and which places they get, the entries after it, and the
-- row of stores that is made: images, base pages, index, header.
use Rattle.std.specs.Prelude.{ℕ, ◌+◌, ◌*◌, Bool, not, ◌&&◌, List, [], ◌∷◌, ◌++◌, map, ltb, leb, length}
use Rattle.lists.specs.Below.{below, zip}
use Rattle.lists.specs.Scans.{keep}
use Rattle.octets.specs.Part.{lay}
use Rattle.octets.specs.Rows.{join}
use Rattle.units.specs.Ages.{tick}
use Rattle.units.specs.Refusals as Refusals
use Rattle.units.specs.Sizes.{top, header_length, entries, places, image_at}
use Rattle.units.specs.Tests.{Test, tested}
use Rattle.units.specs.declared.Tick.{Tick}
use Rattle.sidefile.specs.Encode.{image_sum, header_for, index_bytes}
use Rattle.slots.specs.Table.{to_page, changed_page, unmarked}
use Rattle.ledger.specs.Entries.{page_of, is_due, retires, is_reusable, place_after, put_all, fresh}
use Rattle.ledger.specs.View.{indexed, entry_bytes}
use Rattle.ledger.specs.declared.Entry.{Entry}
use Rattle.recorder.specs.World.{World, Reply, refuse, accept, set_closed, set_entries, set_slots, set_state, set_ledger, set_base, set_side, page_size, slot_count, wait_of, entries_of, bytes_in}
use Rattle.recorder.specs.Rules.{standing}

-- N, the open tick
abbrev pub open_tick : World → Tick
open_tick w = tick (w.state.closed.0 + 1)

unfoldable pub changed_in : World → ℕ → Bool
changed_in w p = changed_page (slot_count w) w.state.slots p

-- the changed pages ascending, the reusable places ascending, the first of one with the first of the other
unfoldable pub changes : World → List ℕ
changes w = keep (changed_in w) (below w.state.end)

unfoldable pub free_places : World → List ℕ
free_places w = keep (is_reusable w.state.settings (wait_of w) (open_tick w) (entries_of w) w.ledger) (below (places w.state.settings))

unfoldable pub given : World → List (ℕ × ℕ)
given w = zip (changes w) (free_places w)

-- the new entries of the changed pages, those that stay, and all entries after the close
unfoldable pub fresh_entries : World → List Entry
fresh_entries w = map (fresh (open_tick w) (entries_of w) (λ p. image_sum (to_page p) (bytes_in w p))) (given w)

unfoldable pub staying : World → List Entry
staying w = keep (λ e. not (retires (wait_of w) (open_tick w) (changed_in w) e)) (entries_of w)

unfoldable pub after : World → List Entry
after w = put_all (fresh_entries w) (staying w)

-- those of them that are written to the base
unfoldable pub due_entries : World → List Entry
due_entries w = keep (is_due (wait_of w) (open_tick w) (changed_in w)) (after w)

-- The stores, in their order. Each lays some bytes over a file at an offset.

pub data Store : Type 0 where
  in_side : ℕ → List ℕ → Store
  in_base : ℕ → List ℕ → Store

unfoldable pub image_stores : World → List Store
image_stores w = map (λ e. in_side (image_at w.state.settings e.place) (bytes_in w (page_of e))) (fresh_entries w)

unfoldable pub base_stores : World → List Store
base_stores w = map (λ e. in_base (page_of e * page_size w) (bytes_in w (page_of e))) (due_entries w)

unfoldable pub front_stores : World → List Store
front_stores w =
    in_side header_length (index_bytes w.state.settings (map indexed (after w)))
    ∷ in_side 0 (header_for w.state.settings (open_tick w) w.state.end (map indexed (after w)))
    ∷ []

unfoldable pub stores : World → List Store
stores w = image_stores w ++ (base_stores w ++ front_stores w)

-- what stores make of the side file, and of the base
unfoldable pub to_side : List Store → List ℕ → List ℕ
to_side [] xs = xs
to_side (in_side at bs ∷ ss) xs = to_side ss (lay xs at bs)
to_side (in_base at bs ∷ ss) xs = to_side ss xs

unfoldable pub to_base : List Store → List ℕ → List ℕ
to_base [] xs = xs
to_base (in_side at bs ∷ ss) xs = to_base ss xs
to_base (in_base at bs ∷ ss) xs = to_base ss (lay xs at bs)

-- the ledger after it: entries, then places
unfoldable pub ledger_after : World → List ℕ
ledger_after w =
    entry_bytes w.state.settings (after w)
    ++ join (map (place_after w.state.settings (wait_of w) (open_tick w) (changed_in w) (entries_of w) w.ledger) (below (places w.state.settings)))

unfoldable pub closed : World → World
closed w =
    set_state (set_closed (open_tick w) (set_entries (length (after w)) (set_slots (unmarked w.state.slots) w.state)))
    (set_ledger (lay w.ledger 0 (ledger_after w))
    (set_base (to_base (stores w) w.base)
    (set_side (to_side (stores w) w.side) w)))

-- 10 is judged before anything is stored
unfoldable pub suffices : World → Bool
suffices w = leb (length (changes w)) (length (free_places w)) && leb (length (after w)) (entries w.state.settings)

unfoldable pub close_tests : World → List Test
close_tests w = (Refusals.last_tick, ltb w.state.closed.0 top) ∷ (Refusals.no_place, suffices w) ∷ []

unfoldable pub close_reply : World → Reply
close_reply w = tested (standing w ++ close_tests w) (refuse w []) (accept (closed w) [])
