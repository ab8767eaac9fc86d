-- The state rules of document 01 that speak of the slot table alone; `end` is e.
use Rattle.std.specs.Prelude.{ℕ, ◌-◌, Bool, true, false, not, ◌&&◌, ◌||◌, eqb, ltb, leb}
use Rattle.std.proofs.Math.Option.{Option, some, none}
use Rattle.lists.specs.Below.{from, below}
use Rattle.lists.specs.Scans.{all_of}
use Rattle.slots.specs.Table.{page_at, vacant, changed_at, slot_of, uses, times}
use Rattle.slots.specs.declared.Slots.{Slots}

abbrev pub is_some : Option ℕ → Bool
is_some (some i) = true
is_some none = false

abbrev pub is_at : ℕ → Option ℕ → Bool
is_at i (some j) = eqb j i
is_at i none = false

-- slot pages: distinct (each occupied slot is the one that its page finds), below e, each once in the order of use and nothing
-- else there; changed only in occupied slots; nothing in the rows from S on
unfoldable pub slot_rules : ℕ → ℕ → Slots → Bool
slot_rules S end t =
    all_of (λ i. vacant t i || is_at i (slot_of S t (page_at t i))) (below S)
    && all_of (λ i. vacant t i || ltb (page_at t i) end) (below S)
    && leb t.used 16
    && all_of (λ p. ltb p end && is_some (slot_of S t p)) (uses t)
    && all_of (λ i. vacant t i || eqb (times (page_at t i) (uses t)) 1) (below S)
    && all_of (λ i. not (changed_at t i) || not (vacant t i)) (below S)
    && all_of (λ i. vacant t i && not (changed_at t i)) (from S (16 - S))
