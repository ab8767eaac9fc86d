-- The slot table: what a slot has, which slot has a page, who is the victim, and the table after a use, a load, an eviction,
-- a change and a close. Slots 0 to S - 1 are slots; the arrays have room for 16.
use Rattle.std.specs.Prelude.{ℕ, suc, ◌+◌, Bool, true, false, not, ◌&&◌, List, [], ◌∷◌, ◌++◌, map, eqb, take, drop, get_or, set, replicate}
use Rattle.std.proofs.Math.Option.{Option, some, none}
use Rattle.lists.specs.Below.{below}
use Rattle.lists.specs.Bools.{if_then}
use Rattle.lists.specs.Scans.{any_of, first}
use Rattle.units.specs.declared.Page.{Page}
use Rattle.slots.specs.declared.Slots.{Slots}

abbrev pub to_page : ℕ → Page
to_page n = record { 0 = n }

-- the page number of an empty slot
abbrev pub no_page : ℕ
no_page = 4294967295

-- a table by its arrays and the length of its order of use
abbrev pub slots_of : List Page → List ℕ → List Page → ℕ → Slots
slots_of pages changed order used = record { pages = pages; changed = changed; order = order; used = used }

-- one setter to a field, or to two that change together
abbrev pub set_page : ℕ → ℕ → Slots → Slots
set_page i p t = record { pages = set t.pages i (to_page p); changed = t.changed; order = t.order; used = t.used }

abbrev pub set_changed : List ℕ → Slots → Slots
set_changed flags t = record { pages = t.pages; changed = flags; order = t.order; used = t.used }

abbrev pub set_order : List Page → ℕ → Slots → Slots
set_order order used t = record { pages = t.pages; changed = t.changed; order = order; used = used }

-- the page in slot i; whether the slot is empty, and whether its page is changed
unfoldable pub page_at : Slots → ℕ → ℕ
page_at t i = (get_or t.pages i (to_page 0)).0

unfoldable pub vacant : Slots → ℕ → Bool
vacant t i = eqb (page_at t i) no_page

unfoldable pub changed_at : Slots → ℕ → Bool
changed_at t i = not (eqb (get_or t.changed i 0) 0)

-- the slot that has page p; the lowest empty slot; whether page p is in a changed slot
unfoldable pub slot_of : ℕ → Slots → ℕ → Option ℕ
slot_of S t p = first (λ i. eqb (page_at t i) p) (below S)

unfoldable pub lowest_empty : ℕ → Slots → Option ℕ
lowest_empty S t = first (vacant t) (below S)

unfoldable pub changed_page : ℕ → Slots → ℕ → Bool
changed_page S t p = any_of (λ i. eqb (page_at t i) p && changed_at t i) (below S)

-- the pages in the order of use, the one used longest ago first, and the elements that do not count
unfoldable pub uses : Slots → List ℕ
uses t = map (λ p. p.0) (take t.used t.order)

abbrev pub spare_uses : ℕ → Slots → List Page
spare_uses n t = drop n t.order

-- the list without the first x; how often x stands in a list
unfoldable pub without : ℕ → List ℕ → List ℕ
without x [] = []
without x (y ∷ ys) = if_then (eqb y x) ys (y ∷ without x ys)

unfoldable pub times : ℕ → List ℕ → ℕ
times x [] = 0
times x (y ∷ ys) = if_then (eqb y x) (suc (times x ys)) (times x ys)

-- the victim: the first slot in the order of use that the mask does not spare
abbrev pub or_else : Option ℕ → (ℕ → Bool) → Option ℕ → Option ℕ
or_else none mask next = next
or_else (some i) mask next = if_then (mask i) next (some i)

unfoldable pub victim_in : ℕ → (ℕ → Bool) → Slots → List ℕ → Option ℕ
victim_in S mask t [] = none
victim_in S mask t (p ∷ ps) = or_else (slot_of S t p) mask (victim_in S mask t ps)

unfoldable pub victim : ℕ → (ℕ → Bool) → Slots → Option ℕ
victim S mask t = victim_in S mask t (uses t)

-- page p is used; page p comes into the empty slot i; page p comes into slot i in the place of the page there
unfoldable pub touched : ℕ → Slots → Slots
touched p t = set_order (map to_page (without p (uses t) ++ (p ∷ [])) ++ spare_uses t.used t) t.used t

unfoldable pub loaded : ℕ → ℕ → Slots → Slots
loaded i p t =
    set_page i p (set_changed (set t.changed i 0) (set_order (map to_page (uses t ++ (p ∷ [])) ++ spare_uses (t.used + 1) t) (t.used + 1) t))

unfoldable pub evicted : ℕ → ℕ → Slots → Slots
evicted i p t =
    set_page i p (set_changed (set t.changed i 0) (set_order (map to_page (without (page_at t i) (uses t) ++ (p ∷ [])) ++ spare_uses t.used t) t.used t))

-- slot i is changed; no slot is changed any more
unfoldable pub marked : ℕ → Slots → Slots
marked i t = set_changed (set t.changed i 1) t

unfoldable pub unmarked : Slots → Slots
unmarked t = set_changed (replicate 16 0) t

-- the slot that a page takes, the table with it there, and whether a page was evicted for it
pub record Seat : Type 0 where
  pub slot : ℕ
  pub table : Slots
  pub evicts : Bool

unfoldable pub seat_in : Option ℕ → Option ℕ → ℕ → Slots → Option Seat
seat_in (some i) v p t = some (record { slot = i; table = loaded i p t; evicts = false })
seat_in none (some i) p t = some (record { slot = i; table = evicted i p t; evicts = true })
seat_in none none p t = none

-- a page that needs a slot takes the lowest empty one, else the victim's
unfoldable pub seated : ℕ → (ℕ → Bool) → ℕ → Slots → Option Seat
seated S mask p t = seat_in (lowest_empty S t) (victim S mask t) p t

-- the table of an accepted open, and the all-zero one of a refused open
unfoldable pub no_slots : Slots
no_slots = record { pages = replicate 16 (to_page no_page); changed = replicate 16 0; order = replicate 16 (to_page 0); used = 0 }

unfoldable pub zero_slots : Slots
zero_slots = record { pages = replicate 16 (to_page 0); changed = replicate 16 0; order = replicate 16 (to_page 0); used = 0 }
