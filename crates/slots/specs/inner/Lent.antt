-- The table where the order of use plays no part: as a close lends it to its searches, the pages in the slots and the flags of
-- change.
use Rattle.std.specs.Prelude.{ℕ, List, []}
use Rattle.units.specs.declared.Page.{Page}
use Rattle.slots.specs.Table.{slots_of}
use Rattle.slots.specs.declared.Slots.{Slots}

abbrev pub table_of : List Page → List ℕ → Slots
table_of pages changed = slots_of pages changed [] 0
