-- What the judge's two passes test: each row, and each page in the order of use. Together they are the slot rules
-- (Counted has the law).
use Rattle.std.specs.Prelude.{ℕ, Bool, not, ◌&&◌, List, eqb, ltb}
use Rattle.lists.specs.Bools.{if_then}
use Rattle.units.specs.inner.Pages.{numbers_of}
use Rattle.units.specs.declared.Page.{Page}
use Rattle.slots.specs.Table.{page_at, vacant, changed_at, uses, times}
use Rattle.slots.specs.declared.Slots.{Slots}

-- row i is empty and not changed, or a slot whose page is once in the order of use
unfoldable pub row_kept : ℕ → Slots → ℕ → Bool
row_kept S t i = if_then (vacant t i) (not (changed_at t i)) (ltb i S && eqb (times (page_at t i) (uses t)) 1)

-- a page in the order of use is below e and in one row
unfoldable pub use_kept : ℕ → List Page → ℕ → Bool
use_kept end pages p = ltb p end && eqb (times p (numbers_of 16 pages)) 1
