use Rattle.std.proofs.Common.{◌≡◌, drop}
use Rattle.lists.specs.Scans.{all_of}
use Rattle.slots.specs.Table.{uses}
use Rattle.slots.specs.inner.Judged.{use_kept}
use Rattle.slots.proofs.Slots.uses_kept.Given as goal

abbrev pub invariant-loop-page : goal.invariant-loop-page
invariant-loop-page l = all_of (use_kept l.end l.self.pages) (uses l.self) ≡ all_of (use_kept l.end l.self.pages) (drop l.page-index (uses l.self))
