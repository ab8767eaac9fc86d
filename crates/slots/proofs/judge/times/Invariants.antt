use Rattle.std.proofs.Common.{◌≡◌, ◌≤◌, ◌+◌, drop}
use Rattle.units.specs.inner.Pages.{numbers_of}
use Rattle.slots.specs.Table.{times}
use Rattle.slots.proofs.judge.times.Given as goal

abbrev pub invariant-loop-i : goal.invariant-loop-i
invariant-loop-i l = (l.count ≤ l.i) × (times l.page.0 (numbers_of l.n l.list) ≡ l.count + times l.page.0 (drop l.i (numbers_of l.n l.list)))
