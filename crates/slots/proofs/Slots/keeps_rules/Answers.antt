use Rattle.std.proofs.Common.{rules, arith, ◌≡◌, ◌∙◌, ◌&&◌, leb}
use borrow.Author.Tests.{le-leb, lt-leb}
use Rattle.lists.specs.Below.{below}
use Rattle.lists.specs.laws.Maps.{length_mapped}
use Rattle.lists.specs.Scans.{all_of}
use Rattle.slots.specs.Table.{uses}
use Rattle.slots.specs.Rules.{slot_rules}
use Rattle.slots.specs.inner.Judged.{row_kept, use_kept}
use Rattle.slots.proofs.Counted.{judged}
use Rattle.slots.proofs.Slots.keeps_rules.Goals as goal
use Rattle.slots.proofs.Slots.keeps_rules.Goals.{Joined-self-le16, Start, then-self-le16, else-self-le16}

-- the judge's three tests
counts : (c : Start) → let t = c.args.self.now in (leb t.used 16 && all_of (row_kept c.args.slots t) (below 16) && all_of (use_kept c.args.end t.pages) (uses t)) ≡ slot_rules c.args.slots c.args.end t
counts c =
    judged c.args.slots c.args.end c.args.self.now
    (record { pages = search (rules, length_mapped); changed = search (rules, length_mapped); order = search (rules, length_mapped) })
    c.requires (omega arith)

-- the first two
two : (c : Joined-self-le16) → let t = c.args.self.now in c.if-self-le16.value ≡ (leb t.used 16 && all_of (row_kept c.args.slots t) (below 16))
two c =
    let used = c.args.self.now.used in
    elim c.if-self-le16.branch [ then-self-le16 w ↦ rw (le-leb used 16 w.if-self-le16.true) (w.value-is ∙ w.rows_kept.ensures) | else-self-le16 w ↦ rw (lt-leb used 16 w.if-self-le16.false) (w.value-is ∙ lt-leb used 16 w.if-self-le16.false) ]

pub returns-then-rows_kept : goal.returns-then-rows_kept
returns-then-rows_kept c =
    let counts = counts (goal.at.returns-then-rows_kept c).Start in
    c.uses_kept.ensures ∙ rw (← two (goal.at.returns-then-rows_kept c).Joined-self-le16, c.if-rows_kept.true) at counts

pub returns-else-rows_kept : goal.returns-else-rows_kept
returns-else-rows_kept c =
    let counts = counts (goal.at.returns-else-rows_kept c).Start in
    c.if-rows_kept.false ∙ rw (← two (goal.at.returns-else-rows_kept c).Joined-self-le16, c.if-rows_kept.false) at counts
