use Rattle.std.proofs.Common.{◌∙◌, sym, take}
use Rattle.slots.specs.Table.{uses}
use Rattle.slots.specs.inner.Judged.{use_kept}
use Rattle.slots.proofs.Turns.{uses_end, uses_next}
use Rattle.slots.proofs.Slots.uses_kept.Goals as goal

pub loop-page-preserved : goal.loop-page-preserved
unfolding uses
loop-page-preserved c =
    let t = c.args.self.now in
    c.loop-page.invariant ∙ uses_next (use_kept c.args.end t.pages) (take t.used t.order) c.loop-page.page-index c.loop-page-test.true ∙ rw (sym c.use_kept.ensures ∙ c.if-not-use_kept.false)

pub returns-then-not-use_kept : goal.returns-then-not-use_kept
unfolding uses
returns-then-not-use_kept c =
    let t = c.args.self.now in
    sym (c.loop-page.invariant ∙ uses_next (use_kept c.args.end t.pages) (take t.used t.order) c.loop-page.page-index c.loop-page-test.true ∙ rw (sym c.use_kept.ensures ∙ c.if-not-use_kept.true))

pub returns : goal.returns
unfolding uses
returns c =
    let t = c.args.self.now in
    sym (c.loop-page.invariant ∙ uses_end (use_kept c.args.end t.pages) (take t.used t.order) c.loop-page.page-index c.loop-page-test.false)
