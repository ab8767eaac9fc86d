use Rattle.std.proofs.Common.{refl, arith}
use Rattle.recorder.specs.inner.Handed.{seen}
use Rattle.recorder.specs.inner.Planned.{Plans}
use Rattle.recorder.specs.World.{World}
use Rattle.recorder.specs.declared.plan.Plan.{Plan}
use Rattle.recorder.proofs.Planning.{asked, Answers, few_places, few_rows, both_enough, planned}
use Rattle.recorder.proofs.plan.Plan.fill.Goals as goal
use Rattle.recorder.proofs.plan.Plan.fill.Goals.{After-staying, then-free-self-via-then-free-self, then-free-self-via-else-free-self+then-entries-later}

-- a world with what is looked at, and the plan once all calls are made
abbrev world : After-staying → World → World
world c w = seen c.args.state.now c.args.ledger.now w

abbrev plan : After-staying → Plan
plan c = record {
  count = c.changed_pages-self.result;
  pages = c.changed_pages-self.new.out;
  places = c.free_places-free.new.places;
  entered = c.retiring_rows.new.entered;
  going = c.retiring_rows.new.going;
}

made : (c : After-staying) (w : World) → Plans (world c w) c.args.tick
    → Answers (world c w) c.args.tick c.wait.result c.free_places-free.result c.staying.result (plan c)
made c w k = record {
  plans = k;
  waits = c.wait.ensures;
  most = c.changed_pages-self.ensures.0;
  listed = c.changed_pages-self.ensures.2;
  freed = c.free_places-free.ensures.0;
  given = c.free_places-free.ensures.1;
  flagged = c.retiring_rows.ensures.0;
  came = c.retiring_rows.ensures.1;
  stays = c.staying.ensures.0;
  whole_pages = c.changed_pages-self.ensures.1;
}

pub changed_pages-self-requires : goal.changed_pages-self-requires
changed_pages-self-requires c = (asked _ c.requires.plans.1.0).slots

pub free_places-free-requires : goal.free_places-free-requires
free_places-free-requires c =
    let q = asked _ c.requires.plans.1.0 in
    (q.limited, q.long, q.counted, q.placed, c.changed_pages-self.ensures.0)

pub retiring_rows-requires : goal.retiring_rows-requires
retiring_rows-requires c =
    let q = asked _ c.requires.plans.1.0 in
    (q.rows, q.few, c.changed_pages-self.ensures.0, q.ascends, c.requires.empty)

pub staying-requires : goal.staying-requires
staying-requires c =
    let q = asked _ c.requires.plans.1.0 in
    omega (arith, q.few)

pub entries-requires : goal.entries-requires
entries-requires c = (asked _ c.requires.plans.1.0).limited

pub returns-then-free-self : goal.returns-then-free-self
returns-then-free-self c w k =
    let m = made (goal.at.returns-then-free-self c).After-staying w k in
    elim c.then-free-self.branch [
      | then-free-self-via-then-free-self w ↦ ((few_places m w.if-free-self.true, refl), planned m)
      | then-free-self-via-else-free-self+then-entries-later w ↦ ((few_rows m (omega (arith, w.entries.ensures.0, w.if-entries-later.true)), refl), planned m)
    ]

pub returns : goal.returns
returns c w k =
    let m = made (goal.at.returns c).After-staying w k in
    (both_enough m c.if-free-self.false (omega (arith, c.entries.ensures.0, c.if-entries-later.false)), planned m)
