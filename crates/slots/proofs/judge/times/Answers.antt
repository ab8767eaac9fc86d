use Rattle.std.proofs.Common.{rules, arith, ◌≡◌, ◌≤◌, ◌∙◌, sym, length, ◌&&◌, eqb, ltb, get_or}
use Rattle.lists.specs.laws.Maps.{length_mapped}
use Rattle.slots.specs.Table.{to_page}
use Rattle.slots.proofs.Turns.{times_end, times_turn}
use Rattle.slots.proofs.judge.times.Goals as goal
use Rattle.slots.proofs.judge.times.Goals.{Start, then-eq, else-eq}

long : (c : Start) → c.args.n ≤ length c.args.list.now
long c = let e : length c.args.list.now ≡ 16 = search (rules, length_mapped) in omega arith

pub loop-i-preserved : goal.loop-i-preserved
loop-i-preserved c =
    let a = c.args in
    let q = eqb (get_or a.list.now c.loop-i.i (to_page 0)).0 a.page.0 in
    let e : c.if-eq.from ≡ (q && ltb c.loop-i.i a.n) = elim c.if-eq.branch [ then-eq w ↦ rw (sym c.eq.ensures ∙ w.if-eq.true) w.from-is | else-eq w ↦ rw (sym c.eq.ensures ∙ w.if-eq.false) (w.from-is ∙ w.if-eq.false) ] in
    let t = times_turn a.list.now a.n c.loop-i.i a.page.0 (long (goal.at.loop-i-preserved c).Start) c.from.result c.if-eq.from e (λ q. rw q at c.from.ensures) (λ q. rw q at c.from.ensures) in
    (omega (arith, t.0), omega (arith, t.1))

pub returns : goal.returns
returns c =
    let a = c.args in
    omega (arith, times_end a.list.now a.n c.loop-i.i a.page.0 (long (goal.at.returns c).Start))
