use Rattle.std.proofs.Common.{rules, arith, ◌≡◌, ◌-◌, ◌∙◌, sym, ap, List, length-set, eqb-true}
use Rattle.std.proofs.lemmas.Bool.{eqb-false}
use Rattle.lists.specs.laws.Maps.{length_mapped}
use Rattle.units.specs.declared.Page.{Page}
use Rattle.slots.specs.Table.{set_order, times, uses}
use Rattle.slots.specs.inner.Answers.{relisted}
use Rattle.slots.proofs.Listing.{moving_start, moving_step, moving_stop, times_step}
use Rattle.slots.proofs.Slots.relist.Goals as goal

pub loop-i-init : goal.loop-i-init
unfolding uses relisted
loop-i-init c =
    let a = c.args in (
      search (rules, length_mapped),
      c.requires.1,
      ap (λ (o : List Page). set_order o a.self.used a.self) (moving_start a.gone.0 a.page.0 a.self.used a.self.order),
    )

pub loop-i-preserved : goal.loop-i-preserved
loop-i-preserved c =
    let x = c.args.gone.0 in
    let o = c.loop-i.self.order in
    let j = c.loop-i.i - 1 in
    let other = eqb-false _ x (sym c.eq.ensures ∙ c.if-eq.false) in (
      simp length-set c.loop-i.invariant.0,
      sym (times_step x c.loop-i.i j o (omega arith) (omega arith) c.loop-i.carry other) ∙ c.loop-i.invariant.1,
      c.loop-i.invariant.2
          ∙ ap (λ (o : List Page). set_order o c.loop-i.self.used c.loop-i.self)
          (moving_step x c.loop-i.i j o (omega arith) (omega arith) c.loop-i.carry other),
    )

pub returns-after-loop-i : goal.returns-after-loop-i
unfolding times
returns-after-loop-i c = let e : c.loop-i.i ≡ 0 = omega arith in absurd (omega (arith, rw e at c.loop-i.invariant.1))

pub returns-then-eq : goal.returns-then-eq
returns-then-eq c =
    let x = c.args.gone.0 in
    let o = c.loop-i.self.order in
    let j = c.loop-i.i - 1 in
    sym
    (c.loop-i.invariant.2
    ∙ ap (λ (o : List Page). set_order o c.loop-i.self.used c.loop-i.self)
    (moving_stop x c.loop-i.i j o (omega arith) (omega arith) c.loop-i.carry (eqb-true _ x (sym c.eq.ensures ∙ c.if-eq.true)) c.loop-i.invariant.1))
