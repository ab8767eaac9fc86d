use Rattle.std.proofs.Common.{ap, ◌∙◌, arith, rules}
use Rattle.lookup3.specs.declared.Words.{Words}
use Rattle.lookup3.proofs.Turns.{none, first, turn, last}
use Rattle.lookup3.proofs.hashlittle.Goals as goal

pub returns-then-is_empty : goal.returns-then-is_empty
returns-then-is_empty c = ap (λ (w : Words). w.c) c.begin-words.ensures ∙ none _ _ (search rules)

pub loop-left-init : goal.loop-left-init
loop-left-init c = rw c.begin-words.ensures (first _ _ (search rules))

pub loop-left-preserved : goal.loop-left-preserved
loop-left-preserved c =
    turn c.loop-left.left.now c.loop-left.words c.mix-words.result _ (omega arith) (cc) c.loop-left.invariant

pub returns : goal.returns
returns c =
    cc (last c.loop-left.left.now c.loop-left.words (omega arith))
