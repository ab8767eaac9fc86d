-- What a call is given and what it leaves, as a world and a reply: the contract of each call is an equation between its reply
-- and the answer with the lent slices at exit. Two answers to one input are therefore equal.
use Rattle.std.specs.Prelude.{ℕ, List, Result, Ok, Err}
use Rattle.units.specs.Refusals.{code, number}
use Rattle.units.specs.declared.refusal.Refusal.{Refusal}
use Rattle.recorder.specs.World.{World, Reply}
use Rattle.recorder.specs.declared.Answer.{Answer}
use Rattle.recorder.specs.declared.State.{State}

-- the world of a state and five lent slices
abbrev pub lent : State → List ℕ → List ℕ → List ℕ → List ℕ → List ℕ → World
lent s ledger base side buffer kinds = record { state = s; ledger = ledger; base = base; side = side; buffer = buffer; kinds = kinds }

-- what C is answered by a call that was given a state: 0 and the state from now on, or a number of refusal and the state given
abbrev pub answer : State → Result State Refusal → Answer
answer given (Ok state) = record { number = 0; state = state }
answer given (Err refusal) = record { number = code refusal; state = given }

-- what C is answered by a call that changes the state it was lent: the number of what it answers, and the state at exit
abbrev pub answer_with : Result Unit Refusal → State → Answer
answer_with r state = record { number = number r; state = state }

-- the reply that an answer makes with the slices at exit, and with the caller's own slice
abbrev pub answered : Answer → List ℕ → List ℕ → List ℕ → List ℕ → List ℕ → List ℕ → Reply
answered a ledger base side buffer kinds bytes = record { number = a.number; world = lent a.state ledger base side buffer kinds; bytes = bytes }
