-- What a call leaves: the answer, the bytes of every slice that it may write, and the part that a read hands out. Each is a
-- single outcome (specs/laws/OneOutcome).
use Rattle.std.specs.Prelude.{ℕ, ◌+◌, List, ◌≡◌, eqb}
use Rattle.std.specs.Borrow.{Bor}
use Rattle.lists.specs.Bools.{if_then}
use Rattle.desk.specs.Read.{Answer}
use Rattle.desk.specs.Take.{Taken}

pub record TakeDone (reply : Taken) (answer : ℕ) (held : List ℕ) : Type 0 where
  pub answered : answer ≡ reply.number
  pub holds : held ≡ reply.held

pub record RefreshDone (reply : Taken) (answer : ℕ) (held marks : List ℕ) : Type 0 where
  pub answered : answer ≡ reply.number
  pub holds : held ≡ reply.held
  pub marked : marks ≡ reply.marks

-- the slice that a source names: 1 the side file, 0 the base
abbrev pub from : {X : Type 0} → ℕ → X → X → X
from source side base = if_then (eqb source 1) side base

-- r is an answer's part of the very slice that was lent: it lies there, and it has those bytes
pub record Handed (a : Answer) (side base r : Bor (List ℕ)) : Type 0 where
  pub place : r.ref_ptr ≡ ((from a.source side base).ref_ptr.0, a.offset + (from a.source side base).ref_ptr.1)
  pub bytes : r.now ≡ a.bytes
