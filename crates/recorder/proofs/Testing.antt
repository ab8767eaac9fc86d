-- The tests of each call: what every call but open begins with, and the tests behind it. Assumes nothing.
use Prim.Native.Nat.{ℕ, ◌≤◌}
use mathlib.Core.Path.{◌≡◌, refl, sym}
use mathlib.Core.Bool.{true}
use mathlib.Core.List.{List, ◌++◌}
use native.Mathlib.Omega.{arith}
use lib.ListN.{length}
use Rattle.lists.specs.Scans.{all_of}
use Rattle.units.specs.Refusals.{code}
use Rattle.units.specs.Tests.{Test, passes, verdict}
use Rattle.units.specs.laws.Tests.{stopped, verdict_behind, verdict_none}
use Rattle.units.specs.declared.refusal.Refusal.{Refusal}
use Rattle.recorder.specs.laws.Facts.{rule_facts, stands_facts}
use Rattle.recorder.specs.Outcome.{lent}
use Rattle.recorder.specs.Rules.{standing}
use Rattle.recorder.specs.World.{World}
use Rattle.recorder.specs.declared.State.{State}

-- no refusal has the number of a call that is done
pub code_some : (r : Refusal) → code r ≡ 0 → ⊥
code_some r e = grind arith

module _ (w : World) where
  pub stands_passes : 0 ≡ verdict (standing w) → passes (standing w) ≡ true
  unfolding standing all_of
  stands_passes e = verdict_none (standing w) refl (sym e)

  -- a refusal stays, and what passed may be left out
  module _ (us : List Test) where
    pub stands_refused : (r : Refusal) → code r ≡ verdict (standing w) → code r ≡ verdict (standing w ++ us)
    stands_refused r e = stopped (standing w) us (code r) e (code_some r)

    pub stands_behind : 0 ≡ verdict (standing w) → verdict us ≡ verdict (standing w ++ us)
    stands_behind e = sym (verdict_behind (standing w) us (stands_passes e))

module _ (st : State) (ledger base side buffer kinds : List ℕ) where
  pub stands_kinds : 0 ≡ verdict (standing (lent st ledger base side buffer kinds)) → st.end ≤ length kinds
  stands_kinds e =
      let s = stands_facts _ (stands_passes _ e) in
      omega (arith, (rule_facts _ s.ruled).ended, s.long.kinds_long)
