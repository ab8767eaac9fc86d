-- The ways that a close can go: refused with the world as it was, or accepted, with what its tests say. Assumes nothing.
use Rattle.std.specs.Prelude.{◌<◌, ◌≡◌, refl, true, [], ◌++◌}
use Rattle.std.proofs.Common.{sym}
use Rattle.std.proofs.Math.Path.{ap, subst}
use Rattle.std.proofs.Math.Decide.{ℕ_discrete}
use Rattle.units.specs.Sizes.{top}
use Rattle.units.specs.Tests.{passes}
use Rattle.units.specs.laws.Tests.{tested_passes, passes_both, tested_accepted}
use Rattle.recorder.specs.laws.Asked.{numbered_close, close_facts}
use Rattle.recorder.specs.World.{World, Reply, refuse, accept}
use Rattle.recorder.specs.Rules.{standing}
use Rattle.recorder.specs.Close.{closed, suffices, close_tests, close_reply}
use Rattle.recorder.specs.Runs.{close, reply}
use Rattle.promises.specs.Refused.{refused_same}

-- an accepted close
pub record Closes (w : World) : Type 0 where
  pub passed : passes (standing w ++ close_tests w) ≡ true
  pub early : w.state.closed.0 < top
  pub enough : suffices w ≡ true
  pub is : (close_reply w).world ≡ closed w

module _ (w : World) where
  pub close_accepted : (close_reply w).number ≡ 0 → Closes w
  unfolding close_reply
  close_accepted h =
      let p = tested_accepted (refuse w []) (accept (closed w) []) (λ r. r.number) (λ n. refl) (standing w ++ close_tests w) (numbered_close w) h in
      let a = close_facts w (passes_both (standing w) (close_tests w) p).1 in
      record {
        passed = p;
        early = a.0;
        enough = a.1;
        is = ap (λ (r : Reply). r.world) (tested_passes (refuse w []) (accept (closed w) []) (standing w ++ close_tests w) p);
      }

  -- what holds of the world, and of the closed world where the close is accepted, holds after the close
  pub close_by : (P : World → Type 0) → P w → (Closes w → P (closed w)) → P (close_reply w).world
  unfolding reply
  close_by P h f = go (ℕ_discrete (close_reply w).number 0)
    where
      go : Dec ((close_reply w).number ≡ 0) → P (close_reply w).world
      go (yes z) = let c = close_accepted z in subst P (sym c.is) (f c)
      go (no z) = subst P (sym (refused_same close w z).0) h
