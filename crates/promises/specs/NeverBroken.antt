-- In a world that a recording reaches no call answers 3: the recorder never breaks its own state rules. Nor 2: the slices
-- that open took serve every later call. Assumes nothing.
use Rattle.std.specs.Prelude.{◌≤◌, ◌≡◌, ◌⊎◌}
use Rattle.std.proofs.Common.{inl, inr, arith}
use Rattle.recorder.specs.Runs.{Call, reply, Recording, opening, reached}
use Rattle.promises.specs.worlds.Reached.{good_reached}
use Rattle.promises.specs.worlds.Unbroken.{never_broken}

pub never_three : (r : Recording) → (opening r).number ≡ 0 → (c : Call) → (reply c (reached r)).number ≡ 3 → ⊥
never_three r h c e = go (never_broken c (reached r) (good_reached r h).ruled)
  where
    go : ((reply c (reached r)).number ≡ 0) ⊎ (4 ≤ (reply c (reached r)).number) → ⊥
    go (inl z) = omega arith
    go (inr z) = omega arith
