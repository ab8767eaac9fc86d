-- What a close asks once its tests before 10 have passed, and what it has done then; the same of the part that carries out a
-- plan.
use Rattle.std.specs.Prelude.{ℕ, ◌<◌, ◌≤◌, ◌≡◌, true, false, List, length, Result, Ok, Err}
use Rattle.units.specs.Sizes.{top, side_length, base_length, buffer_length}
use Rattle.units.specs.declared.Tick.{Tick}
use Rattle.recorder.specs.Close.{after, closed, suffices}
use Rattle.recorder.specs.inner.Planned.{Plans, Planned}
use Rattle.recorder.specs.World.{World}
use Rattle.units.specs.declared.refusal.Refusal.{Refusal}
use Rattle.units.specs.declared.refusal.Refusal.TheVariants as Reason
use Rattle.recorder.specs.declared.plan.Plan.{Plan}

-- a state that keeps its rules, slices that are long enough, a tick to close
pub record Closes (w : World) (N : Tick) : Type 0 where
  pub plans : Plans w N
  pub base_long : base_length w.state.settings ≤ length w.base
  pub side_long : side_length w.state.settings ≤ length w.side
  pub buffer_long : buffer_length w.state.settings ≤ length w.buffer
  pub low : w.state.closed.0 < top

pub record Carries (w : World) (N : Tick) (p : Plan) : Type 0 where
  pub closes : Closes w N
  pub enough : suffices w ≡ true
  pub planned : Planned w p

-- the slices after the close, and how many entries there are
abbrev pub Carried : World → ℕ → List ℕ → List ℕ → List ℕ → Type 0
Carried w n ledger base side = (n ≡ length (after w)) × (ledger ≡ (closed w).ledger) × (base ≡ (closed w).base) × (side ≡ (closed w).side)

-- by the verdict of 10: carried out, or refused with nothing written
abbrev pub Ended : World → Result ℕ Refusal → List ℕ → List ℕ → List ℕ → Type 0
Ended w (Ok n) ledger base side = (suffices w ≡ true) × Carried w n ledger base side
Ended w (Err refusal) ledger base side =
    (suffices w ≡ false) × (refusal ≡ Reason.NoPlace) × (ledger ≡ w.ledger) × (base ≡ w.base) × (side ≡ w.side)
