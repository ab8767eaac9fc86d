-- From one call to any number of them: a close keeps a world good and keeps what an earlier close has, like every other
-- call; so every world that an accepted open and any calls reach is good. Assumes nothing.
use Rattle.std.specs.Prelude.{◌+◌, ◌≤◌, ◌≡◌, refl, List, [], ◌∷◌, ◌++◌}
use Rattle.std.proofs.Common.{◌∙◌, ap, arith}
use Rattle.units.specs.declared.Tick.{Tick}
use Rattle.recorder.specs.World.{World}
use Rattle.recorder.specs.Calls.{open_state}
use Rattle.recorder.specs.Close.{closed, close_reply}
use Rattle.recorder.specs.declared.State.{State}
use Rattle.recorder.specs.Runs.{Call, read, write, grow, close, reply, run, Recording, opening, reached}
use Rattle.promises.specs.closes.CloseWay.{close_by}
use Rattle.recorder.specs.laws.Closed.{tick_closed, settings_closed}
use Rattle.promises.specs.closes.ClosedGood.{good_closed}
use Rattle.promises.specs.closes.ClosedKept.{kept_closed}
use Rattle.promises.specs.closes.ClosedRules.{ruled_closed}
use Rattle.recorder.specs.laws.Facts.{Ruled}
use Rattle.promises.specs.worlds.Good.{Good, Kept}
use Rattle.promises.specs.worlds.Growing.{good_grow, ruled_grow}
use Rattle.promises.specs.worlds.Opened.{good_open, open_state_lem}
use Rattle.promises.specs.worlds.Quieted.{quiet_read, quiet_write, quiet_grow, kept_quiet}
use Rattle.promises.specs.worlds.Reading.{good_read, ruled_read}
use Rattle.promises.specs.worlds.Writing.{good_write, ruled_write}

pub good_close : (w : World) → Good w → Good (close_reply w).world
good_close w g = close_by w Good g (λ c. good_closed w g c.enough c.early)

pub ruled_close : (w : World) → Ruled w → Ruled (close_reply w).world
ruled_close w r = close_by w Ruled r (λ c. ruled_closed w r c.enough c.early)

-- a close raises the tick by one or leaves it
pub close_tick : (w : World) → w.state.closed.0 ≤ (close_reply w).world.state.closed.0
close_tick w = close_by w (λ v. w.state.closed.0 ≤ v.state.closed.0) (omega arith) (λ c. rw (tick_closed w) (omega arith))

pub kept_close : (w₀ w : World) → Good w₀ → Good w → Kept w₀ w → (close_reply w).world.state.closed.0 ≤ w₀.state.closed.0 + w₀.state.settings.lag
    → Kept w₀ (close_reply w).world
kept_close w₀ w g₀ g k =
    close_by w (λ v. v.state.closed.0 ≤ w₀.state.closed.0 + w₀.state.settings.lag → Kept w₀ v)
    (λ h. k)
    (λ c h. kept_closed w₀ w g₀ g k c.enough c.early
    (let z : w.state.closed.0 + 1 ≤ w₀.state.closed.0 + w₀.state.settings.lag = rw (tick_closed w) at h in
    rw k.same z))

-- any call, and any number of them

pub good_reply : (c : Call) (w : World) → Good w → Good (reply c w).world
unfolding reply
good_reply (read p offset into) w g = good_read w g p offset into
good_reply (write p offset bs) w g = good_write w g p offset bs
good_reply (grow kind) w g = good_grow w g kind
good_reply close w g = good_close w g

-- from any world that passes the tests, forged ones included
pub ruled_reply : (c : Call) (w : World) → Ruled w → Ruled (reply c w).world
unfolding reply
ruled_reply (read p offset into) w r = ruled_read w r p offset into
ruled_reply (write p offset bs) w r = ruled_write w r p offset bs
ruled_reply (grow kind) w r = ruled_grow w r kind
ruled_reply close w r = ruled_close w r

pub tick_reply : (c : Call) (w : World) → Good w → w.state.closed.0 ≤ (reply c w).world.state.closed.0
unfolding reply
tick_reply (read p offset into) w g = rw (quiet_read w g.ruled p offset into).closed (omega arith)
tick_reply (write p offset bs) w g = rw (quiet_write w g.ruled p offset bs).closed (omega arith)
tick_reply (grow kind) w g = rw (quiet_grow w g.ruled kind).closed (omega arith)
tick_reply close w g = close_tick w

pub kept_reply : (w₀ : World) → Good w₀ → (c : Call) (w : World) → Good w → Kept w₀ w
    → (reply c w).world.state.closed.0 ≤ w₀.state.closed.0 + w₀.state.settings.lag
    → Kept w₀ (reply c w).world
unfolding reply
kept_reply w₀ g₀ (read p offset into) w g k h = kept_quiet w₀ w (reply (read p offset into) w).world k (quiet_read w g.ruled p offset into)
kept_reply w₀ g₀ (write p offset bs) w g k h = kept_quiet w₀ w (reply (write p offset bs) w).world k (quiet_write w g.ruled p offset bs)
kept_reply w₀ g₀ (grow kind) w g k h = kept_quiet w₀ w (reply (grow kind) w).world k (quiet_grow w g.ruled kind)
kept_reply w₀ g₀ close w g k h = kept_close w₀ w g₀ g k h

-- settings never change
pub settings_reply : (c : Call) (w : World) → Good w → (reply c w).world.state.settings ≡ w.state.settings
unfolding reply
settings_reply (read p offset into) w g = (quiet_read w g.ruled p offset into).settings
settings_reply (write p offset bs) w g = (quiet_write w g.ruled p offset bs).settings
settings_reply (grow kind) w g = (quiet_grow w g.ruled kind).settings
settings_reply close w g = close_by w (λ v. v.state.settings ≡ w.state.settings) refl (λ c. settings_closed w)

-- a call that closes no tick does not write the side file
pub side_reply : (c : Call) (w : World) → Good w → (reply c w).world.state.closed.0 ≡ w.state.closed.0 → (reply c w).world.side ≡ w.side
unfolding reply
side_reply (read p offset into) w g h = (quiet_read w g.ruled p offset into).side
side_reply (write p offset bs) w g h = (quiet_write w g.ruled p offset bs).side
side_reply (grow kind) w g h = (quiet_grow w g.ruled kind).side
side_reply close w g h =
    close_by w (λ v. v.state.closed.0 ≡ w.state.closed.0 → v.side ≡ w.side) (λ z. refl)
    (λ c z. absurd (omega (arith, ap (λ (t : Tick). t.0) (tick_closed w)))) h

pub good_run : (cs : List Call) (w : World) → Good w → Good (run cs w)
unfolding run
good_run [] w g = g
good_run (c ∷ cs) w g = good_run cs (reply c w).world (good_reply c w g)

pub settings_run : (cs : List Call) (w : World) → Good w → (run cs w).state.settings ≡ w.state.settings
unfolding run
settings_run [] w g = refl
settings_run (c ∷ cs) w g = settings_run cs (reply c w).world (good_reply c w g) ∙ settings_reply c w g

pub tick_run : (cs : List Call) (w : World) → Good w → w.state.closed.0 ≤ (run cs w).state.closed.0
unfolding run
tick_run [] w g = omega arith
tick_run (c ∷ cs) w g = omega (arith, tick_reply c w g, tick_run cs (reply c w).world (good_reply c w g))

pub kept_run : (w₀ : World) → Good w₀ → (cs : List Call) (w : World) → Good w → Kept w₀ w
    → (run cs w).state.closed.0 ≤ w₀.state.closed.0 + w₀.state.settings.lag
    → Kept w₀ (run cs w)
unfolding run
kept_run w₀ g₀ [] w g k h = k
kept_run w₀ g₀ (c ∷ cs) w g k h =
    let v = (reply c w).world in
    let g' = good_reply c w g in
    kept_run w₀ g₀ cs v g' (kept_reply w₀ g₀ c w g k (omega (arith, tick_run cs v g'))) h

-- every world that a recording reaches
pub good_opening : (r : Recording) → (opening r).number ≡ 0 → Good (opening r).world
unfolding opening
good_opening r h = good_open r.settings r.end r.tick r.lent h

pub good_reached : (r : Recording) → (opening r).number ≡ 0 → Good (reached r)
unfolding reached
good_reached r h = good_run r.calls (opening r).world (good_opening r h)

pub settings_reached : (r : Recording) → (opening r).number ≡ 0 → (reached r).state.settings ≡ r.settings
unfolding reached opening open_state
settings_reached r h =
    settings_run r.calls (opening r).world (good_opening r h)
    ∙ ap (λ (s : State). s.settings) (open_state_lem r.settings r.end r.tick r.lent h)

pub run_more : (cs ds : List Call) (w : World) → run (cs ++ ds) w ≡ run ds (run cs w)
unfolding run
run_more [] ds w = refl
run_more (c ∷ cs) ds w = run_more cs ds (reply c w).world
