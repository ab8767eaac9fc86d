-- The recorder's grow. From any world that passes the rules, forged ones included, it leads to one that does. From a good
-- world it leads to a good one; a new metadata page is all zero, and no other page contains anything else than before.
-- Assumes nothing.
use Rattle.std.specs.Prelude.{ℕ, ◌+◌, ◌<◌, ◌≡◌, replicate}
use Rattle.std.proofs.Math.Path.{refl, sym}
use Rattle.std.proofs.Common.{◌∙◌, arith}
use Rattle.recorder.specs.World.{World, Reply, page_size, kind_of}
use Rattle.recorder.specs.Calls.{grown, grow_seated, grow_reply}
use Rattle.recorder.specs.Runs.{grow, reply}
use Rattle.recorder.specs.laws.Facts.{Ruled}
use Rattle.promises.specs.worlds.Good.{contents, Good}
use Rattle.promises.specs.worlds.Ways.{Grows, refused, raw, seat, grow_way}
use Rattle.promises.specs.worlds.Frames.{kind_new}
use Rattle.promises.specs.Refused.{refused_same}
use Rattle.promises.specs.worlds.Steps.{ruled_step, good_step, step_here, step_other}
use Rattle.promises.specs.worlds.Stepped.{step_grow}

module _ (w : World) (kind : ℕ) where
  -- any world: an accepted grow adds one page, and a refused one leaves the world
  pub grow_end : (grow_reply kind w).number ≡ 0 → (grow_reply kind w).world.state.end ≡ w.state.end + 1
  unfolding grow_seated grown
  grow_end e = go (grow_way w kind) e
    where
      go : {x : Reply} → Grows w kind x → x.number ≡ 0 → x.world.state.end ≡ w.state.end + 1
      go (refused n h) e = absurd (omega arith)
      go (seat h k x f) e = refl
      go (raw h k) e = refl

  pub grow_refused : ((grow_reply kind w).number ≡ 0 → ⊥) → (grow_reply kind w).world ≡ w
  unfolding reply
  grow_refused e = (refused_same (grow kind) w e).0

module _ (w : World) (r : Ruled w) (kind : ℕ) where
  pub ruled_grow : Ruled (grow_reply kind w).world
  ruled_grow = ruled_step w (step_grow w r kind) r

  -- the new page: its kind, and its bytes
  pub grow_kind : (grow_reply kind w).number ≡ 0 → kind_of (grow_reply kind w).world w.state.end ≡ kind
  unfolding grow_seated grown
  grow_kind e = go (grow_way w kind) e
    where
      go : {x : Reply} → Grows w kind x → x.number ≡ 0 → kind_of x.world w.state.end ≡ kind
      go (refused n h) e = absurd (omega arith)
      go (seat h k x f) e = kind_new w r h 0 (omega arith) ∙ sym k
      go (raw h k) e = kind_new w r h 1 (omega arith) ∙ sym k

  pub contents_grow : (grow_reply kind w).number ≡ 0 → kind ≡ 0 → contents (grow_reply kind w).world w.state.end ≡ replicate (page_size w) 0
  contents_grow e k = step_here w (step_grow w r kind) r (omega (arith, grow_end w kind e)) (grow_kind e ∙ k)

module _ (w : World) (g : Good w) (kind : ℕ) where
  pub good_grow : Good (grow_reply kind w).world
  good_grow = (good_step w (step_grow w g.ruled kind) g).0

  pub ending_grow : good_grow.ending ≡ g.ending
  unfolding good_grow
  ending_grow = (good_step w (step_grow w g.ruled kind) g).1

  -- every page that was there
  pub contents_grow_other : (q : ℕ) → q < w.state.end → kind_of w q ≡ 0 → contents (grow_reply kind w).world q ≡ contents w q
  contents_grow_other q b k = step_other w (step_grow w g.ruled kind) g q (λ z. omega arith) b k
