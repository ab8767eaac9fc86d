-- The recorder's write. From any world that passes the rules, forged ones included, it leads to one that does. From a good
-- world it leads to a good one; an accepted write to a metadata page lays its bytes over what the page contained, and no other
-- page contains anything else than before. Assumes nothing.
use Rattle.std.specs.Prelude.{ℕ, ◌<◌, ◌≡◌, List, length}
use Rattle.std.proofs.Math.Path.{refl}
use Rattle.std.proofs.Common.{◌∙◌, sym, ap, arith}
use Rattle.octets.specs.Part.{lay}
use Rattle.recorder.specs.laws.Asked.{Span}
use Rattle.recorder.specs.World.{World, Reply, kind_of}
use Rattle.recorder.specs.Calls.{hit_world, miss_world, raw_bypass, written, write_reply}
use Rattle.recorder.specs.Runs.{write, reply}
use Rattle.recorder.specs.laws.Facts.{Ruled}
use Rattle.promises.specs.worlds.Good.{contents, Good}
use Rattle.promises.specs.worlds.Ways.{Writes, refused, hit, miss, raw, write_way}
use Rattle.promises.specs.Refused.{refused_same}
use Rattle.promises.specs.worlds.Steps.{ruled_step, good_step, step_here, step_other}
use Rattle.promises.specs.worlds.Stepped.{wrote, step_write}
use Rattle.promises.specs.worlds.Quieted.{quiet_write}

module _ (w : World) (p offset : ℕ) (bs : List ℕ) where
  -- any world: what an accepted write was given, that a refused one leaves the world, and that the end stays
  pub write_span : (write_reply p offset bs w).number ≡ 0 → Span w p offset (length bs)
  write_span e = go (write_way w p offset bs) e
    where
      go : {x : Reply} → Writes w p offset bs x → x.number ≡ 0 → Span w p offset (length bs)
      go (refused n h) e = absurd (omega arith)
      go (hit s k i f) e = s
      go (miss s k f x z) e = s
      go (raw s k) e = s

  pub write_refused : ((write_reply p offset bs w).number ≡ 0 → ⊥) → (write_reply p offset bs w).world ≡ w
  unfolding reply
  write_refused e = (refused_same (write p offset bs) w e).0

  pub write_end : (write_reply p offset bs w).world.state.end ≡ w.state.end
  unfolding hit_world miss_world raw_bypass written
  write_end = go (write_way w p offset bs)
    where
      go : {x : Reply} → Writes w p offset bs x → x.world.state.end ≡ w.state.end
      go (refused n h) = refl
      go (hit s k i f) = refl
      go (miss s k f x z) = refl
      go (raw s k) = refl

module _ (w : World) (r : Ruled w) (p offset : ℕ) (bs : List ℕ) where
  pub ruled_write : Ruled (write_reply p offset bs w).world
  ruled_write = ruled_step w (step_write w r p offset bs) r

  -- the page that was written
  pub contents_write : (write_reply p offset bs w).number ≡ 0 → kind_of w p ≡ 0 → contents (write_reply p offset bs w).world p ≡ lay (contents w p) offset bs
  contents_write e k =
      let low = (write_span w p offset bs e).low in
      let u = quiet_write w r p offset bs in
      step_here w (step_write w r p offset bs) r (omega (arith, u.end)) (u.kinds p low ∙ k)
      ∙ ap (wrote w p offset bs) e

module _ (w : World) (g : Good w) (p offset : ℕ) (bs : List ℕ) where
  pub good_write : Good (write_reply p offset bs w).world
  good_write = (good_step w (step_write w g.ruled p offset bs) g).0

  pub ending_write : good_write.ending ≡ g.ending
  unfolding good_write
  ending_write = (good_step w (step_write w g.ruled p offset bs) g).1

  -- every other page; after a write to a raw page, every metadata page
  pub contents_write_other : (q : ℕ) → (q ≡ p → ⊥) → q < w.state.end → kind_of w q ≡ 0 → contents (write_reply p offset bs w).world q ≡ contents w q
  contents_write_other q n b k = step_other w (step_write w g.ruled p offset bs) g q n b k

  pub contents_write_raw : (kind_of w p ≡ 0 → ⊥) → (q : ℕ) → q < w.state.end → kind_of w q ≡ 0 → contents (write_reply p offset bs w).world q ≡ contents w q
  contents_write_raw m q b k = contents_write_other q (λ z. m (ap (kind_of w) (sym z) ∙ k)) b k
