-- The recorder's read. From any world that passes the rules, forged ones included, it leads to one that does, and its bytes
-- are those of the page. From a good world it leads to a good one, and no page contains anything else than before.
-- Assumes nothing.
use Rattle.std.specs.Prelude.{ℕ, ◌+◌, ◌*◌, ◌<◌, ◌≡◌, length}
use Rattle.std.proofs.Math.Path.{refl, sym, ap}
use Rattle.std.proofs.Common.{◌∙◌, arith}
use mathlib.Core.List.{List}
use Rattle.std.proofs.Math.Decide.{ℕ_discrete}
use Rattle.octets.specs.Part.{part}
use Rattle.octets.specs.Rows.{page}
use Rattle.recorder.specs.laws.Asked.{Span}
use Rattle.recorder.specs.World.{World, Reply, page_size, kind_of, slot_bytes, base_bytes}
use Rattle.recorder.specs.Calls.{hit_world, miss_world, meta_bypass, raw_bypass, read_reply}
use Rattle.recorder.specs.laws.Facts.{Ruled}
use Rattle.promises.specs.worlds.Good.{contents, Good}
use Rattle.promises.specs.worlds.Ways.{Reads, refused, hit, miss, bypass, raw, read_way}
use Rattle.promises.specs.worlds.Frames.{span_read}
use Rattle.promises.specs.worlds.Contents.{contents_slot, contents_base}
use Rattle.promises.specs.worlds.Steps.{ruled_step, good_step, step_here, step_other}
use Rattle.promises.specs.worlds.Stepped.{put_miss, step_read}
use Rattle.promises.specs.worlds.Quieted.{quiet_read}

module _ (w : World) (p offset : ℕ) (into : List ℕ) where
  -- any world: what an accepted read was given, and that the end stays
  pub read_span : (read_reply p offset into w).number ≡ 0 → Span w p offset (length into)
  read_span e = go (read_way w p offset into) e
    where
      go : {x : Reply} → Reads w p offset into x → x.number ≡ 0 → Span w p offset (length into)
      go (refused n h) e = absurd (omega arith)
      go (hit s k i f) e = s
      go (miss s k f x z) e = s
      go (bypass s k f) e = s
      go (raw s k) e = s

  pub read_end : (read_reply p offset into w).world.state.end ≡ w.state.end
  unfolding hit_world miss_world meta_bypass raw_bypass
  read_end = go (read_way w p offset into)
    where
      go : {x : Reply} → Reads w p offset into x → x.world.state.end ≡ w.state.end
      go (refused n h) = refl
      go (hit s k i f) = refl
      go (miss s k f x z) = refl
      go (bypass s k f) = refl
      go (raw s k) = refl

module _ (w : World) (r : Ruled w) (p offset : ℕ) (into : List ℕ) where
  pub ruled_read : Ruled (read_reply p offset into w).world
  ruled_read = ruled_step w (step_read w r p offset into) r

  -- the bytes of a metadata page
  pub read_contents : (read_reply p offset into w).number ≡ 0 → kind_of w p ≡ 0 → (read_reply p offset into w).bytes ≡ part (contents w p) offset (length into)
  unfolding miss_world slot_bytes base_bytes
  read_contents e k = go (read_way w p offset into) e
    where
      from : (xs : List ℕ) (i : ℕ) → Span w p offset (length into) → page (page_size w) i xs ≡ contents w p
          → part xs (i * page_size w + offset) (length into) ≡ part (contents w p) offset (length into)
      from xs i s h = sym (span_read (page_size w) i offset xs (length into) s.inside) ∙ ap (λ (l : List ℕ). part l offset (length into)) h

      go : {x : Reply} → Reads w p offset into x → x.number ≡ 0 → x.bytes ≡ part (contents w p) offset (length into)
      go (refused n h) e = absurd (omega arith)
      go (hit s k i f) e = from w.buffer i s (sym (contents_slot w p i f))
      go (miss s k f x z) e = from (miss_world w p x).buffer x.slot s (put_miss w r p s.low k f x z).here
      go (bypass s k f) e = from w.base p s (sym (contents_base w p f))
      go (raw s m) e = absurd (omega arith)

module _ (w : World) (g : Good w) (p offset : ℕ) (into : List ℕ) where
  pub good_read : Good (read_reply p offset into w).world
  good_read = (good_step w (step_read w g.ruled p offset into) g).0

  pub ending_read : good_read.ending ≡ g.ending
  unfolding good_read
  ending_read = (good_step w (step_read w g.ruled p offset into) g).1

  pub contents_read : (q : ℕ) → q < w.state.end → kind_of w q ≡ 0 → contents (read_reply p offset into w).world q ≡ contents w q
  contents_read q b k = go (ℕ_discrete q p)
    where
      go : Dec (q ≡ p) → contents (read_reply p offset into w).world q ≡ contents w q
      go (yes z) =
          let u = quiet_read w g.ruled p offset into in
          let e = ap (kind_of (read_reply p offset into w).world) (sym z) ∙ u.kinds q b ∙ k in
          ap (contents (read_reply p offset into w).world) z ∙ step_here w (step_read w g.ruled p offset into) g.ruled (omega (arith, u.end)) e ∙ ap (contents w) (sym z)
      go (no z) = step_other w (step_read w g.ruled p offset into) g q z b k
