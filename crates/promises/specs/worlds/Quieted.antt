-- A read, a write or a grow is quiet: it leaves the index, the side file and the metadata pages of the base alone, from any
-- world that passes the rules. And what a close still has, it has after a quiet call. Assumes nothing.
use Rattle.std.specs.Prelude.{ℕ, ◌<◌, ◌≡◌, List, length}
use Rattle.std.proofs.Common.{◌∙◌, sym, ap, subst, inl, inr, arith}
use Rattle.lists.specs.Scans.{Every, any_of}
use Rattle.octets.specs.Rows.{row}
use Rattle.units.specs.Sizes.{first_image}
use Rattle.units.specs.declared.Tick.{Tick}
use Rattle.ledger.specs.Entries.{page_of, at}
use Rattle.ledger.specs.View.{entries_in, retired, retired_at}
use Rattle.ledger.specs.declared.Entry.{Entry}
use Rattle.recorder.specs.World.{World, entries_of, image_bytes}
use Rattle.recorder.specs.Calls.{read_reply, write_reply, grow_reply}
use Rattle.recorder.specs.laws.Facts.{Ruled}
use Rattle.promises.specs.worlds.Good.{Guarded, Kept, Quiet}
use Rattle.promises.specs.worlds.Steps.{quiet_step}
use Rattle.promises.specs.worlds.Stepped.{step_read, step_write, step_grow}
pub use Rattle.promises.specs.worlds.Frames.{quiet_same}

-- what follows for the tables that these bytes hold
module _ (w v : World) (q : Quiet w v) where
  pub entries_quiet : entries_of v ≡ entries_of w
  unfolding entries_of
  entries_quiet = λ i. entries_in (q.count i) (q.ledger i)

  pub image_quiet : (n : ℕ) → image_bytes v n ≡ image_bytes w n
  unfolding image_bytes
  image_quiet n = λ i. row (first_image (q.settings i)) (q.settings i).size n (q.side i)

  pub retired_quiet : (n : ℕ) → retired v.state.settings v.ledger n ≡ retired w.state.settings w.ledger n
  retired_quiet n = λ i. retired (q.settings i) (q.ledger i) n

  pub retired_at_quiet : (n : ℕ) → retired_at v.state.settings v.ledger n ≡ retired_at w.state.settings w.ledger n
  retired_at_quiet n = λ i. retired_at (q.settings i) (q.ledger i) n

  pub closed_quiet : v.state.closed.0 ≡ w.state.closed.0
  closed_quiet = ap (λ (t : Tick). t.0) q.closed

pub kept_quiet : (w₀ w v : World) → Kept w₀ w → Quiet w v → Kept w₀ v
kept_quiet w₀ w v k q =
    record {
      same = q.settings ∙ k.same;
      since = omega (arith, k.since, closed_quiet w v q);
      ends = omega (arith, k.ends, q.end);
      kinds = λ p b. q.kinds p (omega (arith, k.ends)) ∙ k.kinds p b;
      images = λ n a. image_quiet w v q n ∙ k.images n a;
      places = λ n a. guarded n (k.places n a);
      pages = λ p b m n. q.pages p (omega (arith, k.ends)) (k.kinds p b ∙ m) ∙ k.pages p b m n;
      entered = λ p b m n. subst (λ (es : List Entry). Every (λ e. page_of e ≡ p → w₀.state.closed.0 < e.entered.0) es) (sym (entries_quiet w v q)) (k.entered p b m n);
      base_length_lem = q.base_length_lem ∙ k.base_length_lem;
      side_length_lem = ap length q.side ∙ k.side_length_lem;
    }
  where
    guarded : (n : ℕ) → Guarded w₀.state.closed.0 w n → Guarded w₀.state.closed.0 v n
    guarded n (inl h) = inl (ap (any_of (at n)) (entries_quiet w v q) ∙ h)
    guarded n (inr h) = inr (retired_quiet w v q n ∙ h.0, omega (arith, h.1, ap (λ (t : Tick). t.0) (retired_at_quiet w v q n)))

module _ (w : World) (r : Ruled w) where
  pub quiet_read : (p offset : ℕ) (into : List ℕ) → Quiet w (read_reply p offset into w).world
  quiet_read p offset into = quiet_step w (step_read w r p offset into)

  pub quiet_write : (p offset : ℕ) (bs : List ℕ) → Quiet w (write_reply p offset bs w).world
  quiet_write p offset bs = quiet_step w (step_write w r p offset bs)

  pub quiet_grow : (kind : ℕ) → Quiet w (grow_reply kind w).world
  quiet_grow kind = quiet_step w (step_grow w r kind)
