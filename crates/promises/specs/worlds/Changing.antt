-- Which pages are changed. A changed page stays so until the close of its tick: no read, write or grow takes the flag away or
-- gives its slot to another page. An accepted write to a metadata page leaves that page changed, and one that came into the
-- file since the last close is changed. Assumes nothing.
use Rattle.std.specs.Prelude.{ℕ, ◌<◌, ◌≤◌, ◌≡◌, refl, List, Bool}
use Rattle.std.proofs.Common.{◌∙◌, arith}
use Rattle.std.proofs.Math.Path.{sym, ap}
use Rattle.std.proofs.Math.Bool.{true}
use Rattle.std.proofs.Math.Option.{some}
use Rattle.std.proofs.Math.Decide.{ℕ_discrete}
use Rattle.lists.specs.laws.Bools.{not_both, true_of}
use Rattle.slots.specs.laws.Sits.{changed_page_lem, changed_found}
use Rattle.slots.specs.Table.{page_at, changed_at, changed_page}
use Rattle.slots.specs.declared.Slots.{Slots}
use Rattle.recorder.specs.World.{World, Reply, slot_count, kind_of, slot_for}
use Rattle.recorder.specs.Calls.{hit_world, miss_world, raw_bypass, written, read_reply, write_reply, grow_reply}
use Rattle.recorder.specs.Close.{changed_in}
use Rattle.recorder.specs.declared.Counts.{Counts}
use Rattle.recorder.specs.laws.Closed.{changed_held}
use Rattle.promises.specs.worlds.Contents.{slot_of_lem, slot_filled}
use Rattle.recorder.specs.laws.Facts.{Ruled, end_small, seats}
use Rattle.promises.specs.worlds.Frames.{next}
use Rattle.promises.specs.worlds.Good.{Good}
use Rattle.promises.specs.worlds.Puts.{Put, clean_slot}
use Rattle.promises.specs.worlds.Steps.{Step, same, still, put}
use Rattle.promises.specs.worlds.Stepped.{put_hit, put_miss, put_written, step_read, step_write, step_grow}
use Rattle.promises.specs.worlds.Ways.{Writes, refused, hit, miss, raw, write_way}

-- a page comes into a slot
module _ (w : World) (r : Ruled w) {end : ℕ} {t : Slots} {base buffer kinds : List ℕ} {p slot : ℕ} {c : Bool} {bs : List ℕ}
    (u : Put w end t base buffer kinds p slot c bs) (meta raw : Counts) where
  changed_put : c ≡ true → changed_in (next w end t meta raw base buffer kinds) p ≡ true
  unfolding changed_in
  changed_put z = changed_page_lem (slot_count w) t p slot u.inside u.placed.page_here (u.placed.changed_here ∙ z)

  stays_put : (q : ℕ) → q < w.state.end → changed_in w q ≡ true → changed_in (next w end t meta raw base buffer kinds) q ≡ true
  unfolding changed_in slot_for
  stays_put q b h = go (ℕ_discrete q p)
    where
      -- the slot of a changed page is not a clean one, so it is not the slot that p takes
      at : (i : ℕ) → slot_for w q ≡ some i → (q ≡ p → ⊥) → Dec (i ≡ slot) → changed_page (slot_count w) t q ≡ true
      at i f n (yes z) =
          let s = slot_of_lem w r q i f in
          let x = ap (page_at w.state.slots) (sym z) ∙ s.1 in
          let v = slot_filled w r q slot b (f ∙ ap some z) in
          absurd (not_both (changed_at w.state.slots i) (sym (changed_found (seats w r) q i (omega (arith, end_small w r)) f) ∙ h)
          (ap (changed_at w.state.slots) z ∙ (clean_slot w slot (u.free v (λ e. n (sym x ∙ e)))).0))
      at i f n (no z) =
          let s = slot_of_lem w r q i f in
          changed_page_lem (slot_count w) t q i s.0 (u.placed.page_other i z ∙ s.1)
          (u.placed.changed_other i z ∙ sym (changed_found (seats w r) q i (omega (arith, end_small w r)) f) ∙ h)

      go : Dec (q ≡ p) → changed_page (slot_count w) t q ≡ true
      go (yes z) =
          ap (changed_page (slot_count w) t) z
          ∙ changed_put (true_of c (λ f. not_both (changed_page (slot_count w) w.state.slots p) (ap (changed_page (slot_count w) w.state.slots) (sym z) ∙ h) (u.unchanged f).2))
      go (no n) = let s = changed_held w r q h in at s.0 s.1 n (ℕ_discrete s.0 slot)

module _ (w : World) (r : Ruled w) (q : ℕ) (b : q < w.state.end) (h : changed_in w q ≡ true) where
  stays_step : {p : ℕ} {xs : List ℕ} {v : World} → Step w p xs v → changed_in v q ≡ true
  unfolding changed_in
  stays_step (same x) = h
  stays_step (still s x a c) = h
  stays_step (put u a c) = stays_put w r u a c q b h

  pub stays_read : (p offset : ℕ) (into : List ℕ) → changed_in (read_reply p offset into w).world q ≡ true
  stays_read p offset into = stays_step (step_read w r p offset into)

  pub stays_write : (p offset : ℕ) (bs : List ℕ) → changed_in (write_reply p offset bs w).world q ≡ true
  stays_write p offset bs = stays_step (step_write w r p offset bs)

  pub stays_grow : (kind : ℕ) → changed_in (grow_reply kind w).world q ≡ true
  stays_grow kind = stays_step (step_grow w r kind)

pub changed_write : (w : World) → Ruled w → (p offset : ℕ) (bs : List ℕ) → (write_reply p offset bs w).number ≡ 0 → kind_of w p ≡ 0
    → changed_in (write_reply p offset bs w).world p ≡ true
unfolding hit_world miss_world raw_bypass written
changed_write w r p offset bs a m = go (write_way w p offset bs) a
  where
    go : {x : Reply} → Writes w p offset bs x → x.number ≡ 0 → changed_in x.world p ≡ true
    go (refused n h) a = absurd (omega arith)
    go (hit s k i e) a = changed_put w r (put_written w r (put_hit w r p i s.low k e) offset bs s.inside) _ _ refl
    go (miss s k e x f) a = changed_put w r (put_written w r (put_miss w r p s.low k e x f) offset bs s.inside) _ _ refl
    go (raw s k) a = absurd (omega arith)

-- a metadata page that came after the last close is changed
pub changed_newer : (w : World) → (g : Good w) → (p : ℕ) → g.ending ≤ p → p < w.state.end → kind_of w p ≡ 0 → changed_in w p ≡ true
unfolding changed_in
changed_newer w g p a b m =
    let n = g.newer p a b m in
    let s = slot_of_lem w g.ruled p n.0 n.1.0 in
    changed_page_lem (slot_count w) w.state.slots p n.0 s.0 s.1 n.1.1
