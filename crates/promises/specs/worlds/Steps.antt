-- What any read, write or grow does to a world w (Step w p xs v): it is about one page p, which contains xs after it if it is a
-- metadata page, and leads to v. Refused, the world is the same; a bypass and a raw page leave the slots still; else the page
-- comes into a slot. What is said of a step is said of all these calls. Assumes nothing.
use Rattle.std.specs.Prelude.{ℕ, ◌<◌, ◌≤◌, ◌≡◌, List, Bool, true, get_or}
use Rattle.std.proofs.Math.Path.{refl, sym}
use Rattle.std.proofs.Common.{◌∙◌, arith}
use Rattle.std.proofs.Math.Bool.{false}
use Rattle.std.proofs.Math.Option.{Option, some, none}
use Rattle.std.proofs.Math.Decide.{dec_lt}
use Rattle.lists.specs.laws.Scans.{every_map}
use Rattle.octets.specs.Rows.{page}
use Rattle.slots.specs.laws.Sits.{sits_more}
use Rattle.slots.specs.Table.{page_at, vacant, changed_at, slot_of}
use Rattle.slots.specs.declared.Slots.{Slots}
use Rattle.recorder.specs.World.{World, page_size, slot_count, entries_of, kind_of, slot_bytes, base_bytes, slot_for}
use Rattle.recorder.specs.declared.Counts.{Counts}
use Rattle.recorder.specs.laws.Facts.{Ruled, seats}
use Rattle.promises.specs.worlds.Good.{view, contents, Good, Quiet}
use Rattle.promises.specs.worlds.Frames.{Framed, next, quiet_same, quiet_framed}
use Rattle.promises.specs.worlds.Nexts.{Next, ruled_next, good_next, good_next_ending}
use Rattle.promises.specs.worlds.Contents.{contents_slot, contents_base}
use Rattle.promises.specs.worlds.Puts.{Put, ruled_put, contents_put, contents_other, good_put, good_put_ending}

-- slots and buffer are as they were, and no metadata page is new
pub record Still (w : World) (end : ℕ) (base kinds : List ℕ) : Type 0 where
  pub frame : Framed w end base kinds
  pub older : (q : ℕ) → w.state.end ≤ q → q < end → get_or kinds q 0 ≡ 0 → ⊥

module _ (w : World) {end : ℕ} {base kinds : List ℕ} (s : Still w end base kinds) where
  still_next : Ruled w → Next w end w.state.slots base w.buffer kinds
  unfolding slot_for
  still_next r =
      record {
        frame = s.frame;
        buffer_length_lem = refl;
        sits = sits_more end s.frame.grows (seats w r);
        slot_kinds = λ i h v. s.frame.kept (page_at w.state.slots i) ((seats w r).low i h v) ∙ r.kinds.slot_kinds i h v;
        owed_held = every_map (λ e f. f.owed_held) (entries_of w) r.facts.each;
      }

  module _ (meta raw : Counts) where
    ruled_still : Ruled w → Ruled (next w end w.state.slots meta raw base w.buffer kinds)
    ruled_still r = ruled_next w end w.state.slots meta raw base w.buffer kinds (still_next r) r

    contents_still : (q : ℕ) → q < w.state.end → kind_of w q ≡ 0 → contents (next w end w.state.slots meta raw base w.buffer kinds) q ≡ contents w q
    unfolding slot_for slot_bytes base_bytes
    contents_still q b k = go (slot_for w q) refl
      where
        go : (o : Option ℕ) → slot_for w q ≡ o → contents (next w end w.state.slots meta raw base w.buffer kinds) q ≡ contents w q
        go none h = contents_base (next w end w.state.slots meta raw base w.buffer kinds) q h ∙ s.frame.pages q b k ∙ sym (contents_base w q h)
        go (some i) h = contents_slot (next w end w.state.slots meta raw base w.buffer kinds) q i h ∙ sym (contents_slot w q i h)

    good_still : (g : Good w) → (n : Good (next w end w.state.slots meta raw base w.buffer kinds)) × (n.ending ≡ g.ending)
    unfolding slot_bytes slot_for
    good_still g = (
      good_next w end w.state.slots meta raw base w.buffer kinds (still_next g.ruled) g read newer,
      good_next_ending w end w.state.slots meta raw base w.buffer kinds (still_next g.ruled) g read newer,
    )
      where
        read : (i : ℕ) → i < slot_count w → vacant w.state.slots i ≡ false → changed_at w.state.slots i ≡ false
            → (page_at w.state.slots i < w.state.end) × (page (page_size w) i w.buffer ≡ view w (page_at w.state.slots i))
        read i h v c = ((seats w g.ruled).low i h v, g.slots i h v c)

        newer : (q : ℕ) → g.ending ≤ q → q < end → get_or kinds q 0 ≡ 0 → (i : ℕ) × ((slot_of (slot_count w) w.state.slots q ≡ some i) × (changed_at w.state.slots i ≡ true))
        newer q a b k = go (dec_lt q w.state.end)
          where
            go : Dec (q < w.state.end) → (i : ℕ) × ((slot_of (slot_count w) w.state.slots q ≡ some i) × (changed_at w.state.slots i ≡ true))
            go (yes d) = g.newer q a d (sym (s.frame.kept q d) ∙ k)
            go (no d) = absurd (s.older q (omega (arith, d)) b k)

pub data Step (w : World) (p : ℕ) (xs : List ℕ) : World → Type 0 where
  same : (p < w.state.end → kind_of w p ≡ 0 → contents w p ≡ xs) → Step w p xs w
  still : {end : ℕ} {base kinds : List ℕ} → Still w end base kinds → (p < end → get_or kinds p 0 ≡ 0 → contents w p ≡ xs)
      → (meta raw : Counts)
      → Step w p xs (next w end w.state.slots meta raw base w.buffer kinds)
  put : {end : ℕ} {t : Slots} {base buffer kinds : List ℕ} {slot : ℕ} {c : Bool} → Put w end t base buffer kinds p slot c xs
      → (meta raw : Counts)
      → Step w p xs (next w end t meta raw base buffer kinds)

module _ (w : World) {p : ℕ} {xs : List ℕ} where
  pub quiet_step : {v : World} → Step w p xs v → Quiet w v
  quiet_step (same h) = quiet_same w
  quiet_step (still {end} {base} {kinds} s h meta raw) = quiet_framed w end w.state.slots meta raw base w.buffer kinds s.frame
  quiet_step (put {end} {t} {base} {buffer} {kinds} u meta raw) = quiet_framed w end t meta raw base buffer kinds u.frame

  pub ruled_step : {v : World} → Step w p xs v → Ruled w → Ruled v
  ruled_step (same h) r = r
  ruled_step (still s h meta raw) r = ruled_still w s meta raw r
  ruled_step (put u meta raw) r = ruled_put w r u meta raw

  pub good_step : {v : World} → Step w p xs v → (g : Good w) → (n : Good v) × (n.ending ≡ g.ending)
  good_step (same h) g = (g, refl)
  good_step (still s h meta raw) g = good_still w s meta raw g
  good_step (put u meta raw) g = (good_put w g u meta raw, good_put_ending w g u meta raw)

  -- the page of the step, and every other page
  pub step_here : {v : World} → Step w p xs v → Ruled w → p < v.state.end → kind_of v p ≡ 0 → contents v p ≡ xs
  step_here (same h) r b k = h b k
  step_here (still {end} {base} {kinds} s h meta raw) r b k = go (dec_lt p w.state.end)
    where
      go : Dec (p < w.state.end) → contents (next w end w.state.slots meta raw base w.buffer kinds) p ≡ xs
      go (yes d) = contents_still w s meta raw p d (sym (s.frame.kept p d) ∙ k) ∙ h b k
      go (no d) = absurd (s.older p (omega (arith, d)) b k)
  step_here (put u meta raw) r b k = contents_put w r u meta raw

  pub step_other : {v : World} → Step w p xs v → Good w → (q : ℕ) → (q ≡ p → ⊥) → q < w.state.end → kind_of w q ≡ 0 → contents v q ≡ contents w q
  step_other (same h) g q n b k = refl
  step_other (still s h meta raw) g q n b k = contents_still w s meta raw q b k
  step_other (put u meta raw) g q n b k = contents_other w g.ruled u meta raw q b k n g
