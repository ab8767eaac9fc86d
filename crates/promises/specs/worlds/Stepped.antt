-- Each way that a read, a write or a grow can go is a step, from any world that passes the rules. A metadata page comes into a
-- slot: a hit uses the slot it has, a miss and a grow take one; a write lays its bytes over it and marks it. Assumes nothing.
use Rattle.std.specs.Prelude.{ℕ, ◌+◌, ◌*◌, ◌<◌, ◌≤◌, ◌≡◌, List, Bool, eqb, length, get_or, set}
use Rattle.std.proofs.Math.Path.{refl, sym}
use Rattle.std.proofs.Common.{◌∙◌, ap, true≢false, ne_eqb}
use Rattle.std.proofs.Math.Bool.{true, false}
use Rattle.std.proofs.Math.Option.{some, none}
use native.Mathlib.Omega.{arith}
use Rattle.std.proofs.lemmas.List.{length-replicate}
use Rattle.lists.specs.Bools.{if_then}
use Rattle.lists.specs.laws.Bools.{not_both}
use Rattle.octets.specs.Part.{lay}
use Rattle.octets.specs.laws.Part.{length_lay}
use Rattle.slots.specs.laws.Moves.{Placed, touch_placed, mark_placed}
use Rattle.slots.specs.laws.Seats.{Seated, seat_taken}
use Rattle.slots.specs.laws.Sits.{absent_alone, slot_alone, slot_beyond, changed_none, changed_found}
use Rattle.slots.specs.Table.{Seat, no_page, vacant, changed_at, changed_page, touched, marked}
use Rattle.slots.specs.declared.Slots.{Slots}
use Rattle.recorder.specs.laws.Asked.{Span}
use Rattle.recorder.specs.World.{World, Reply, add_hit, add_miss, add_eviction, add_bypass, page_size, slot_count, kind_of, slot_bytes, base_bytes, slot_for}
use Rattle.recorder.specs.Calls.{unclean, hit_world, miss_world, meta_bypass, raw_bypass, laid_in, read_reply, written, write_reply, grown, zero_page, grow_seated, grow_reply, seat_for}
use Rattle.recorder.specs.laws.Facts.{Ruled, within, end_small, seats}
use Rattle.promises.specs.worlds.Good.{contents}
use Rattle.promises.specs.worlds.Ways.{Reads, Writes, Grows, refused, hit, miss, bypass, raw, seat, read_way, write_way, grow_way}
use Rattle.promises.specs.worlds.Frames.{span_here, span_other, page_here, page_other, Framed, framed_same, framed_raw, kind_new, framed_grow_meta, framed_grow_raw}
use Rattle.promises.specs.worlds.Contents.{slot_of_lem, length_base, contents_slot, contents_base}
use Rattle.promises.specs.worlds.Puts.{Put}
use Rattle.promises.specs.worlds.Steps.{Still, Step, same, still, put}

-- what page p contains after a write to it was answered by this number
abbrev pub wrote : World → ℕ → ℕ → List ℕ → ℕ → List ℕ
wrote w p offset bs number = if_then (eqb number 0) (lay (contents w p) offset bs) (contents w p)

wrote_not : (w : World) (p offset : ℕ) (bs : List ℕ) (number : ℕ) → 1 ≤ number → wrote w p offset bs number ≡ contents w p
wrote_not w p offset bs number h = rw (ne_eqb number 0 (λ z. omega arith))

-- a page in its slot, written there: changed, with the bytes laid over
module _ (w : World) (r : Ruled w) {end : ℕ} {t : Slots} {base buffer kinds : List ℕ} {p slot : ℕ} {c : Bool} {xs : List ℕ} where
  pub put_written : Put w end t base buffer kinds p slot c xs → (offset : ℕ) (bs : List ℕ) → offset + length bs ≤ page_size w
      → Put w end (marked slot t) base (laid_in (page_size w) buffer slot offset bs) kinds p slot true (lay xs offset bs)
  put_written u offset bs h =
      record {
        frame = u.frame;
        low = u.low;
        kind = u.kind;
        newest = u.newest;
        inside = u.inside;
        alone = u.alone;
        placed = mark_placed u.placed (omega (arith, u.inside, (within w r).slots_most));
        free = u.free;
        buffer_length_lem = length_lay buffer (slot * page_size w + offset) bs ∙ u.buffer_length_lem;
        here = span_here (page_size w) slot offset buffer bs ∙ ap (λ (l : List ℕ). lay l offset bs) u.here;
        others = λ j n. span_other (page_size w) slot offset buffer bs h j n ∙ u.others j n;
        unchanged = λ f. absurd (true≢false f);
      }

module _ (w : World) (r : Ruled w) where
  -- a hit
  pub put_hit : (p i : ℕ) → p < w.state.end → kind_of w p ≡ 0 → slot_for w p ≡ some i
      → Put w w.state.end (touched p w.state.slots) w.base w.buffer w.kinds p i (changed_at w.state.slots i) (contents w p)
  unfolding slot_for slot_bytes
  put_hit p i b k e =
      let small : p < no_page = omega (arith, end_small w r) in
      let f = slot_of_lem w r p i e in
      record {
        frame = framed_same w r;
        low = b;
        kind = k;
        newest = λ q a d. absurd (omega arith);
        inside = f.0;
        alone = slot_alone (seats w r) p i small e;
        placed = touch_placed (seats w r) p i small e;
        free = λ v n. absurd (n f.1);
        buffer_length_lem = refl;
        here = sym (contents_slot w p i e);
        others = λ j n. refl;
        unchanged = λ f. (b, refl, changed_found (seats w r) p i small e ∙ f);
      }

  -- a page that is in no slot takes one, and these bytes, a page long, are brought there
  module _ {end : ℕ} {base kinds : List ℕ} (frame : Framed w end base kinds) (p : ℕ) (low : p < end) (kind : get_or kinds p 0 ≡ 0)
      (newest : (q : ℕ) → w.state.end ≤ q → q < end → q ≡ p) (absent : slot_for w p ≡ none) (x : Seat) (e : seat_for w p ≡ some x) where
    pub seat_facts : Seated (slot_count w) end (unclean w) p w.state.slots x
    unfolding slot_for
    seat_facts = seat_taken (seats w r) (unclean w) p end absent low frame.grows (omega (arith, frame.fits, (within w r).capacity_most)) x e

    pub put_seat : (t : Slots) (c : Bool) → Placed w.state.slots t x.slot p c → (ys xs : List ℕ) → length ys ≡ page_size w → ys ≡ xs
        → (c ≡ false → (p < w.state.end) × (xs ≡ contents w p) × (changed_page (slot_count w) w.state.slots p ≡ false))
        → Put w end t base (lay w.buffer (x.slot * page_size w) ys) kinds p x.slot c xs
    unfolding slot_for slot_bytes
    put_seat t c placed ys xs l z un =
        record {
          frame = frame;
          low = low;
          kind = kind;
          newest = newest;
          inside = seat_facts.slot;
          alone = absent_alone (slot_count w) w.state.slots p absent x.slot;
          placed = placed;
          free = λ v n. free x.evicts refl v;
          buffer_length_lem = length_lay w.buffer (x.slot * page_size w) ys;
          here = page_here (page_size w) w.buffer (slot_count w) r.lengths.buffer_long x.slot ys l seat_facts.slot ∙ z;
          others = λ j n. page_other (page_size w) w.buffer (slot_count w) r.lengths.buffer_long x.slot ys l j n;
          unchanged = un;
        }
      where
        free : (b : Bool) → x.evicts ≡ b → vacant w.state.slots x.slot ≡ false → unclean w x.slot ≡ false
        free true b v = (seat_facts.evicts b).1
        free false b v = absurd (not_both (vacant w.state.slots x.slot) (seat_facts.loads b) v)

  -- a miss brings the base's page
  pub put_miss : (p : ℕ) → p < w.state.end → kind_of w p ≡ 0 → slot_for w p ≡ none → (x : Seat) → seat_for w p ≡ some x
      → Put w w.state.end x.table w.base (lay w.buffer (x.slot * page_size w) (base_bytes w p)) w.kinds p x.slot false (contents w p)
  unfolding slot_for
  put_miss p b k absent x e =
      let newest : (q : ℕ) → w.state.end ≤ q → q < w.state.end → q ≡ p = λ q a d. absurd (omega arith) in
      put_seat (framed_same w r) p b k newest absent x e
      x.table false (seat_facts (framed_same w r) p b k newest absent x e).placed
      (base_bytes w p) (contents w p) (length_base w r p b) (sym (contents_base w p absent))
      (λ f. (b, refl, changed_none (slot_count w) w.state.slots p absent))

  -- a new metadata page is zero and changed
  pub put_grow : w.state.end < w.state.settings.capacity → (x : Seat) → seat_for w w.state.end ≡ some x
      → Put w (w.state.end + 1) (marked x.slot x.table) w.base (lay w.buffer (x.slot * page_size w) (zero_page w)) (set w.kinds w.state.end 0)
      w.state.end x.slot true (zero_page w)
  unfolding slot_for
  put_grow h x e =
      let low : w.state.end < w.state.end + 1 = omega arith in
      let k = kind_new w r h 0 (omega arith) in
      let newest : (q : ℕ) → w.state.end ≤ q → q < w.state.end + 1 → q ≡ w.state.end = λ q a d. omega arith in
      let absent = slot_beyond (seats w r) w.state.end (omega arith) (omega (arith, end_small w r)) in
      let s = seat_facts (framed_grow_meta w r h 0 (omega arith)) w.state.end low k newest absent x e in
      put_seat (framed_grow_meta w r h 0 (omega arith)) w.state.end low k newest absent x e
      (marked x.slot x.table) true (mark_placed s.placed (omega (arith, s.slot, (within w r).slots_most)))
      (zero_page w) (zero_page w) (length-replicate (page_size w) 0) refl (λ f. absurd (true≢false f))

  -- slots still: nothing but counts; a raw page written, or a raw page more
  still_same : Still w w.state.end w.base w.kinds
  still_same = record { frame = framed_same w r; older = λ q a d k. omega arith }

  still_raw : (p offset : ℕ) (bs : List ℕ) → Span w p offset (length bs) → kind_of w p ≡ 1 → Still w w.state.end (laid_in (page_size w) w.base p offset bs) w.kinds
  still_raw p offset bs s k = record { frame = framed_raw w r p offset bs s k; older = λ q a d k. omega arith }

  still_grow : w.state.end < w.state.settings.capacity
      → Still w (w.state.end + 1) (lay w.base (w.state.end * page_size w) (zero_page w)) (set w.kinds w.state.end 1)
  still_grow h =
      record {
        frame = framed_grow_raw w r h 1 (omega arith);
        older = λ q a d k. raw_new q (omega arith) k;
      }
    where
      raw_new : (q : ℕ) → q ≡ w.state.end → get_or (set w.kinds w.state.end 1) q 0 ≡ 0 → ⊥
      raw_new q z k = omega (arith, kind_new w r h 1 (omega arith), ap (λ (j : ℕ). get_or (set w.kinds w.state.end 1) j 0) z)

  -- after a read a page contains what it did
  pub step_read : (p offset : ℕ) (into : List ℕ) → Step w p (contents w p) (read_reply p offset into w).world
  unfolding hit_world miss_world meta_bypass raw_bypass
  step_read p offset into = go (read_way w p offset into)
    where
      go : {x : Reply} → Reads w p offset into x → Step w p (contents w p) x.world
      go (refused n h) = same (λ b k. refl)
      go (hit s k i e) = put (put_hit p i s.low k e) (add_hit w.state.meta) w.state.raw
      go (miss s k e x f) = put (put_miss p s.low k e x f) (add_miss x.evicts w.state.meta) w.state.raw
      go (bypass s k e) = still still_same (λ b k. refl) (add_bypass w.state.meta) w.state.raw
      go (raw s k) = still still_same (λ b k. refl) w.state.meta (add_bypass w.state.raw)

  -- after a write, by its number
  pub step_write : (p offset : ℕ) (bs : List ℕ) → Step w p (wrote w p offset bs (write_reply p offset bs w).number) (write_reply p offset bs w).world
  unfolding hit_world miss_world raw_bypass written
  step_write p offset bs = go (write_way w p offset bs)
    where
      go : {x : Reply} → Writes w p offset bs x → Step w p (wrote w p offset bs x.number) x.world
      go (refused n h) = same (λ b k. sym (wrote_not w p offset bs n h))
      go (hit s k i e) = put (put_written w r (put_hit p i s.low k e) offset bs s.inside) (add_hit w.state.meta) w.state.raw
      go (miss s k e x f) = put (put_written w r (put_miss p s.low k e x f) offset bs s.inside) (add_miss x.evicts w.state.meta) w.state.raw
      go (raw s k) = still (still_raw p offset bs s k) (λ b z. absurd (omega arith)) w.state.meta (add_bypass w.state.raw)

  -- after a grow the new page is zero
  pub step_grow : (kind : ℕ) → Step w w.state.end (zero_page w) (grow_reply kind w).world
  unfolding grow_seated grown
  step_grow kind = go (grow_way w kind)
    where
      go : {x : Reply} → Grows w kind x → Step w w.state.end (zero_page w) x.world
      go (refused n h) = same (λ b k. absurd (omega arith))
      go (seat h k x e) = put (put_grow h x e) (add_eviction x.evicts w.state.meta) w.state.raw
      go (raw h k) = still (still_grow h) (λ b z. absurd (omega (arith, kind_new w r h 1 (omega arith)))) w.state.meta w.state.raw
