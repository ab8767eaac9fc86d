-- Two alike worlds answer a read, a write or a grow alike: the same number, the same bytes, and worlds that are alike again.
-- Assumes nothing.
use Prim.Native.Nat.{ℕ, ◌+◌, ◌*◌, ◌<◌, ◌≤◌}
use Rattle.std.specs.Prelude.{◌≡◌, Bool, true, ◌||◌, eqb, set}
use Rattle.std.proofs.Math.Path.{refl, ap, subst}
use Rattle.std.proofs.Common.{◌∙◌, sym, true≢false, arith, length-set, ltb-true}
use mathlib.Core.List.{List, [], ◌++◌}
use Rattle.std.proofs.Math.Bool.{false}
use Rattle.std.proofs.lemmas.Bool.{false≢true}
use Rattle.std.proofs.Math.Option.{Option, some, none}
use Rattle.std.proofs.Math.Decide.{ℕ_discrete}
use Rattle.std.proofs.Math.Dec.{ltb}
use Rattle.std.proofs.Math.ListN.{length}
use Rattle.std.proofs.lemmas.List.{length-replicate}
use Rattle.lists.specs.Bools.{if_then}
use Rattle.octets.specs.Part.{lay}
use Rattle.octets.specs.laws.Part.{length_lay}
use Rattle.octets.specs.Rows.{page}
use Rattle.octets.specs.laws.Rows.{row_in, length_row}
use Rattle.units.specs.Refusals as Refusals
use Rattle.units.specs.Sizes.{base_length}
use Rattle.units.specs.Tests.{Test, passes, tested}
use Rattle.units.specs.laws.Tests.{passes_both}
use Rattle.slots.specs.laws.Moves.{vacant_other}
use Rattle.slots.specs.laws.Seats.{Seated, seat_taken}
use Rattle.slots.specs.laws.Sits.{slot_beyond}
use Rattle.slots.specs.Table.{page_at, vacant, changed_at, touched, marked, Seat, seated}
use Rattle.ledger.specs.Entries.{owed_page}
use Rattle.ledger.specs.declared.Entry.{Entry}
use Rattle.recorder.specs.laws.Asked.{span_facts}
use Rattle.recorder.specs.Calls.{span_tests, unclean, Found, found_in, found, hit_world, miss_world, meta_bypass, raw_bypass, span_in, laid_in, read_found, read_reply, written, write_found, write_reply, grow_tests, grown, zero_page, grow_seated, grow_reply, seat_for}
use Rattle.recorder.specs.Rules.{standing}
use Rattle.recorder.specs.World.{World, Reply, refuse, accept, set_base, page_size, slot_count, wait_of, metadata, slot_bytes, base_bytes, slot_for}
use Rattle.promises.specs.alike.AlikeSlices.{lent_next, lent_slots, span_same, page_same, pages_same, span_read}
use Rattle.promises.specs.alike.Agree.{Agree, last, next, agree_same, agree_append, agree_passes, agree_tested}
use Rattle.promises.specs.alike.Alike.{with_slices, Lent, Alike, same_entries, same_kind, same_base, same_slot, in_file, ruled_slices}
use Rattle.recorder.specs.laws.Facts.{Ruled, ruled_passes, seats, end_small}
use Rattle.promises.specs.worlds.Fronts.{Front, front_part, front_lay, front_set}

-- two replies that no caller tells apart
pub record Both (r q : Reply) : Type 0 where
  pub number : r.number ≡ q.number
  pub bytes : r.bytes ≡ q.bytes
  pub world : Alike r.world q.world

both_accepted : {a b : World} {bs cs : List ℕ} → a.state ≡ b.state → bs ≡ cs → Lent a b → Both (accept a bs) (accept b cs)
both_accepted e f l = record { number = refl; bytes = f; world = record { state = e; lent = l } }

-- what is done for raw pages
abbrev raw_read : World → ℕ → ℕ → ℕ → Reply
raw_read w p offset n = accept (raw_bypass w) (span_in (page_size w) w.base p offset n)

abbrev raw_write : World → ℕ → ℕ → List ℕ → Reply
raw_write w p offset bs = accept (set_base (laid_in (page_size w) w.base p offset bs) (raw_bypass w)) bs

abbrev raw_grow : World → Reply
raw_grow w = accept (set_base (lay w.base (w.state.end * page_size w) (zero_page w)) (grown w 1)) []

-- a choice that falls alike
both_if : (b c : Bool) (x y x₀ y₀ : Reply) → b ≡ c → Both x y → Both x₀ y₀ → Both (if_then b x x₀) (if_then c y y₀)
both_if true true x y x₀ y₀ e f g = f
both_if true false x y x₀ y₀ e f g = absurd (true≢false e)
both_if false true x y x₀ y₀ e f g = absurd (false≢true e)
both_if false false x y x₀ y₀ e f g = g

module _ (w v : World) (r : Ruled w) (l : Lent w v) where
  -- nothing is done
  both_refused : (bs : List ℕ) (n : ℕ) → Both (refuse w bs n) (refuse (with_slices w v) bs n)
  unfolding slot_bytes
  both_refused bs n = record { number = refl; bytes = refl; world = record { state = refl; lent = lent_slots l refl l.buffer } }

  agree_standing : Agree (standing w) (standing (with_slices w v))
  agree_standing = agree_passes (standing w) (standing (with_slices w v)) (ruled_passes w r) (ruled_passes (with_slices w v) (ruled_slices w v r l))

  -- a call: the tests of every call, its own, and what it does
  pub both_tested : (bs : List ℕ) (x y : Reply) (ts us : List Test) → Agree ts us → (passes ts ≡ true → Both x y)
      → Both (tested (standing w ++ ts) (refuse w bs) x) (tested (standing (with_slices w v) ++ us) (refuse (with_slices w v) bs) y)
  both_tested bs x y ts us a f = agree_tested Both (refuse w bs) (refuse (with_slices w v) bs) x y (both_refused bs) (agree_append agree_standing a) (λ h. f ((passes_both (standing w) ts h).1))

  -- where a page is found
  same_unclean : unclean w ≡ unclean (with_slices w v)
  unfolding unclean
  same_unclean =
      ap (λ (es : List Entry). λ (i : ℕ). changed_at w.state.slots i || owed_page (wait_of w) w.state.closed es (page_at w.state.slots i)) (same_entries w v r l)

  same_found : (p : ℕ) → found w p ≡ found (with_slices w v) p
  unfolding found slot_for
  same_found p = ap (λ (mask : ℕ → Bool). found_in (slot_for w p) (seated (slot_count w) mask p w.state.slots)) same_unclean

  -- a page in no slot, one that is yet to come, and the slot that each takes
  abbrev Takes : ℕ → ℕ → Seat → Type 0
  Takes end p x = Seated (slot_count w) end (unclean w) p w.state.slots x

  seat_of : (p : ℕ) (x : Seat) → p < w.state.end → slot_for w p ≡ none → seat_for w p ≡ some x → Takes w.state.end p x
  unfolding slot_for
  seat_of p x h n e = seat_taken (seats w r) (unclean w) p w.state.end n h (omega arith) (omega (arith, end_small w r)) x e

  seat_new : (x : Seat) → seat_for w w.state.end ≡ some x → Takes (w.state.end + 1) w.state.end x
  seat_new x e =
      let n = end_small w r in
      seat_taken (seats w r) (unclean w) w.state.end (w.state.end + 1) (slot_beyond (seats w r) w.state.end (omega arith) (omega arith)) (omega arith) (omega arith) (omega arith) x e

  -- a hit, a load, a bypass
  hit_lent : (p : ℕ) → Lent (hit_world w p) (hit_world (with_slices w v) p)
  unfolding hit_world slot_bytes vacant page_at touched
  hit_lent p = lent_slots l refl l.buffer

  base_size : (p : ℕ) → p < w.state.end → length (base_bytes w p) ≡ page_size w
  unfolding base_bytes
  base_size p h = length_row 0 (page_size w) w.base w.state.settings.capacity r.lengths.base_long p (in_file w r p h)

  -- the slots of both buffers after a page was laid into slot x
  seat_pages : (x : Seat) → {end p : ℕ} → Takes end p x → (ys : List ℕ) → length ys ≡ page_size w
      → (j : ℕ) → j < slot_count w → vacant x.table j ≡ false
      → page (page_size w) j (lay w.buffer (x.slot * page_size w) ys) ≡ page (page_size w) j (lay v.buffer (x.slot * page_size w) ys)
  unfolding slot_bytes
  seat_pages x t ys e j h k =
      pages_same (page_size w) (slot_count w) ys e x.slot t.slot w.buffer v.buffer r.lengths.buffer_long l.lengths.buffer_long j
      (λ n. l.buffer j h (sym (vacant_other t.placed j n) ∙ k))

  miss_lent : (p : ℕ) (x : Seat) → p < w.state.end → Takes w.state.end p x → Lent (miss_world w p x) (miss_world (with_slices w v) p x)
  unfolding miss_world
  miss_lent p x h t =
      lent_slots l (length_lay v.buffer (x.slot * page_size w) (base_bytes (with_slices w v) p))
      (subst (λ (ys : List ℕ). (j : ℕ) → j < slot_count w → vacant x.table j ≡ false → page (page_size w) j (lay w.buffer (x.slot * page_size w) (base_bytes w p)) ≡ page (page_size w) j (lay v.buffer (x.slot * page_size w) ys))
      (same_base w v r l p (in_file w r p h)) (seat_pages x t (base_bytes w p) (base_size p h)))

  miss_slot : (p : ℕ) (x : Seat) → p < w.state.end → Takes w.state.end p x
      → slot_bytes (miss_world w p x) x.slot ≡ slot_bytes (miss_world (with_slices w v) p x) x.slot
  unfolding miss_world slot_bytes
  miss_slot p x h t =
      page_same (page_size w) (slot_count w) (base_bytes w p) (base_size p h) x.slot t.slot w.buffer v.buffer r.lengths.buffer_long l.lengths.buffer_long
      ∙ ap (λ (ys : List ℕ). page (page_size w) x.slot (lay v.buffer (x.slot * page_size w) ys)) (same_base w v r l p (in_file w r p h))

-- a slot that is written in both
written_lent : (u z : World) → Lent u z → (i offset : ℕ) (bs : List ℕ) → offset + length bs ≤ page_size u → slot_bytes u i ≡ slot_bytes (with_slices u z) i
    → Lent (written u i offset bs) (written (with_slices u z) i offset bs)
unfolding written slot_bytes vacant page_at marked
written_lent u z l i offset bs h e =
    lent_slots l (length_lay z.buffer (i * page_size u + offset) bs)
    (λ j k o. span_same (page_size u) i offset j bs u.buffer z.buffer h (go j k o (ℕ_discrete j i)))
  where
    go : (j : ℕ) → j < slot_count u → vacant u.state.slots j ≡ false → Dec (j ≡ i) → page (page_size u) j u.buffer ≡ page (page_size u) j z.buffer
    go j k o (yes q) = subst (λ (a : ℕ). page (page_size u) a u.buffer ≡ page (page_size u) a z.buffer) (sym q) e
    go j k o (no q) = l.buffer j k o

module _ (w v : World) (r : Ruled w) (l : Lent w v) where
  abbrev twin : World
  twin = with_slices w v

  -- the tests of a span, and a choice by the page's kind
  agree_span : (p offset n : ℕ) → Agree (span_tests w p offset n) (span_tests twin p offset n)
  unfolding span_tests
  agree_span p offset n =
      next refl
      (λ a. next (ap (λ (k : ℕ). ltb k 2) (same_kind w v r l p (in_file w r p (ltb-true p w.state.end a))))
      (λ b. next refl (λ c. last)))

  both_span : (p offset n : ℕ) (bs : List ℕ) (x y x₀ y₀ : Reply)
      → (p < w.state.end → offset + n ≤ page_size w → Both x y)
      → (p < w.state.end → offset + n ≤ page_size w → Both x₀ y₀)
      → Both (tested (standing w ++ span_tests w p offset n) (refuse w bs) (if_then (metadata w p) x x₀))
      (tested (standing twin ++ span_tests twin p offset n) (refuse twin bs) (if_then (metadata twin p) y y₀))
  both_span p offset n bs x y x₀ y₀ f g =
      both_tested w v r l bs (if_then (metadata w p) x x₀) (if_then (metadata twin p) y y₀) (span_tests w p offset n) (span_tests twin p offset n) (agree_span p offset n)
      (λ h. let a = span_facts w p offset n h in
      both_if (metadata w p) (metadata twin p) x y x₀ y₀ (ap (λ (k : ℕ). eqb k 0) (same_kind w v r l p (in_file w r p a.low))) (f a.low a.inside) (g a.low a.inside))

  -- a page that is found in both alike
  both_found : (f : World → Found → Reply) (p : ℕ)
      → ((o : Option ℕ) → slot_for w p ≡ o → (d : Option Seat) → seat_for w p ≡ d → Both (f w (found_in o d)) (f twin (found_in o d)))
      → Both (f w (found w p)) (f twin (found twin p))
  unfolding found
  both_found f p h =
      subst (λ (d : Found). Both (f w (found w p)) (f twin d)) (same_found w v r l p)
      (h (slot_for w p) refl (seat_for w p) refl)

  -- a span of the base
  base_spans : (p offset n : ℕ) → p < w.state.end → offset + n ≤ page_size w → span_in (page_size w) w.base p offset n ≡ span_in (page_size w) v.base p offset n
  unfolding base_length
  base_spans p offset n h k =
      front_part (base_length w.state.settings) w.base v.base l.base (p * page_size w + offset) n
      (omega (arith, row_in (page_size w) p w.state.settings.capacity (in_file w r p h)))

  -- read
  read_at : (p offset n : ℕ) → p < w.state.end → offset + n ≤ page_size w
      → (o : Option ℕ) → slot_for w p ≡ o → (d : Option Seat) → seat_for w p ≡ d
      → Both (read_found w p offset n (found_in o d)) (read_found twin p offset n (found_in o d))
  unfolding read_found found_in hit_world miss_world meta_bypass slot_bytes
  read_at p offset n h k (some i) e d f = both_accepted refl (span_read (page_size w) i offset n w.buffer v.buffer k (same_slot w v r l p i h e)) (hit_lent w v r l p)
  read_at p offset n h k none e (some x) f =
      let t = seat_of w v r l p x h e f in
      both_accepted refl (span_read (page_size w) x.slot offset n (miss_world w p x).buffer (miss_world twin p x).buffer k (miss_slot w v r l p x h t)) (miss_lent w v r l p x h t)
  read_at p offset n h k none e none f = both_accepted refl (base_spans p offset n h k) (lent_slots l refl l.buffer)

  read_raw : (p offset n : ℕ) → p < w.state.end → offset + n ≤ page_size w → Both (raw_read w p offset n) (raw_read twin p offset n)
  unfolding raw_bypass slot_bytes
  read_raw p offset n h k = both_accepted refl (base_spans p offset n h k) (lent_slots l refl l.buffer)

  pub both_read : (p offset : ℕ) (into : List ℕ) → Both (read_reply p offset into w) (read_reply p offset into twin)
  unfolding read_reply
  both_read p offset into =
      let n = length into in
      both_span p offset n into (read_found w p offset n (found w p)) (read_found twin p offset n (found twin p)) (raw_read w p offset n) (raw_read twin p offset n)
      (λ h k. both_found (λ u d. read_found u p offset n d) p (read_at p offset n h k))
      (read_raw p offset n)

  -- write
  write_at : (p offset : ℕ) (bs : List ℕ) → p < w.state.end → offset + length bs ≤ page_size w
      → (o : Option ℕ) → slot_for w p ≡ o → (d : Option Seat) → seat_for w p ≡ d
      → Both (write_found w p offset bs (found_in o d)) (write_found twin p offset bs (found_in o d))
  unfolding write_found found_in hit_world miss_world written slot_bytes
  write_at p offset bs h k (some i) e d f =
      both_accepted refl refl (written_lent (hit_world w p) (hit_world twin p) (hit_lent w v r l p) i offset bs k (same_slot w v r l p i h e))
  write_at p offset bs h k none e (some x) f =
      let t = seat_of w v r l p x h e f in
      both_accepted refl refl (written_lent (miss_world w p x) (miss_world twin p x) (miss_lent w v r l p x h t) x.slot offset bs k (miss_slot w v r l p x h t))
  write_at p offset bs h k none e none f = both_refused w v r l bs Refusals.no_slot

  -- bytes laid over both bases
  base_laid : (a : ℕ) (bs : List ℕ) → Front (base_length w.state.settings) (lay w.base a bs) (lay v.base a bs)
  base_laid a bs = front_lay (base_length w.state.settings) w.base v.base l.base a bs

  write_raw : (p offset : ℕ) (bs : List ℕ) → Both (raw_write w p offset bs) (raw_write twin p offset bs)
  unfolding raw_bypass slot_bytes
  write_raw p offset bs =
      let a = p * page_size w + offset in
      both_accepted refl refl (lent_next l refl l.buffer (length_lay v.base a bs) (base_laid a bs) refl l.kinds)

  pub both_write : (p offset : ℕ) (bs : List ℕ) → Both (write_reply p offset bs w) (write_reply p offset bs twin)
  unfolding write_reply
  both_write p offset bs =
      both_span p offset (length bs) bs (write_found w p offset bs (found w p)) (write_found twin p offset bs (found twin p)) (raw_write w p offset bs) (raw_write twin p offset bs)
      (λ h k. both_found (λ u d. write_found u p offset bs d) p (write_at p offset bs h k))
      (λ h k. write_raw p offset bs)

  -- grow: a kind stored in both tables
  kinds_set : (kind : ℕ) → Front w.state.settings.capacity (set w.kinds w.state.end kind) (set v.kinds w.state.end kind)
  kinds_set kind = front_set w.state.settings.capacity w.kinds v.kinds l.kinds w.state.end kind

  grow_at : (d : Option Seat) → seat_for w w.state.end ≡ d → Both (grow_seated w d) (grow_seated twin d)
  unfolding grow_seated grown vacant page_at marked
  grow_at none e = both_refused w v r l [] Refusals.no_slot
  grow_at (some x) e =
      both_accepted refl refl
      (lent_next l (length_lay v.buffer (x.slot * page_size w) (zero_page w)) (seat_pages w v r l x (seat_new w v r l x e) (zero_page w) (length-replicate (page_size w) 0))
      refl l.base (length-set v.kinds w.state.end 0) (kinds_set 0))

  grow_raw : Both (raw_grow w) (raw_grow twin)
  unfolding grown slot_bytes
  grow_raw =
      let a = w.state.end * page_size w in
      both_accepted refl refl
      (lent_next l refl l.buffer (length_lay v.base a (zero_page w)) (base_laid a (zero_page w)) (length-set v.kinds w.state.end 1) (kinds_set 1))

  pub both_grow : (kind : ℕ) → Both (grow_reply kind w) (grow_reply kind twin)
  unfolding grow_reply grow_tests
  both_grow kind =
      both_tested w v r l [] (if_then (eqb kind 0) (grow_seated w (seat w)) (raw_grow w)) (if_then (eqb kind 0) (grow_seated twin (seat twin)) (raw_grow twin))
      (grow_tests w kind) (grow_tests twin kind) (agree_same (grow_tests w kind))
      (λ h. both_if (eqb kind 0) (eqb kind 0) (grow_seated w (seat w)) (grow_seated twin (seat twin)) (raw_grow w) (raw_grow twin) refl
      (subst (λ (d : Option Seat). Both (grow_seated w (seat w)) (grow_seated twin d)) same (grow_at (seat w) refl)) grow_raw)
    where
      seat : World → Option Seat
      seat u = seat_for u u.state.end

      same : seat_for w w.state.end ≡ seated (slot_count w) (unclean twin) w.state.end w.state.slots
      same = ap (λ (mask : ℕ → Bool). seated (slot_count w) mask w.state.end w.state.slots) (same_unclean w v r l)
