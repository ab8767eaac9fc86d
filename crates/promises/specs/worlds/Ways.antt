-- The ways that a read, a write or a grow can go: refused, by a number above 0, with the world as it was; or accepted, in one
-- of a few cases, each with what is known in it. The one place that looks at the tests of these calls: everything said of
-- their replies goes by these cases. No world is left out, forged ones included. Assumes nothing.
use Rattle.std.specs.Prelude.{ℕ, ◌*◌, ◌<◌, ◌≤◌, ◌≡◌, refl, List, [], ◌++◌, Bool, true, false, eqb, ltb, length}
use Rattle.std.proofs.Math.Option.{Option, some, none}
use Rattle.std.proofs.Common.{arith, eqb-true, ltb-true}
use Rattle.std.proofs.lemmas.Bool.{eqb-false}
use Rattle.lists.specs.Bools.{if_then}
use Rattle.lists.specs.Scans.{all_of}
use Rattle.octets.specs.Part.{lay}
use Rattle.units.specs.Refusals as Refusals
use Rattle.units.specs.Tests.{Test, passes, tested, numbered}
use Rattle.units.specs.laws.Tests.{passes_both, tested_by}
use Rattle.slots.specs.Table.{Seat}
use Rattle.recorder.specs.laws.Asked.{Span, numbered_span, span_facts, numbered_grow, grow_facts}
use Rattle.recorder.specs.World.{World, Reply, refuse, accept, page_size, kind_of, metadata, slot_for, set_base}
use Rattle.recorder.specs.Rules.{standing}
use Rattle.recorder.specs.Calls.{span_tests, Found, nowhere, found_in, found, hit_world, miss_world, meta_bypass, raw_bypass, span_in, laid_in, read_found, read_reply, written, write_found, write_reply, grow_tests, grown, zero_page, grow_seated, grow_reply, seat_for}

-- a call whose tests have numbers above 0: refused by such a number, or all of them pass
module _ (P : Reply → Type 0) (refused : ℕ → Reply) (r : Reply) where
  tries : (ts : List Test) → all_of numbered ts ≡ true → ((n : ℕ) → 1 ≤ n → P (refused n)) → (passes ts ≡ true → P r) → P (tested ts refused r)
  tries ts a f g = tested_by refused r P (ltb 0) ts a high g
    where
      high : (n : ℕ) → ltb 0 n ≡ true → P (refused n)
      high n h = f n (omega (arith, ltb-true 0 n h))

-- a read
pub data Reads (w : World) (p offset : ℕ) (into : List ℕ) : Reply → Type 0 where
  refused : (n : ℕ) → 1 ≤ n → Reads w p offset into (refuse w into n)
  hit : Span w p offset (length into) → kind_of w p ≡ 0 → (i : ℕ) → slot_for w p ≡ some i
      → Reads w p offset into (accept (hit_world w p) (span_in (page_size w) w.buffer i offset (length into)))
  miss : Span w p offset (length into) → kind_of w p ≡ 0 → slot_for w p ≡ none → (seat : Seat) → seat_for w p ≡ some seat
      → Reads w p offset into (accept (miss_world w p seat) (span_in (page_size w) (miss_world w p seat).buffer seat.slot offset (length into)))
  bypass : Span w p offset (length into) → kind_of w p ≡ 0 → slot_for w p ≡ none
      → Reads w p offset into (accept (meta_bypass w) (span_in (page_size w) w.base p offset (length into)))
  raw : Span w p offset (length into) → kind_of w p ≡ 1
      → Reads w p offset into (accept (raw_bypass w) (span_in (page_size w) w.base p offset (length into)))

-- a write
pub data Writes (w : World) (p offset : ℕ) (bs : List ℕ) : Reply → Type 0 where
  refused : (n : ℕ) → 1 ≤ n → Writes w p offset bs (refuse w bs n)
  hit : Span w p offset (length bs) → kind_of w p ≡ 0 → (i : ℕ) → slot_for w p ≡ some i
      → Writes w p offset bs (accept (written (hit_world w p) i offset bs) bs)
  miss : Span w p offset (length bs) → kind_of w p ≡ 0 → slot_for w p ≡ none → (seat : Seat) → seat_for w p ≡ some seat
      → Writes w p offset bs (accept (written (miss_world w p seat) seat.slot offset bs) bs)
  raw : Span w p offset (length bs) → kind_of w p ≡ 1
      → Writes w p offset bs (accept (set_base (laid_in (page_size w) w.base p offset bs) (raw_bypass w)) bs)

-- a grow
pub data Grows (w : World) (kind : ℕ) : Reply → Type 0 where
  refused : (n : ℕ) → 1 ≤ n → Grows w kind (refuse w [] n)
  seat : w.state.end < w.state.settings.capacity → kind ≡ 0 → (x : Seat) → seat_for w w.state.end ≡ some x → Grows w kind (grow_seated w (some x))
  raw : w.state.end < w.state.settings.capacity → kind ≡ 1
      → Grows w kind (accept (set_base (lay w.base (w.state.end * page_size w) (zero_page w)) (grown w 1)) [])

-- each call goes one of these ways
module _ (w : World) (p offset : ℕ) where
  -- read and write: f is what they do with a metadata page, by where it is found, and r what they do with a raw one
  accesses : (bs : List ℕ) (f : Found → Reply) (r : Reply) (P : Reply → Type 0)
      → ((n : ℕ) → 1 ≤ n → P (refuse w bs n))
      → (Span w p offset (length bs) → kind_of w p ≡ 0 → (i : ℕ) → slot_for w p ≡ some i → P (f (Found.hit i)))
      → (Span w p offset (length bs) → kind_of w p ≡ 0 → slot_for w p ≡ none → (x : Seat) → seat_for w p ≡ some x → P (f (Found.miss x)))
      → (Span w p offset (length bs) → kind_of w p ≡ 0 → slot_for w p ≡ none → P (f nowhere))
      → (Span w p offset (length bs) → kind_of w p ≡ 1 → P r)
      → P (tested (standing w ++ span_tests w p offset (length bs)) (refuse w bs) (if_then (metadata w p) (f (found w p)) r))
  unfolding found found_in
  accesses bs f r P on_refused on_hit on_miss on_none on_raw =
      tries P (refuse w bs) (if_then (metadata w p) (f (found w p)) r) (standing w ++ span_tests w p offset (length bs)) (numbered_span w p offset (length bs)) on_refused
      (λ h. go (span_facts w p offset (length bs) (passes_both (standing w) (span_tests w p offset (length bs)) h).1) (metadata w p) refl)
    where
      at : Span w p offset (length bs) → kind_of w p ≡ 0 → (a : Option ℕ) → slot_for w p ≡ a → (b : Option Seat) → seat_for w p ≡ b → P (f (found_in a b))
      at s k (some i) e b z = on_hit s k i e
      at s k none e (some x) z = on_miss s k e x z
      at s k none e none z = on_none s k e

      go : Span w p offset (length bs) → (b : Bool) → metadata w p ≡ b → P (if_then b (f (found w p)) r)
      go s true k = at s (eqb-true (kind_of w p) 0 k) (slot_for w p) refl (seat_for w p) refl
      go s false k = on_raw s (omega (arith, s.two, eqb-false (kind_of w p) 0 k))

  pub read_way : (into : List ℕ) → Reads w p offset into (read_reply p offset into w)
  unfolding read_reply read_found
  read_way into =
      accesses into (read_found w p offset (length into)) (accept (raw_bypass w) (span_in (page_size w) w.base p offset (length into)))
      (Reads w p offset into) refused hit miss bypass raw

  pub write_way : (bs : List ℕ) → Writes w p offset bs (write_reply p offset bs w)
  unfolding write_reply write_found
  write_way bs =
      accesses bs (write_found w p offset bs) (accept (set_base (laid_in (page_size w) w.base p offset bs) (raw_bypass w)) bs)
      (Writes w p offset bs) refused hit miss (λ s k e. refused Refusals.no_slot (omega arith)) raw

module _ (w : World) (kind : ℕ) where
  pub grow_way : Grows w kind (grow_reply kind w)
  unfolding grow_reply grow_seated
  grow_way =
      tries (Grows w kind) (refuse w [])
      (if_then (eqb kind 0) (grow_seated w (seat_for w w.state.end)) (accept (set_base (lay w.base (w.state.end * page_size w) (zero_page w)) (grown w 1)) []))
      (standing w ++ grow_tests w kind) (numbered_grow w kind) refused
      (λ h. go (grow_facts w kind (passes_both (standing w) (grow_tests w kind) h).1) (eqb kind 0) refl)
    where
      at : w.state.end < w.state.settings.capacity → kind ≡ 0 → (o : Option Seat) → seat_for w w.state.end ≡ o → Grows w kind (grow_seated w o)
      at h k (some x) e = seat h k x e
      at h k none e = refused Refusals.no_slot (omega arith)

      go : (kind < 2) × (w.state.end < w.state.settings.capacity) → (b : Bool) → eqb kind 0 ≡ b
          → Grows w kind (if_then b (grow_seated w (seat_for w w.state.end)) (accept (set_base (lay w.base (w.state.end * page_size w) (zero_page w)) (grown w 1)) []))
      go h true k = at h.1 (eqb-true kind 0 k) (seat_for w w.state.end) refl
      go h false k = raw h.1 (omega (arith, h.0, eqb-false kind 0 k))
