-- What a read, a write or a grow leaves alone, as a record of the end, base and kinds after it (Framed), and each call's: a
-- raw write lays bytes inside one raw page, a grow adds page e. The world after any such call is `next`. Assumes nothing.
use Rattle.std.specs.Prelude.{ℕ, ◌+◌, ◌*◌, ◌<◌, ◌≤◌, ◌≡◌, List, length, get_or, set}
use Rattle.std.proofs.Math.Path.{refl, ap}
use Rattle.std.proofs.Common.{◌∙◌, sym, arith, length-set, get_or-set_same, get_or-set_other}
use Rattle.std.proofs.Math.Decide.{ℕ_discrete, dec_lt}
use Rattle.std.proofs.lemmas.List.{length-replicate}
use Rattle.octets.specs.Part.{part, lay}
use Rattle.octets.specs.laws.Part.{length_lay, part_part, part_lay_in, part_lay_before, part_lay_after}
use Rattle.octets.specs.Rows.{row, page}
use Rattle.octets.specs.laws.Rows.{row_in, row_laid, row_other}
use Rattle.slots.specs.declared.Slots.{Slots}
use Rattle.recorder.specs.laws.Asked.{Span}
use Rattle.recorder.specs.World.{World, set_end, set_slots, set_meta, set_raw, set_state, set_base, set_buffer, set_kinds, page_size, kind_of, base_bytes}
use Rattle.recorder.specs.Calls.{span_in, laid_in, zero_page}
use Rattle.recorder.specs.declared.Counts.{Counts}
use Rattle.recorder.specs.laws.Facts.{Ruled}
use Rattle.promises.specs.worlds.Good.{Quiet}

-- a span read inside page k of a file
pub span_read : (P k offset : ℕ) (xs : List ℕ) (n : ℕ) → offset + n ≤ P → part (page P k xs) offset n ≡ span_in P xs k offset n
unfolding row
span_read P k offset xs n h =
    part_part xs (0 + k * P) P offset n h ∙ ap (λ (a : ℕ). part xs a n) {x = 0 + k * P + offset} {y = k * P + offset} (omega arith)

-- a span laid inside page k of a file: that page has it laid over, every other one is as it was
module _ (P k offset : ℕ) (xs ys : List ℕ) where
  pub span_here : page P k (laid_in P xs k offset ys) ≡ lay (page P k xs) offset ys
  unfolding row
  span_here = part_lay_in xs (0 + k * P) P offset (k * P + offset) ys (omega arith)

  pub span_other : offset + length ys ≤ P → (j : ℕ) → (j ≡ k → ⊥) → page P j (laid_in P xs k offset ys) ≡ page P j xs
  unfolding row
  span_other h j ne = go (dec_lt j k)
    where
      go : Dec (j < k) → part (lay xs (k * P + offset) ys) (0 + j * P) P ≡ part xs (0 + j * P) P
      go (yes b) = part_lay_before xs (k * P + offset) ys (0 + j * P) P (omega (arith, row_in P j k b))
      go (no b) = part_lay_after xs (k * P + offset) ys (0 + j * P) P (omega (arith, row_in P k j (omega (arith, b, ne))))

-- a whole page laid over page k
module _ (P : ℕ) (xs : List ℕ) (m : ℕ) (fits : 0 + m * P ≤ length xs) (k : ℕ) (ys : List ℕ) (l : length ys ≡ P) where
  from_zero : lay xs (0 + k * P) ys ≡ lay xs (k * P) ys
  from_zero = ap (λ (a : ℕ). lay xs a ys) {x = 0 + k * P} {y = k * P} (omega arith)

  pub page_here : k < m → page P k (lay xs (k * P) ys) ≡ ys
  page_here h = ap (page P k) (sym from_zero) ∙ row_laid 0 P xs m fits k ys l h

  pub page_other : (j : ℕ) → (j ≡ k → ⊥) → page P j (lay xs (k * P) ys) ≡ page P j xs
  page_other j ne = ap (page P j) (sym from_zero) ∙ row_other 0 P xs m fits j k ys l ne

-- the world after such a call
abbrev pub next : World → ℕ → Slots → Counts → Counts → List ℕ → List ℕ → List ℕ → World
next w end t meta raw base buffer kinds =
    set_state (set_end end (set_slots t (set_meta meta (set_raw raw w.state)))) (set_base base (set_buffer buffer (set_kinds kinds w)))

pub record Framed (w : World) (end : ℕ) (base kinds : List ℕ) : Type 0 where
  pub grows : w.state.end ≤ end
  pub fits : end ≤ w.state.settings.capacity
  pub kept : (p : ℕ) → p < w.state.end → get_or kinds p 0 ≡ kind_of w p
  pub kinds_length : length kinds ≡ length w.kinds
  pub two : ((p : ℕ) → p < w.state.end → kind_of w p < 2) → (p : ℕ) → p < end → get_or kinds p 0 < 2
  pub pages : (p : ℕ) → p < w.state.end → kind_of w p ≡ 0 → page (page_size w) p base ≡ base_bytes w p
  pub base_length_lem : length base ≡ length w.base

pub quiet_same : (w : World) → Quiet w w
quiet_same w =
    record { settings = refl; closed = refl; count = refl; ledger = refl; side = refl; end = omega arith; kinds = λ p b. refl; pages = λ p b m. refl; base_length_lem = refl }

pub quiet_framed : (w : World) (end : ℕ) (t : Slots) (meta raw : Counts) (base buffer kinds : List ℕ) → Framed w end base kinds
    → Quiet w (next w end t meta raw base buffer kinds)
unfolding base_bytes
quiet_framed w end t meta raw base buffer kinds f =
    record {
      settings = refl;
      closed = refl;
      count = refl;
      ledger = refl;
      side = refl;
      end = f.grows;
      kinds = f.kept;
      pages = f.pages;
      base_length_lem = f.base_length_lem;
    }

module _ (w : World) (r : Ruled w) where
  -- nothing but slots, counts and the buffer
  pub framed_same : Framed w w.state.end w.base w.kinds
  unfolding base_bytes
  framed_same =
      record {
        grows = omega arith;
        fits = r.facts.ended;
        kept = λ p h. refl;
        kinds_length = refl;
        two = λ f. f;
        pages = λ p h k. refl;
        base_length_lem = refl;
      }

  -- a span of a raw page
  pub framed_raw : (p offset : ℕ) (bs : List ℕ) → Span w p offset (length bs) → kind_of w p ≡ 1 → Framed w w.state.end (laid_in (page_size w) w.base p offset bs) w.kinds
  unfolding base_bytes
  framed_raw p offset bs s k =
      record {
        grows = omega arith;
        fits = r.facts.ended;
        kept = λ p h. refl;
        kinds_length = refl;
        two = λ f. f;
        pages = λ q h m. span_other (page_size w) p offset w.base bs s.inside q (λ e. omega (arith, ap (kind_of w) e));
        base_length_lem = length_lay w.base (p * page_size w + offset) bs;
      }

  -- a page more
  module _ (h : w.state.end < w.state.settings.capacity) (kind : ℕ) (k : kind < 2) where
    pub kind_new : get_or (set w.kinds w.state.end kind) w.state.end 0 ≡ kind
    kind_new = get_or-set_same w.kinds w.state.end kind 0 (omega (arith, r.lengths.kinds_long))

    kind_old : (p : ℕ) → (p ≡ w.state.end → ⊥) → get_or (set w.kinds w.state.end kind) p 0 ≡ kind_of w p
    kind_old p n = get_or-set_other w.kinds w.state.end p kind 0 n

    pub framed_grow : (base : List ℕ) → length base ≡ length w.base
        → ((p : ℕ) → p < w.state.end → page (page_size w) p base ≡ base_bytes w p)
        → Framed w (w.state.end + 1) base (set w.kinds w.state.end kind)
    framed_grow base l same =
        record {
          grows = omega arith;
          fits = omega arith;
          kept = λ p b. kind_old p (λ e. omega arith);
          kinds_length = length-set w.kinds w.state.end kind;
          two = λ f p b. go f p b (ℕ_discrete p w.state.end);
          pages = λ p b m. same p b;
          base_length_lem = l;
        }
      where
        go : ((p : ℕ) → p < w.state.end → kind_of w p < 2) → (p : ℕ) → p < w.state.end + 1 → Dec (p ≡ w.state.end) → get_or (set w.kinds w.state.end kind) p 0 < 2
        go f p b (yes e) = rw (e, kind_new) k
        go f p b (no e) = rw (kind_old p e) (f p (omega (arith, e)))

    -- a metadata page is not yet in the base, a raw one is zero there
    pub framed_grow_meta : Framed w (w.state.end + 1) w.base (set w.kinds w.state.end kind)
    unfolding base_bytes
    framed_grow_meta = framed_grow w.base refl (λ p b. refl)

    pub framed_grow_raw : Framed w (w.state.end + 1) (lay w.base (w.state.end * page_size w) (zero_page w)) (set w.kinds w.state.end kind)
    unfolding base_bytes
    framed_grow_raw =
        framed_grow (lay w.base (w.state.end * page_size w) (zero_page w)) (length_lay w.base (w.state.end * page_size w) (zero_page w))
        (λ p b. page_other (page_size w) w.base w.state.settings.capacity r.lengths.base_long w.state.end (zero_page w) (length-replicate (page_size w) 0) p (λ e. omega arith))
