-- What keeps two worlds alike: the same bytes laid over the slices of both, at the same place. Assumes nothing.
use Rattle.std.specs.Prelude.{ℕ, ◌+◌, ◌*◌, ◌<◌, ◌≤◌, ◌≡◌, refl, List, false, length}
use Rattle.std.proofs.Common.{◌∙◌, sym, ap, subst, zero-add, arith}
use Rattle.std.proofs.Math.Decide.{ℕ_discrete}
use Rattle.octets.specs.Part.{part, lay}
use Rattle.octets.specs.laws.Part.{part_part}
use Rattle.octets.specs.Rows.{row, page}
use Rattle.units.specs.Sizes.{base_length}
use Rattle.slots.specs.Table.{vacant}
use Rattle.slots.specs.declared.Slots.{Slots}
use Rattle.recorder.specs.Calls.{span_in, laid_in}
use Rattle.recorder.specs.World.{World, set_base, set_buffer, set_kinds, set_state, page_size, slot_count, slot_bytes}
use Rattle.recorder.specs.declared.Counts.{Counts}
use Rattle.recorder.specs.declared.State.{State}
use Rattle.promises.specs.alike.Alike.{Lent}
use Rattle.promises.specs.worlds.Frames.{next, span_here, span_other, page_here, page_other}
use Rattle.promises.specs.worlds.Fronts.{Front}

-- A read, a write or a grow leaves ledger and side file alone. The slices stay so if base and kinds begin alike after it, and
-- every slot that is occupied then has the same bytes.

module _ {w v : World} (l : Lent w v) {end : ℕ} {t : Slots} {meta raw : Counts} {y : State} {buffer buffer₁ : List ℕ} (long : length buffer₁ ≡ length v.buffer)
    (slots : (i : ℕ) → i < slot_count w → vacant t i ≡ false → page (page_size w) i buffer ≡ page (page_size w) i buffer₁) where
  pub lent_next : {base base₁ kinds kinds₁ : List ℕ} → length base₁ ≡ length v.base → Front (base_length w.state.settings) base base₁
      → length kinds₁ ≡ length v.kinds → Front w.state.settings.capacity kinds kinds₁
      → Lent (next w end t meta raw base buffer kinds) (set_state y (set_base base₁ (set_buffer buffer₁ (set_kinds kinds₁ v))))
  unfolding slot_bytes
  lent_next b base k kinds =
      let n = l.lengths in
      record {
        ledger_long = l.ledger_long;
        lengths = record {
          base_long = omega (arith, n.base_long);
          side_long = n.side_long;
          buffer_long = omega (arith, n.buffer_long);
          kinds_long = omega (arith, n.kinds_long);
        };
        ledger = l.ledger;
        base = base;
        side = l.side;
        kinds = kinds;
        buffer = slots;
      }

  -- nothing but state and buffer
  pub lent_slots : Lent (next w end t meta raw w.base buffer w.kinds) (set_state y (set_buffer buffer₁ v))
  lent_slots = lent_next refl l.base refl l.kinds

-- A span laid into both at the same place, and a page.

pub span_same : (P i offset j : ℕ) (bs xs ys : List ℕ) → offset + length bs ≤ P → page P j xs ≡ page P j ys
    → page P j (laid_in P xs i offset bs) ≡ page P j (laid_in P ys i offset bs)
span_same P i offset j bs xs ys h e = go (ℕ_discrete j i)
  where
    go : Dec (j ≡ i) → page P j (laid_in P xs i offset bs) ≡ page P j (laid_in P ys i offset bs)
    go (yes z) =
        subst (λ (k : ℕ). page P k (laid_in P xs i offset bs) ≡ page P k (laid_in P ys i offset bs)) (sym z)
        (span_here P i offset xs bs
        ∙ ap (λ (us : List ℕ). lay us offset bs) (subst (λ (k : ℕ). page P k xs ≡ page P k ys) z e)
        ∙ sym (span_here P i offset ys bs))
    go (no n) = span_other P i offset xs bs h j n ∙ e ∙ sym (span_other P i offset ys bs h j n)

module _ (P m : ℕ) (bs : List ℕ) (size : length bs ≡ P) (i : ℕ) (below : i < m) (xs ys : List ℕ) (h : 0 + m * P ≤ length xs) (k : 0 + m * P ≤ length ys) where
  pub page_same : page P i (lay xs (i * P) bs) ≡ page P i (lay ys (i * P) bs)
  page_same = page_here P xs m h i bs size below ∙ sym (page_here P ys m k i bs size below)

  pub pages_same : (j : ℕ) → ((j ≡ i → ⊥) → page P j xs ≡ page P j ys) → page P j (lay xs (i * P) bs) ≡ page P j (lay ys (i * P) bs)
  pages_same j e = go (ℕ_discrete j i)
    where
      go : Dec (j ≡ i) → page P j (lay xs (i * P) bs) ≡ page P j (lay ys (i * P) bs)
      go (yes z) = subst (λ (a : ℕ). page P a (lay xs (i * P) bs) ≡ page P a (lay ys (i * P) bs)) (sym z) page_same
      go (no n) = page_other P xs m h i bs size j n ∙ e n ∙ sym (page_other P ys m k i bs size j n)

-- a span of a page
span_of : (P i offset n : ℕ) (xs : List ℕ) → offset + n ≤ P → span_in P xs i offset n ≡ part (page P i xs) offset n
unfolding row
span_of P i offset n xs h = ap (λ (a : ℕ). part xs (a + offset) n) (sym (zero-add (i * P))) ∙ sym (part_part xs (0 + i * P) P offset n h)

pub span_read : (P i offset n : ℕ) (xs ys : List ℕ) → offset + n ≤ P → page P i xs ≡ page P i ys → span_in P xs i offset n ≡ span_in P ys i offset n
span_read P i offset n xs ys h e = span_of P i offset n xs h ∙ ap (λ (us : List ℕ). part us offset n) e ∙ sym (span_of P i offset n ys h)
