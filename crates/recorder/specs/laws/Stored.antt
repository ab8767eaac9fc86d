-- What the stores of a close make of the two files, whatever world it is: each length stays; the base has the pages of the due
-- entries laid over; the side file has the images of the new entries laid over, then header and index at its front. Assumes
-- nothing.
use Prim.Native.Nat.{ℕ, ◌*◌}
use Rattle.std.specs.Prelude.{◌≡◌}
use Rattle.std.proofs.Math.Path.{refl, sym, ap}
use Rattle.std.proofs.Common.{◌∙◌, arith}
use mathlib.Core.List.{List, [], ◌∷◌, ◌++◌, map}
use Rattle.std.proofs.Math.ListN.{length}
use Rattle.octets.specs.Part.{lay}
use Rattle.octets.specs.laws.Part.{length_lay, lay_next, lay_comm}
use Rattle.units.specs.Sizes.{header_length, image_at}
use Rattle.sidefile.specs.Encode.{header_for, index_bytes}
use Rattle.sidefile.specs.laws.Lengths.{length_header_for}
use Rattle.ledger.specs.Entries.{page_of}
use Rattle.ledger.specs.laws.Laid.{lay_each}
use Rattle.ledger.specs.View.{indexed}
use Rattle.ledger.specs.declared.Entry.{Entry}
use Rattle.recorder.specs.Close.{Store, Store.in_side, Store.in_base, to_side, to_base, image_stores, base_stores, front_stores, stores, closed, fresh_entries, due_entries, after, open_tick}
use Rattle.recorder.specs.World.{World, page_size, bytes_in}

-- Stores, one after the other.

pub length_to_side : (ss : List Store) (xs : List ℕ) → length (to_side ss xs) ≡ length xs
unfolding to_side
length_to_side [] xs = refl
length_to_side (in_side at bs ∷ ss) xs = length_to_side ss (lay xs at bs) ∙ length_lay xs at bs
length_to_side (in_base at bs ∷ ss) xs = length_to_side ss xs

pub length_to_base : (ss : List Store) (xs : List ℕ) → length (to_base ss xs) ≡ length xs
unfolding to_base
length_to_base [] xs = refl
length_to_base (in_side at bs ∷ ss) xs = length_to_base ss xs
length_to_base (in_base at bs ∷ ss) xs = length_to_base ss (lay xs at bs) ∙ length_lay xs at bs

to_side_append : (ss ts : List Store) (xs : List ℕ) → to_side (ss ++ ts) xs ≡ to_side ts (to_side ss xs)
unfolding to_side
to_side_append [] ts xs = refl
to_side_append (in_side at bs ∷ ss) ts xs = to_side_append ss ts (lay xs at bs)
to_side_append (in_base at bs ∷ ss) ts xs = to_side_append ss ts xs

to_base_append : (ss ts : List Store) (xs : List ℕ) → to_base (ss ++ ts) xs ≡ to_base ts (to_base ss xs)
unfolding to_base
to_base_append [] ts xs = refl
to_base_append (in_side at bs ∷ ss) ts xs = to_base_append ss ts xs
to_base_append (in_base at bs ∷ ss) ts xs = to_base_append ss ts (lay xs at bs)

module _ (place : Entry → ℕ) (b : Entry → List ℕ) where
  side_untouched : (es : List Entry) (xs : List ℕ) → to_side (map (λ e. in_base (place e) (b e)) es) xs ≡ xs
  unfolding to_side
  side_untouched [] xs = refl
  side_untouched (e ∷ es) xs = side_untouched es xs

  base_untouched : (es : List Entry) (xs : List ℕ) → to_base (map (λ e. in_side (place e) (b e)) es) xs ≡ xs
  unfolding to_base
  base_untouched [] xs = refl
  base_untouched (e ∷ es) xs = base_untouched es xs

  side_each : (es : List Entry) (xs : List ℕ) → to_side (map (λ e. in_side (place e) (b e)) es) xs ≡ lay_each place b es xs
  unfolding to_side lay_each
  side_each [] xs = refl
  side_each (e ∷ es) xs = side_each es (lay xs (place e) (b e))

  base_each : (es : List Entry) (xs : List ℕ) → to_base (map (λ e. in_base (place e) (b e)) es) xs ≡ lay_each place b es xs
  unfolding to_base lay_each
  base_each [] xs = refl
  base_each (e ∷ es) xs = base_each es (lay xs (place e) (b e))

-- The two files after a close.

module _ (w : World) where
  -- where an entry's image and its page begin, and what is laid there
  abbrev pub image_start : Entry → ℕ
  image_start e = image_at w.state.settings e.place

  abbrev pub page_start : Entry → ℕ
  page_start e = page_of e * page_size w

  abbrev pub held_bytes : Entry → List ℕ
  held_bytes e = bytes_in w (page_of e)

  -- the images of the new entries, over the side file; the pages of the due ones, over the base
  abbrev pub imaged : List ℕ
  imaged = lay_each image_start held_bytes (fresh_entries w) w.side

  abbrev pub paged : List ℕ
  paged = lay_each page_start held_bytes (due_entries w) w.base

  -- header and index of the tick that is closed
  abbrev pub front_after : List ℕ
  front_after =
      header_for w.state.settings (open_tick w) w.state.end (map indexed (after w)) ++ index_bytes w.state.settings (map indexed (after w))

  pub front_laid : (xs : List ℕ) → to_side (front_stores w) xs ≡ lay xs 0 front_after
  unfolding front_stores to_side
  front_laid xs =
      let header : List ℕ = header_for w.state.settings (open_tick w) w.state.end (map indexed (after w)) in
      let index : List ℕ = index_bytes w.state.settings (map indexed (after w)) in
      let l : length header ≡ header_length = length_header_for w.state.settings (open_tick w) w.state.end (map indexed (after w)) in
      sym (lay_comm xs 0 header header_length index (omega arith)) ∙ lay_next xs 0 header index header_length (omega arith)

  pub side_stored : (closed w).side ≡ lay imaged 0 front_after
  unfolding closed stores image_stores base_stores
  side_stored =
      to_side_append (image_stores w) (base_stores w ++ front_stores w) w.side
      ∙ to_side_append (base_stores w) (front_stores w) (to_side (image_stores w) w.side)
      ∙ rw (side_untouched page_start held_bytes (due_entries w) (to_side (image_stores w) w.side)) (front_laid (to_side (image_stores w) w.side))
      ∙ ap (λ (xs : List ℕ). lay xs 0 front_after) (side_each image_start held_bytes (fresh_entries w) w.side)

  pub base_stored : (closed w).base ≡ paged
  unfolding closed stores image_stores base_stores front_stores to_base
  base_stored =
      to_base_append (image_stores w) (base_stores w ++ front_stores w) w.base
      ∙ rw (base_untouched image_start held_bytes (fresh_entries w) w.base)
      (to_base_append (base_stores w) (front_stores w) w.base ∙ base_each page_start held_bytes (due_entries w) w.base)
