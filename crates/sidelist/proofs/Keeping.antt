-- An input that is kept piece behind piece, and the listing of what is kept: that of the input. Assumes nothing.
use Rattle.std.specs.Prelude.{ℕ, ◌+◌, ◌≤◌, min, List, [], ◌++◌, ◌≡◌, refl, length, take, Option, None, Some, IfSome}
use Rattle.std.proofs.Common.{◌∙◌, sym, ap, arith, length-append}
use Rattle.std.specs.Io.KnownBytes.{Consumes}
use Rattle.std.proofs.KnownBytes.{Consumes-nil, Consumes-trans}
use Rattle.octets.specs.Part.{part, lay}
use Rattle.octets.specs.laws.Part.{length_lay, lay_nil, lay_next, part_lay_same}
use Rattle.sidefile.specs.inner.Passed.{most_front}
use Rattle.listing.specs.Text.{listing}
use Rattle.listing.specs.laws.Whole.{listing_read}
use Rattle.listing.specs.inner.Written.{Written}
use Rattle.sidelist.specs.Input.{Kept, Listed}

-- the bytes by which a reader came from one state to another, where it says which it has left, are those that are kept
pub record Taken (old new : Option (List ℕ)) (before after : List ℕ) (total : ℕ) : Type 0 where
  pub input : List ℕ
  pub consumed : Consumes old new input
  pub laid : after ≡ lay before 0 input
  pub counted : total ≡ length input

pub taken_none : (old : Option (List ℕ)) (xs : List ℕ) → Taken old old xs xs 0
taken_none old xs = record { input = []; consumed = Consumes-nil old; laid = sym (lay_nil xs 0); counted = refl }

-- ys came behind `total` bytes
pub taken_more : (old mid new : Option (List ℕ)) (xs zs after ys : List ℕ) (total next : ℕ) → Taken old mid xs zs total
    → Consumes mid new ys
    → after ≡ lay zs total ys
    → next ≡ total + length ys
    → Taken old new xs after next
taken_more old mid new xs zs after ys total next k c e f =
    record {
      input = k.input ++ ys;
      consumed = Consumes-trans old mid new k.input ys k.consumed c;
      laid = e ∙ ap (λ (l : List ℕ). lay l total ys) k.laid ∙ lay_next xs 0 k.input ys total (omega (arith, k.counted));
      counted = f ∙ rw (length-append k.input ys, ← k.counted);
    }

-- the text is written from the front on, of what was kept
text_is : (xs kept input : List ℕ) (total : ℕ) → length xs ≡ most_front → kept ≡ lay xs 0 input → total ≡ length input
    → (out after : List ℕ) (n : ℕ)
    → Written out 0 (listing total (take (min total most_front) kept)) after n
    → n ≤ length out
    → take n after ≡ listing (length input) input
unfolding part
text_is xs kept input total l laid counted out after n w m =
    let text = listing total (take (min total most_front) kept) in
    let long : length text ≡ n = omega (arith, w.ended) in
    let same : text ≡ listing (length input) input
    = rw (counted, laid) (listing_read xs input (min (length input) most_front) l refl) in
    rw (w.laid, ← long) (part_lay_same out 0 text (omega arith)) ∙ same

pub listed : (xs kept : List ℕ) (total : ℕ) → length xs ≡ most_front → Kept xs kept total → (out after : List ℕ) (n : ℕ)
    → Written out 0 (listing total (take (min total most_front) kept)) after n
    → n ≤ length out
    → Listed after n
listed xs kept total l k out after n w m =
    let text = listing total (take (min total most_front) kept) in
    record {
      input = k.input;
      text = text_is xs kept k.input total l k.laid k.counted out after n w m;
      within = rw (w.laid, length_lay out 0 text) m;
    }

pub listed_known : (known : Option (List ℕ)) (xs kept : List ℕ) (total : ℕ) → length xs ≡ most_front
    → IfSome known (λ input. (kept ≡ lay xs 0 input) × (total ≡ length input))
    → (out after : List ℕ) (n : ℕ)
    → Written out 0 (listing total (take (min total most_front) kept)) after n
    → n ≤ length out
    → IfSome known (λ input. take n after ≡ listing (length input) input)
listed_known None xs kept total l k out after n w m = tt
listed_known (Some input) xs kept total l k out after n w m = text_is xs kept input total l k.0 k.1 out after n w m
