-- Text that is written into lent bytes piece behind piece. Assumes nothing.
use Rattle.std.specs.Prelude.{ℕ, ◌+◌, ◌*◌, ◌≤◌, ◌≡◌, refl, List, [], ◌∷◌, ◌++◌, length, set}
use Rattle.std.proofs.Common.{◌∙◌, sym, ap, arith, length-append}
use Rattle.std.proofs.Math.Seq.{take-length}
use Rattle.octets.specs.Part.{part, lay}
use Rattle.octets.specs.laws.Part.{length_lay, lay_nil, lay_one, lay_next, part_zero}
use Rattle.units.specs.Sizes.{header_length, index_row}
use Rattle.sidefile.specs.Encode.{header_of}
use Rattle.listing.specs.declared.text.Text.{Text}

-- the text was laid at `at` over the bytes before, and ends at `end`
pub record Written (before : List ℕ) (at : ℕ) (text after : List ℕ) (end : ℕ) : Type 0 where
  pub laid : after ≡ lay before at text
  pub ended : end ≡ at + length text

-- there is room for n bytes more
abbrev pub Room : Text → ℕ → Type 0
Room t n = t.end + n ≤ length t.out.now

-- a piece of at most n bytes was written behind what there was, into the very bytes that were lent
pub record Adds (old : Text) (piece : List ℕ) (n : ℕ) (new : Text) : Type 0 where
  pub written : Written old.out.now old.end piece new.out.now new.end
  pub short : new.end ≤ old.end + n
  pub long : length new.out.now ≡ length old.out.now
  pub same : new.out.ghost_name ≡ old.out.ghost_name

pub written_none : (xs : List ℕ) (at : ℕ) → Written xs at [] xs at
written_none xs at = record { laid = sym (lay_nil xs at); ended = omega arith }

pub written_byte : (xs : List ℕ) (at b : ℕ) → Written xs at (b ∷ []) (set xs at b) (at + 1)
written_byte xs at b = record { laid = lay_one xs at b; ended = refl }

pub written_word : (xs : List ℕ) (at : ℕ) (w ys : List ℕ) → ys ≡ lay xs at (part w 0 (length w)) → Written xs at w ys (at + length w)
written_word xs at w ys e = record { laid = e ∙ ap (lay xs at) (part_zero w (length w) ∙ take-length w); ended = refl }

pub written_as : {xs ys s t : List ℕ} {at end : ℕ} → s ≡ t → Written xs at s ys end → Written xs at t ys end
written_as e w = rw e at w

pub written_next : {xs ys zs s t : List ℕ} {at k end : ℕ} → Written xs at s ys k → Written ys k t zs end → Written xs at (s ++ t) zs end
written_next {xs = xs} {s = s} {t = t} {at = at} {k = k} a b =
    record {
      laid = b.laid ∙ rw a.laid (lay_next xs at s t k a.ended);
      ended = rw (length-append s t) (omega (arith, a.ended, b.ended));
    }

pub adds_none : (a : Text) → Adds a [] 0 a
adds_none a = record { written = written_none a.out.now a.end; short = omega arith; long = refl; same = refl }

pub adds : {a b : Text} {s : List ℕ} (n : ℕ) → Written a.out.now a.end s b.out.now b.end → length s ≤ n → b.out.ghost_name ≡ a.out.ghost_name
    → Adds a s n b
adds {a = a} {s = s} n w h g =
    record {
      written = w;
      short = omega (arith, w.ended);
      long = ap length w.laid ∙ length_lay a.out.now a.end s;
      same = g;
    }

-- two pieces, and what they are together
pub adds_next : {a b c : Text} {s t : List ℕ} {m n : ℕ} → Adds a s m b → Adds b t n c → Adds a (s ++ t) (m + n) c
adds_next f g = record { written = written_next f.written g.written; short = omega (arith, f.short, g.short); long = g.long ∙ f.long; same = g.same ∙ f.same }

pub adds_within : {a b : Text} {s : List ℕ} {m n : ℕ} → m ≤ n → Adds a s m b → Adds a s n b
adds_within h d = record { written = d.written; short = omega (arith, d.short); long = d.long; same = d.same }

pub adds_as : {a b : Text} {s t : List ℕ} {m n : ℕ} → s ≡ t → m ≡ n → Adds a s m b → Adds a t n b
adds_as e f d = rw (e, f) at d

-- bytes that have the header and all of the index that it names
pub record Listable (xs : List ℕ) : Type 0 where
  pub few : (header_of xs).entries ≤ 144
  pub reached : header_length + index_row * (header_of xs).entries ≤ length xs
