-- A lagging desk's read. A desk that holds the index of a world w₀ and reads the files of a later world w, within the lag,
-- gets an answer that is a function of w₀ alone, for every page that is not raw. Assumes nothing.
use Rattle.std.specs.Prelude.{ℕ, ◌+◌, ◌*◌, ◌<◌, ◌≤◌, ◌≡◌, true, ◌&&◌, ◌⊎◌, eqb, ltb, length}
use Rattle.std.proofs.Math.Path.{refl, ap}
use Rattle.std.proofs.Common.{◌∙◌, sym, inl, inr, mul-le-mul_right, mul_comm, zero-add, arith, eq-eqb, lt-ltb, le-leb, ltb-true, leb-true}
use mathlib.Core.List.{List, [], ◌∷◌}
use Rattle.std.proofs.Math.Option.{Option, some, none, map}
use Rattle.std.proofs.Math.Dec.{leb}
use Rattle.lists.specs.Bools.{if_then}
use Rattle.lists.specs.laws.Bools.{both}
use Rattle.lists.specs.laws.Scans.{first_none, first_any}
use Rattle.octets.specs.Part.{part}
use Rattle.octets.specs.laws.Part.{part_part}
use Rattle.octets.specs.Rows.{row, page}
use Rattle.units.specs.Refusals as Refusals
use Rattle.units.specs.Sizes.{wait, entries, index_end, first_image, image_at, base_length}
use Rattle.units.specs.Tests.{Test, passes, tested}
use Rattle.units.specs.laws.Tests.{tested_behind, tested_same}
use Rattle.units.specs.declared.Settings.{Settings}
use Rattle.units.specs.declared.Tick.{Tick}
use Rattle.sidefile.specs.Encode.{image_sum, named, header_of, index_of}
use Rattle.sidefile.specs.Judge.{front_tests, held_tests}
use Rattle.sidefile.specs.declared.Header.{Header}
use Rattle.sidefile.specs.declared.IndexEntry.{IndexEntry}
use Rattle.ledger.specs.Entries.{place_of, has, at, find}
use Rattle.ledger.specs.laws.Ordered.{find_indexed}
use Rattle.ledger.specs.View.{indexed}
use Rattle.ledger.specs.declared.Entry.{Entry}
use Rattle.recorder.specs.World.{World, page_size, entries_of, kind_of, base_bytes, image_bytes}
use Rattle.desk.specs.Take.{same_settings, within_lag}
use Rattle.desk.specs.Read.{Answer, refused, span_tests, read_tests, held_entry, located, desk_read}
use Rattle.promises.specs.worlds.Good.{Good, Kept}
use Rattle.promises.specs.desks.Taken.{header_read, Took, index_in, header_in, held_header, held_index, held_accepted, side_header, front_accepted}

-- what a desk with this buffer reads in the files of a world; a world that is closed within the lag of another
abbrev pub desk_in : List ℕ → World → ℕ → ℕ → ℕ → Answer
desk_in held w p offset n = desk_read held w.side w.base p offset n

abbrev pub InLag : World → World → Type 0
InLag w₀ w = w.state.closed.0 ≤ w₀.state.closed.0 + w₀.state.settings.lag

-- a base has room for P times any e that it can have
pub pages_in : (s : Settings) (end : ℕ) → end ≤ s.capacity → s.size * end ≤ base_length s
unfolding base_length
pages_in s end h = omega (arith, mul_comm s.size end, mul-le-mul_right s.size h)

-- a side file of the same settings, closed within the lag, is read
pub same_settings_lem : (s t : Settings) → t ≡ s → same_settings (named s) (named t) ≡ true
unfolding same_settings
same_settings_lem s t e =
    rw (
      eq-eqb s.size t.size (ap (λ (r : Settings). r.size) (sym e)),
      eq-eqb s.slots t.slots (ap (λ (r : Settings). r.slots) (sym e)),
      eq-eqb s.lag t.lag (ap (λ (r : Settings). r.lag) (sym e)),
    )

pub within_lag_lem : (h k : Header) → h.closed.0 ≤ k.closed.0 → k.closed.0 ≤ h.closed.0 + h.settings.lag
    → within_lag h k ≡ true
unfolding within_lag
within_lag_lem h k a b = rw (le-leb h.closed.0 k.closed.0 a, le-leb k.closed.0 (h.closed.0 + h.settings.lag) b)

-- the tests that are left when 3, 11, 12 and 13 are passed
pub desk_span : (held side base : List ℕ) (p offset n : ℕ) → passes (held_tests held) ≡ true
    → passes (front_tests (length side) side) ≡ true
    → same_settings (header_of held).settings (header_of side).settings ≡ true
    → within_lag (header_of held) (header_of side) ≡ true
    → desk_read held side base p offset n
    ≡ tested (span_tests (header_of held) base p offset n) refused
    (located (header_of held) side base p offset n (held_entry (index_of held) p))
unfolding desk_read read_tests tested
desk_span held side base p offset n a b c d =
    rw a (tested_behind refused _ (front_tests (length side) side) _ b ∙ rw (c, d))

-- the tests of a desk's read that are left when it holds the index of a good world: 4 and 6
unfoldable pub page_tests : ℕ → ℕ → ℕ → ℕ → ℕ → List Test
page_tests P end p offset n = (Refusals.page, ltb p end) ∷ (Refusals.span, leb 1 n && leb (offset + n) P) ∷ []

pub page_facts : (P end p offset n : ℕ) → passes (page_tests P end p offset n) ≡ true → (p < end) × (1 ≤ n) × (offset + n ≤ P)
unfolding page_tests passes
page_facts P end p offset n h =
    let a = both (ltb p end) ((leb 1 n && leb (offset + n) P) && true) h in
    let b = both (leb 1 n && leb (offset + n) P) true a.1 in
    let c = both (leb 1 n) (leb (offset + n) P) b.0 in
    (ltb-true p end a.0, leb-true 1 n c.0, leb-true (offset + n) P c.1)

pub page_passes : (P end p offset n : ℕ) → p < end → 1 ≤ n → offset + n ≤ P → passes (page_tests P end p offset n) ≡ true
unfolding page_tests passes
page_passes P end p offset n a b c = rw (lt-ltb p end a, le-leb 1 n b, le-leb (offset + n) P c)

-- the answer from an image, whose place begins at a, and from the page of the base that begins at a
abbrev pub from_image : Entry → ℕ → ℕ → ℕ → List ℕ → Answer
from_image e a offset n image =
    if_then (eqb (image_sum e.page image) e.sum)
    (record { number = 0; source = 1; offset = a + offset; bytes = part image offset n })
    (refused Refusals.image)

abbrev pub from_base : ℕ → ℕ → ℕ → List ℕ → Answer
from_base a offset n page = record { number = 0; source = 0; offset = a + offset; bytes = part page offset n }

-- what the files of w answer to a desk with the index of w₀
abbrev pub answer_by : World → World → ℕ → ℕ → ℕ → Option Entry → Answer
answer_by w₀ w p offset n none = from_base (p * page_size w₀) offset n (base_bytes w p)
answer_by w₀ w p offset n (some e) = from_image e (image_at w₀.state.settings e.place) offset n (image_bytes w (place_of e))

unfoldable pub answer : World → World → ℕ → ℕ → ℕ → Answer
answer w₀ w p offset n = answer_by w₀ w p offset n (find p (entries_of w₀))

-- where the desk finds its bytes is what is answered: over settings and files, and over worlds of equal settings
abbrev answer_in : Settings → List ℕ → List ℕ → ℕ → ℕ → ℕ → Option Entry → Answer
answer_in s side base p offset n none = from_base (p * s.size) offset n (page s.size p base)
answer_in s side base p offset n (some e) =
    from_image e (image_at s e.place) offset n (row (first_image s) s.size (place_of e) side)

located_in : (s : Settings) (closed : Tick) (end : ℕ) (xs : List IndexEntry) (side base : List ℕ) (p offset n : ℕ)
    → offset + n ≤ s.size
    → (o : Option Entry)
    → located (header_read s closed end xs) side base p offset n (map indexed o) ≡ answer_in s side base p offset n o
unfolding located row image_at first_image index_end entries wait
located_in s closed end xs side base p offset n m none =
    rw (zero-add (p * s.size), part_part base (p * s.size) s.size offset n m)
located_in s closed end xs side base p offset n m (some e) =
    rw (part_part side (first_image s + place_of e * s.size) s.size offset n m)

answer_in_lem : (w₀ w : World) → w.state.settings ≡ w₀.state.settings → (p offset n : ℕ) (o : Option Entry)
    → answer_in w₀.state.settings w.side w.base p offset n o ≡ answer_by w₀ w p offset n o
unfolding base_bytes image_bytes
answer_in_lem w₀ w same p offset n none =
    ap (λ (s : Settings). from_base (p * page_size w₀) offset n (page s.size p w.base)) (sym same)
answer_in_lem w₀ w same p offset n (some e) =
    ap
    (λ (s : Settings).
    from_image e (image_at w₀.state.settings e.place) offset n (row (first_image s) s.size (place_of e) w.side))
    (sym same)

-- a desk that holds the index of w₀, and the files of w: of the same settings, and within the lag
module _ (w₀ w : World) (g₀ : Good w₀) (g : Good w) (same : w.state.settings ≡ w₀.state.settings)
    (since : w₀.state.closed.0 ≤ w.state.closed.0) (lag : InLag w₀ w) (held : List ℕ) (t : Took w₀ held) where
  abbrev h₀ : Header
  h₀ = header_in w₀ g₀.ending

  pub settings_held : same_settings (header_of held).settings (header_of w.side).settings ≡ true
  settings_held =
      ap (λ (h : Header). same_settings h.settings (header_of w.side).settings) (held_header w₀ g₀ held t)
      ∙ ap (λ (h : Header). same_settings (named w₀.state.settings) h.settings) (side_header w g)
      ∙ same_settings_lem w₀.state.settings w.state.settings same

  pub lag_held : within_lag (header_of held) (header_of w.side) ≡ true
  lag_held =
      ap (λ (h : Header). within_lag h (header_of w.side)) (held_header w₀ g₀ held t)
      ∙ ap (within_lag h₀) (side_header w g)
      ∙ within_lag_lem h₀ (header_in w g.ending) since lag

  located_is : (p offset n : ℕ) → offset + n ≤ page_size w₀
      → located h₀ w.side w.base p offset n (held_entry (index_in w₀) p) ≡ answer w₀ w p offset n
  unfolding answer held_entry
  located_is p offset n h =
      ap (located h₀ w.side w.base p offset n) (find_indexed p (entries_of w₀))
      ∙ located_in w₀.state.settings w₀.state.closed g₀.ending (index_in w₀) w.side w.base p offset n h
      (find p (entries_of w₀))
      ∙ answer_in_lem w₀ w same p offset n (find p (entries_of w₀))

  -- with a base of the same length: 3, 11, 12, 13 and 2 are passed, 4 and 6 are left
  module _ (lengths : length w.base ≡ length w₀.base) where
    base_long : page_size w₀ * g₀.ending ≤ length w.base
    unfolding base_length
    base_long =
        let few : g₀.ending ≤ w₀.state.settings.capacity = omega (arith, g₀.ended, g₀.ruled.facts.ended) in
        omega (arith, pages_in w₀.state.settings g₀.ending few, g₀.ruled.lengths.base_long)

    pub reads : (p offset n : ℕ)
        → desk_in held w p offset n ≡ tested (page_tests (page_size w₀) g₀.ending p offset n) refused (answer w₀ w p offset n)
    unfolding page_tests passes span_tests
    reads p offset n =
        desk_span held w.side w.base p offset n (held_accepted w₀ g₀ held t) (front_accepted w g) settings_held lag_held
        ∙ ap (λ (h : Header). asked h (index_of held)) (held_header w₀ g₀ held t)
        ∙ ap (asked h₀) (held_index w₀ g₀ held t)
        ∙ tested_behind refused _ ((Refusals.short, leb (page_size w₀ * g₀.ending) (length w.base)) ∷ []) rest (rw (le-leb _ _ base_long))
        ∙ tested_same refused _ _ rest (λ e. located_is p offset n (page_facts (page_size w₀) g₀.ending p offset n e).2)
      where
        rest : List Test
        rest = page_tests (page_size w₀) g₀.ending p offset n

        asked : Header → List IndexEntry → Answer
        asked h xs = tested (span_tests h w.base p offset n) refused (located h w.side w.base p offset n (held_entry xs p))

-- the files of w answer as those of w₀, whatever the desk asks of a page that is not raw
module _ (w₀ w : World) (g₀ : Good w₀) (g : Good w) (k : Kept w₀ w) (lag : InLag w₀ w) (held : List ℕ) (t : Took w₀ held) where
  answer_same : (p offset n : ℕ) → p < g₀.ending → (g₀.ending ≤ p) ⊎ (kind_of w₀ p ≡ 0)
      → answer w₀ w p offset n ≡ answer w₀ w₀ p offset n
  unfolding answer find at
  answer_same p offset n b (inl h) = absurd (omega arith)
  answer_same p offset n b (inr m) = go (find p (entries_of w₀)) refl
    where
      go : (o : Option Entry) → find p (entries_of w₀) ≡ o → answer_by w₀ w p offset n o ≡ answer_by w₀ w₀ p offset n o
      go none e =
          ap (from_base (p * page_size w₀) offset n)
          (k.pages p (omega (arith, g₀.ended)) m (first_none (has p) (entries_of w₀) e))
      go (some x) e =
          ap (from_image x (image_at w₀.state.settings x.place) offset n)
          (k.images (place_of x)
          (first_any (has p) (at (place_of x)) (entries_of w₀) x e (eq-eqb (place_of x) (place_of x) refl)))

  pub same_answer : (p offset n : ℕ) → (g₀.ending ≤ p) ⊎ (kind_of w₀ p ≡ 0) → desk_in held w p offset n ≡ desk_in held w₀ p offset n
  same_answer p offset n c =
      reads w₀ w g₀ g k.same k.since lag held t k.base_length_lem p offset n
      ∙ tested_same refused _ _ (page_tests (page_size w₀) g₀.ending p offset n)
      (λ e. answer_same p offset n (page_facts (page_size w₀) g₀.ending p offset n e).0 c)
      ∙ sym (reads w₀ w₀ g₀ g₀ refl (omega arith) (omega arith) held t refl p offset n)
