-- Where the bytes of a read lie, and that they lie within their slice. Assumes nothing.
use Prim.Native.Nat.{ℕ, ◌+◌, ◌-◌, ◌*◌, ◌≤◌, ◌<◌}
use mathlib.Core.Bool.{Bool, true, false, ◌&&◌}
use mathlib.Core.List.{List, ◌++◌}
use mathlib.Core.Option.{some, none}
use mathlib.Core.Path.{◌≡◌, refl, ◌∙◌, sym, ap, subst}
use native.Mathlib.Nat.{mul_comm}
use native.Mathlib.Omega.{arith}
use lib.Dec.{eqb, ltb, leb}
use lib.ListN.{length, take, drop}
use denote.Ref.{Bor}
use borrow.Author.Tests.{leb-true, ltb-true}
use Rattle.std.specs.Prelude.{Result, Ok, Err, Some, None, position}
use Rattle.lists.specs.Bools.{if_then}
use Rattle.lists.specs.laws.Bools.{both}
use Rattle.lists.specs.Scans.{Every, all_of, first}
use Rattle.octets.specs.Part.{part}
use Rattle.octets.specs.laws.Part.{part_none}
use Rattle.octets.specs.Rows.{row}
use Rattle.octets.specs.laws.Rows.{row_in}
use Rattle.units.specs.Refusals as Refusals
use Rattle.units.specs.Refusals.{code}
use Rattle.units.specs.Sizes.{header_length, index_row, limits, places, image_at, side_length}
use Rattle.units.specs.Tests.{Test, numbered, passes, verdict}
use Rattle.units.specs.laws.Tests.{tested_passes, passes_both, verdict_passes, verdict_none, refused_by}
use Rattle.units.specs.declared.Place.{Place}
use Rattle.units.specs.declared.refusal.Refusal.{Refusal}
use Rattle.units.specs.declared.refusal.Refusal.TheVariants as Reason
use Rattle.units.specs.declared.Settings.{Settings}
use Rattle.sidefile.specs.Encode.{image_sum, header_of, index_entry_of, index_of}
use Rattle.sidefile.specs.Judge.{mark_tests, header_tests, front_tests}
use Rattle.sidefile.specs.inner.Passed.{front_passed}
use Rattle.sidefile.specs.inner.Table.{of_page, entry_next, found_row, found_none}
use Rattle.sidefile.specs.inner.Tables.{IndexAt, entries_in}
use Rattle.sidefile.specs.declared.table.Table.{Table}
use Rattle.sidefile.specs.declared.Header.{Header}
use Rattle.sidefile.specs.declared.IndexEntry.{IndexEntry}
use Rattle.desk.specs.inner.Follow.{kept_tests, pair_tests, follow_tests}
use Rattle.desk.specs.Outcome.{from, Handed}
use Rattle.desk.specs.Read.{Answer, refused, span_tests, read_tests, held_entry, located, desk_read}
use Rattle.desk.specs.inner.Span.{handed, base_span, image_span, Locates}
use Rattle.desk.specs.Source as Sources
use Rattle.desk.specs.declared.Source.{Source}
use Rattle.desk.specs.declared.Source.TheVariants as Slice
use Rattle.desk.specs.declared.locate.Span.{Span}
use Rattle.desk.proofs.Followed.{code_some, kept_passes, pair_passes, held_long, held_indexed, rows_fit, index_seen, kept_stops, side_stops, pair_stops, behind_pair}
use Rattle.desk.proofs.Scans.{every_at}

-- The verdict on all tests but 14, by that of each part.
module _ (held side base : List ℕ) (p offset n : ℕ) where
  abbrev tests : List Test
  tests = read_tests held side base p offset n

  abbrev front : List Test
  front = front_tests (length side) side

  abbrev span : List Test
  span = span_tests (header_of held) base p offset n

  by_parts : verdict (follow_tests held side front span) ≡ verdict tests
  unfolding read_tests kept_tests pair_tests front_tests mark_tests header_tests
  by_parts = refl

  numbered_front : all_of numbered front ≡ true
  unfolding front_tests mark_tests header_tests all_of
  numbered_front = refl

  pub kept_refuses : (r : Refusal) → code r ≡ verdict (kept_tests held) → code r ≡ verdict tests
  kept_refuses r e = kept_stops held side front span r e ∙ by_parts

  module _ (k : 0 ≡ verdict (kept_tests held)) where
    pub front_refuses : (r : Refusal) → code r ≡ verdict front → code r ≡ verdict tests
    front_refuses r e = side_stops held side front span k r e ∙ by_parts

    module _ (f : 0 ≡ verdict front) where
      pub pair_refuses : (r : Refusal) → code r ≡ verdict (pair_tests (header_of held) (header_of side)) → code r ≡ verdict tests
      pair_refuses r e = pair_stops held side front span k numbered_front f r e ∙ by_parts

      pub span_decides : 0 ≡ verdict (pair_tests (header_of held) (header_of side)) → (h : Header) → h ≡ header_of held
          → verdict (span_tests h base p offset n) ≡ verdict tests
      span_decides g h e = rw e (behind_pair held side front span k numbered_front f g ∙ by_parts)

-- the span of each kind of answer
pub locates_refused : (r : Refusal) (side base : List ℕ) → Locates (refused (code r)) side base (Err r)
locates_refused r side base = record { number = refl; source = refl; start = refl; bytes = part_none base 0; within = omega arith }

module _ (h : Header) (side base : List ℕ) (p offset n : ℕ) where
  pub locates_base : p * h.settings.size + offset + n ≤ length base
      → Locates (located h side base p offset n none) side base (Ok (base_span h.settings p offset n))
  unfolding located base_span
  locates_base l = record { number = refl; source = refl; start = refl; bytes = refl; within = l }

  pub locates_image : (x : IndexEntry) → image_at h.settings x.place + h.settings.size ≤ length side → offset + n ≤ h.settings.size
      → Locates (located h side base p offset n (some x)) side base (image_span h.settings side x offset n)
  unfolding located image_span
  locates_image x k l = go (eqb (image_sum x.page (part side (image_at h.settings x.place) h.settings.size)) x.sum)
    where
      go : (b : Bool)
          → Locates
          (if_then b (record { number = 0; source = 1; offset = image_at h.settings x.place + offset; bytes = part side (image_at h.settings x.place + offset) n })
          (refused Refusals.image))
          side base
          (if_then b (Ok (record { source = Slice.Side; start = image_at h.settings x.place + offset; size = n })) (Err Reason.Image))
      go true = record { number = refl; source = refl; start = refl; bytes = refl; within = omega arith }
      go false = locates_refused Reason.Image side base

pub locate_refused : (held side base : List ℕ) (p offset n : ℕ) (r : Refusal) → code r ≡ verdict (tests held side base p offset n)
    → Locates (desk_read held side base p offset n) side base (Err r)
unfolding desk_read
locate_refused held side base p offset n r e =
    rw (refused_by refused _ (tests held side base p offset n) (code r) e (code_some r)) (locates_refused r side base)

-- What is known where all of them pass.
pub record Readable (held side base : List ℕ) (p offset n : ℕ) : Type 0 where
  pub kept : 0 ≡ verdict (kept_tests held)
  pub reached : side_length (header_of held).settings ≤ length side
  pub based : (header_of held).settings.size * (header_of held).end ≤ length base
  pub paged : p < (header_of held).end
  pub spanned : offset + n ≤ (header_of held).settings.size

module _ (held side base : List ℕ) (p offset n : ℕ) (v : 0 ≡ verdict (tests held side base p offset n)) where
  abbrev pair : List Test
  pair = pair_tests (header_of held) (header_of side)

  passed : passes (kept_tests held ++ (front held side base p offset n ++ (pair ++ span held side base p offset n))) ≡ true
  unfolding kept_tests front_tests mark_tests header_tests pair_tests span_tests all_of
  passed = verdict_none (follow_tests held side (front held side base p offset n) (span held side base p offset n)) refl (by_parts held side base p offset n ∙ sym v)

  good : passes (tests held side base p offset n) ≡ true
  unfolding read_tests span_tests front_tests mark_tests header_tests all_of
  good = verdict_none (tests held side base p offset n) refl (sym v)

  pub readable : Readable held side base p offset n
  unfolding front_tests mark_tests header_tests span_tests passes all_of
  readable =
      let s = (header_of held).settings in
      let a = passes_both (kept_tests held) (front held side base p offset n ++ (pair ++ span held side base p offset n)) passed in
      let b = passes_both (front held side base p offset n) (pair ++ span held side base p offset n) a.1 in
      let c = passes_both pair (span held side base p offset n) b.1 in
      let d = both (leb (s.size * (header_of held).end) (length base)) _ c.1 in
      let f = both (ltb p (header_of held).end) _ d.1 in
      let g = both (leb 1 n && leb (offset + n) s.size) true f.1 in
      let r : side_length (header_of side).settings ≤ length side
      = leb-true _ _ (front_passed (length side) side b.0).header.asked in
      record {
        kept = sym (verdict_passes (kept_tests held) a.0);
        reached = subst (λ (s : Settings). side_length s ≤ length side) (sym (pair_passes held side (sym (verdict_passes pair c.0)))) r;
        based = leb-true _ _ d.0;
        paged = ltb-true _ _ f.0;
        spanned = leb-true _ _ (both (leb 1 n) (leb (offset + n) s.size) g.0).1;
      }

  pub read_long : header_length ≤ length held
  read_long = held_long held readable.kept

  -- an image place below M, within a side file; a page below e, within a base
  pub image_within : (s : Settings) (q : Place) (k : ℕ) → q.0 < places s → side_length s ≤ k → image_at s q + s.size ≤ k
  unfolding image_at side_length
  image_within s q k h l = omega (arith, row_in s.size q.0 (places s) h)

  pub page_within : (size e p offset n k : ℕ) → p < e → size * e ≤ k → offset + n ≤ size → p * size + offset + n ≤ k
  page_within size e p offset n k h l m = omega (arith, row_in size p e h, mul_comm size e)

  -- h is the header of the held buffer
  module _ (h : Header) (e : h ≡ header_of held) where
    pub read_rows : header_length + h.entries * index_row ≤ length held
    read_rows = rows_fit held (held_indexed held readable.kept) h.entries (ap (λ (h : Header). h.entries) e)

    by_entry : desk_read held side base p offset n ≡ located h side base p offset n (held_entry (index_of held) p)
    unfolding desk_read
    by_entry = tested_passes refused _ (tests held side base p offset n) good ∙ ap (λ (h : Header). located h side base p offset n (held_entry (index_of held) p)) (sym e)

    module _ (table : Table) (at : IndexAt held h.entries table) where
      sought : held_entry (index_of held) p ≡ first (of_page p) (entries_in table)
      unfolding held_entry
      sought = ap (first (of_page p)) (index_seen held h e table at)

      module _ (i : ℕ) (f : position (of_page p) (entries_in table) ≡ Some i) where
        pub found_below : i < table.rows
        found_below = (found_row table.at table.width table.rows table.bytes.now p i f).0

        module _ (x : IndexEntry) (g : x ≡ index_entry_of (row table.at table.width i table.bytes.now)) where
          pub image_fits : (limits h.settings ≡ true) × (image_at h.settings x.place + h.settings.size ≤ length side)
          image_fits =
              let k = kept_passes held readable.kept in
              let placed = subst (Every (λ x. x.place.0 < places (header_of held).settings)) (index_seen held h e table at) k.index.placed in
              rw (e, g) (
                k.front.header.limited,
                image_within (header_of held).settings _ (length side) (every_at (entries_in table) i placed (entry_next table.at table.width table.rows table.bytes.now i found_below)) readable.reached,
              )

          pub locate_image : (r : Result Span Refusal) → r ≡ image_span h.settings side x offset n → Locates (desk_read held side base p offset n) side base r
          locate_image r a =
              let b : desk_read held side base p offset n ≡ located h side base p offset n (some x)
              = by_entry ∙ ap (located h side base p offset n) (sought ∙ (found_row table.at table.width table.rows table.bytes.now p i f).1 ∙ ap some (sym g)) in
              rw (a, b) (locates_image h side base p offset n x image_fits.1 (rw e readable.spanned))

      pub locate_base : position (of_page p) (entries_in table) ≡ None → (s : Span) → s ≡ base_span h.settings p offset n
          → Locates (desk_read held side base p offset n) side base (Ok s)
      locate_base f s a =
          let b : desk_read held side base p offset n ≡ located h side base p offset n none
          = by_entry ∙ ap (located h side base p offset n) (sought ∙ found_none table.at table.width table.rows table.bytes.now p f) in
          let w = page_within _ (header_of held).end p offset n (length base) readable.paged readable.based readable.spanned in
          rw (a, b) (locates_base h side base p offset n (rw e w))

-- the part that is handed out, of the slice that the span names
module _ (a : Answer) (side base r : Bor (List ℕ)) (o : Result Span Refusal) (l : Locates a side.now base.now o) where
  pub handed_out : (s : Span) → s ≡ handed o → (k : Source) (f : Bor (List ℕ)) → s.source ≡ k → f ≡ from (Sources.number k) side base
      → r.ref_ptr ≡ (f.ref_ptr.0, s.start + f.ref_ptr.1)
      → r.now ≡ take (s.start + s.size - s.start) (drop s.start f.now)
      → Handed a side base r
  unfolding part
  handed_out s e k f i g p q =
      let m : s.start + s.size - s.start ≡ s.size = omega arith in
      record {
        place = p ∙ rw (g, ← i, e, l.source, l.start);
        bytes = q ∙ rw (m, g, ← i, e, now_of (eqb (Sources.number (handed o).source) 1)) l.bytes;
      }
    where
      now_of : (b : Bool) → (if_then b side base).now ≡ if_then b side.now base.now
      now_of true = refl
      now_of false = refl
