-- How far a desk looks: in the side file to the end of the last image place, in the base P times the held e, in the buffer
-- that it holds to the end of the index. Over slices that begin with the files of a good world as far as that, a take, a
-- refresh and a read answer what they answer over the files themselves. Assumes nothing.
use Rattle.std.specs.Prelude.{ℕ, ◌+◌, ◌*◌, ◌<◌, ◌≤◌, ◌≡◌, true, length}
use Rattle.std.proofs.Math.Path.{refl, sym, ap}
use Rattle.std.proofs.Common.{◌∙◌, subst, mul_comm, eqb-true, ltb-true, leb-true, le-leb}
use mathlib.Core.List.{List, [], ◌∷◌, ◌++◌, map}
use Rattle.std.proofs.Math.Option.{Option, some, none}
use native.Mathlib.Omega.{arith}
use Rattle.std.proofs.Math.Dec.{eqb, leb}
use Rattle.std.proofs.Math.ListN.{drop}
use Rattle.lists.specs.Below.{below}
use Rattle.lists.specs.Bools.{if_then}
use Rattle.lists.specs.laws.Bools.{both}
use Rattle.lists.specs.Scans.{Every}
use Rattle.lists.specs.laws.Scans.{head, tail, first_some}
use Rattle.octets.specs.Part.{part, lay}
use Rattle.octets.specs.laws.Rows.{row_in}
use Rattle.units.specs.Refusals as Refusals
use Rattle.units.specs.Sizes.{wait, entries, places, index_end, first_image, image_at, side_length, base_length}
use Rattle.units.specs.Tests.{Test, passes, tested}
use Rattle.units.specs.laws.Tests.{passes_both, passes_every}
use Rattle.units.specs.declared.Place.{Place}
use Rattle.units.specs.declared.Settings.{Settings}
use Rattle.sidefile.specs.laws.Accept.{whole_passes, front_passes}
use Rattle.sidefile.specs.Encode.{image_sum, named, header_of, index_of}
use Rattle.sidefile.specs.Judge.{whole_tests, front_tests, held_tests}
use Rattle.sidefile.specs.inner.Passed.{held_passed}
use Rattle.sidefile.specs.declared.Header.{Header}
use Rattle.sidefile.specs.declared.IndexEntry.{IndexEntry}
use Rattle.recorder.specs.World.{World}
use Rattle.desk.specs.Read.{refused, span_tests, read_tests, held_entry, located, desk_read}
use Rattle.desk.specs.Take.{untaken, taken, take_tests, take_reply, same_settings, within_lag, mark_of, marks_after, refresh_tests, refresh_reply}
use Rattle.promises.specs.alike.Agree.{Agree, last, next, agree_same, agree_append, agree_passes, agree_tested}
use Rattle.promises.specs.alike.AlikeGood.{index_begins}
use Rattle.promises.specs.worlds.Encoded.{encodes_good}
use Rattle.promises.specs.worlds.Fronts.{Front, front_part, front_long}
use Rattle.promises.specs.worlds.Good.{Good}
use Rattle.promises.specs.desks.Lagging.{pages_in}
use Rattle.promises.specs.desks.Taken.{Took, index_in, taken_is, side_long, side_header, side_index, side_accepted, front_accepted, held_front, held_header, held_index, held_accepted}

-- Two buffers that have the index of the same world: whatever lies behind it, they read the same.

module _ (w : World) (g : Good w) (held held₁ : List ℕ) (t : Took w held) (t₁ : Took w held₁) where
  pub desk_held : (side base : List ℕ) (p offset n : ℕ) → desk_read held side base p offset n ≡ desk_read held₁ side base p offset n
  unfolding desk_read read_tests
  desk_held side base p offset n =
      let e : passes (held_tests held) ≡ passes (held_tests held₁) = held_accepted w g held t ∙ sym (held_accepted w g held₁ t₁) in
      let h : header_of held ≡ header_of held₁ = held_header w g held t ∙ sym (held_header w g held₁ t₁) in
      let x : index_of held ≡ index_of held₁ = held_index w g held t ∙ sym (held_index w g held₁ t₁) in
      λ i. tested ((Refusals.state, e i)
      ∷ (front_tests (length side) side
      ++ ((Refusals.damaged, same_settings (h i).settings (header_of side).settings)
      ∷ (Refusals.lag, within_lag (h i) (header_of side))
      ∷ span_tests (h i) base p offset n)))
      refused (located (h i) side base p offset n (held_entry (x i) p))

-- A side file that begins as that of a good world.

module _ (w : World) (g : Good w) (side : List ℕ) (begins : Front (side_length w.state.settings) w.side side) where
  abbrev s : Settings
  s = w.state.settings

  -- the same header and index
  took_slices : Took w side
  took_slices = sym (index_begins w g.ruled side begins)

  long_slices : side_length s ≤ length side
  long_slices = front_long (side_length s) w.side side begins (side_long w g)

  same_header : header_of w.side ≡ header_of side
  same_header = side_header w g ∙ sym (held_header w g side took_slices)

  same_entries : index_of w.side ≡ index_of side
  same_entries = side_index w g ∙ sym (held_index w g side took_slices)

  agree_front : Agree (front_tests (length w.side) w.side) (front_tests (length side) side)
  agree_front =
      agree_passes (front_tests (length w.side) w.side) (front_tests (length side) side) (front_accepted w g)
      (front_passes s w.state.closed g.ending (index_in w) (encodes_good w g) side (held_front w g side took_slices) (length side) long_slices)

  agree_whole : Agree (whole_tests (length w.side) w.side) (whole_tests (length side) side)
  agree_whole =
      agree_passes (whole_tests (length w.side) w.side) (whole_tests (length side) side) (side_accepted w g)
      (whole_passes s w.state.closed g.ending (index_in w) (encodes_good w g) side (held_front w g side took_slices) (length side) long_slices)

  same_taken : (held : List ℕ) → taken w.side held ≡ taken side held
  same_taken held =
      taken_is s w.state.closed g.ending (index_in w) (encodes_good w g) w.side g.front held
      ∙ ap (lay held 0) (index_begins w g.ruled side begins)
      ∙ sym (taken_is s w.state.closed g.ending (index_in w) (encodes_good w g) side (held_front w g side took_slices) held)

  pub take_slices : (held : List ℕ) → take_reply w.side held ≡ take_reply side held
  unfolding take_reply take_tests
  take_slices held =
      agree_tested (λ x y. x ≡ y) (untaken held []) (untaken held []) _ _ (λ n. refl)
      (agree_append agree_whole (next (ap (λ (h : Header). leb (index_end h.settings) (length held)) same_header) (λ a. last)))
      (λ a. ap (λ (h : List ℕ). record { number = 0; held = h; marks = [] }) (same_taken held))

  pub refresh_slices : (held marks : List ℕ) → refresh_reply w.side held marks ≡ refresh_reply side held marks
  unfolding refresh_reply refresh_tests marks_after
  refresh_slices held marks =
      agree_tested (λ x y. x ≡ y) (untaken held marks) (untaken held marks) _ _ (λ n. refl)
      (next refl
      (λ a. agree_append agree_whole
      (next (ap (λ (h : Header). same_settings (header_of held).settings h.settings) same_header)
      (λ b. next (ap (within_lag (header_of held)) same_header)
      (λ c. next (ap (λ (h : Header). leb h.end (length marks)) same_header)
      (λ d. last))))))
      (λ a i. record {
        number = 0;
        held = same_taken held i;
        marks = map (mark_of (header_of held).closed (same_entries i)) (below (same_header i).end) ++ drop (same_header i).end marks;
      })

-- A read. Of the held buffer is asked that its e is one that the base can have; of the base, P times that.

-- an image of a side file that names these settings
image_fits : (s : Settings) (q : Place) → q.0 < places (named s) → image_at (named s) q + s.size ≤ side_length s
unfolding image_at side_length first_image index_end entries places wait
image_fits s q h = omega (arith, row_in s.size q.0 (places s) h)

-- settings that are the same, as a held buffer names them
settings_same : (held : List ℕ) (t : Settings) → same_settings (header_of held).settings t ≡ true → (header_of held).settings ≡ named t
unfolding same_settings header_of
settings_same held t h =
    let a = both _ _ h in
    let b = both _ _ a.0 in
    λ i. record {
      size = eqb-true (header_of held).settings.size t.size b.0 i;
      slots = eqb-true (header_of held).settings.slots t.slots b.1 i;
      lag = eqb-true (header_of held).settings.lag t.lag a.1 i;
      capacity = 65535;
    }

-- every entry of a held buffer that passes has a place below M
places_held : (held : List ℕ) → passes (held_tests held) ≡ true → Every (λ x. x.place.0 < places (header_of held).settings) (index_of held)
places_held held h = (held_passed held h).index.placed

module _ (w : World) (g : Good w) (side : List ℕ) (begins : Front (side_length w.state.settings) w.side side)
    (held : List ℕ) (room : (header_of held).end ≤ w.state.settings.capacity)
    (base : List ℕ) (pages : Front (w.state.settings.size * (header_of held).end) w.base base) (p offset n : ℕ) where
  abbrev hs : Settings
  hs = (header_of held).settings

  -- settings that pass are those of the side file, and then the held pages lie in the base
  settings_held : same_settings hs (header_of w.side).settings ≡ true → hs ≡ named w.state.settings
  settings_held h = settings_same held (header_of w.side).settings h ∙ ap (λ (h : Header). named h.settings) (side_header w g)

  same_size : hs ≡ named w.state.settings → hs.size ≡ w.state.settings.size
  same_size = ap (λ (t : Settings). t.size)

  pages_held : w.state.settings.size * (header_of held).end ≤ length w.base
  unfolding base_length
  pages_held = omega (arith, pages_in w.state.settings (header_of held).end room, g.ruled.lengths.base_long)

  same_room : hs ≡ named w.state.settings → leb (hs.size * (header_of held).end) (length w.base) ≡ leb (hs.size * (header_of held).end) (length base)
  same_room e =
      let k : hs.size * (header_of held).end ≡ w.state.settings.size * (header_of held).end = ap (λ (t : Settings). t.size * (header_of held).end) e in
      le-leb (hs.size * (header_of held).end) (length w.base) (omega (arith, k, pages_held))
      ∙ sym (le-leb (hs.size * (header_of held).end) (length base) (omega (arith, k, front_long (w.state.settings.size * (header_of held).end) w.base base pages pages_held)))

  agree_read : Agree (read_tests held w.side w.base p offset n) (read_tests held side base p offset n)
  unfolding read_tests span_tests
  agree_read =
      next refl
      (λ a. agree_append (agree_front w g side begins)
      (next (ap (λ (h : Header). same_settings hs h.settings) (same_header w g side begins))
      (λ b. next (ap (within_lag (header_of held)) (same_header w g side begins))
      (λ c. next (same_room (settings_held b))
      (λ d. agree_same _)))))

  -- where the bytes lie, both have the same
  module _ (e : hs ≡ named w.state.settings) (low : p < (header_of held).end) (inside : offset + n ≤ hs.size) where
    same_page : part w.base (p * hs.size + offset) n ≡ part base (p * hs.size + offset) n
    same_page =
        front_part (w.state.settings.size * (header_of held).end) w.base base pages (p * hs.size + offset) n
        (omega (arith, same_size e, ap (λ (k : ℕ). p * k) (same_size e), row_in w.state.settings.size p (header_of held).end low, mul_comm w.state.settings.size (header_of held).end))

    same_image : (q : Place) → q.0 < places hs → (a k : ℕ) → a + k ≤ hs.size → part w.side (image_at hs q + a) k ≡ part side (image_at hs q + a) k
    same_image q h a k m =
        front_part (side_length w.state.settings) w.side side begins (image_at hs q + a) k
        (omega (arith, subst (λ (t : Settings). q.0 < places t → image_at t q + t.size ≤ side_length w.state.settings) (sym e) (image_fits w.state.settings q) h))

    located_same : (o : Option IndexEntry) → ((x : IndexEntry) → o ≡ some x → x.place.0 < places hs)
        → located (header_of held) w.side w.base p offset n o ≡ located (header_of held) side base p offset n o
    unfolding located
    located_same none f = λ i. record { number = 0; source = 0; offset = p * hs.size + offset; bytes = same_page i }
    located_same (some x) f =
        let start = image_at hs x.place in
        let z : start + 0 ≡ start = omega arith in
        let image : part w.side start hs.size ≡ part side start hs.size = rw z at (same_image x.place (f x refl) 0 hs.size (omega arith)) in
        let span = same_image x.place (f x refl) offset n inside in
        λ i. if_then (eqb (image_sum x.page (image i)) x.sum) (record { number = 0; source = 1; offset = start + offset; bytes = span i }) (refused Refusals.image)

  -- and all that is asked for that passes
  passed_same : passes (read_tests held w.side w.base p offset n) ≡ true
      → located (header_of held) w.side w.base p offset n (held_entry (index_of held) p) ≡ located (header_of held) side base p offset n (held_entry (index_of held) p)
  unfolding read_tests span_tests held_entry
  passed_same h =
      let ts : List Test = (Refusals.damaged, same_settings hs (header_of w.side).settings) ∷ (Refusals.lag, within_lag (header_of held) (header_of w.side)) ∷ span_tests (header_of held) w.base p offset n in
      let a = passes_every ts ((passes_both ((Refusals.state, passes (held_tests held)) ∷ front_tests (length w.side) w.side) ts h).1) in
      let span = both (leb 1 n) (leb (offset + n) hs.size) (head (tail (tail (tail (tail a))))) in
      located_same (settings_held (head a)) (ltb-true p (header_of held).end (head (tail (tail (tail a))))) (leb-true (offset + n) hs.size span.1) (held_entry (index_of held) p)
      (λ x z. (first_some (λ y. eqb y.page.0 p) (index_of held) x (places_held held (head (passes_every (read_tests held w.side w.base p offset n) h))) z).1)

  pub read_slices : desk_read held w.side w.base p offset n ≡ desk_read held side base p offset n
  unfolding desk_read
  read_slices =
      agree_tested (λ x y. x ≡ y) refused refused
      (located (header_of held) w.side w.base p offset n (held_entry (index_of held) p)) (located (header_of held) side base p offset n (held_entry (index_of held) p))
      (λ k. refl) agree_read passed_same
