-- Of two alike worlds one is good if the other is, with the same end at the last close; and what the promises speak of is the
-- same in both: what a desk with the world's index reads for a page, what a page has for the recorder, the pages of the base
-- and the images. Assumes nothing.
use Rattle.std.specs.Prelude.{ℕ, ◌<◌, ◌≡◌}
use Rattle.std.proofs.Math.Path.{refl, sym, ap}
use Rattle.std.proofs.Common.{◌∙◌, subst, arith}
use mathlib.Core.List.{List, ◌++◌, map}
use Rattle.std.proofs.Math.Option.{Option, some, none}
use Rattle.lists.specs.Scans.{Every}
use Rattle.lists.specs.laws.Scans.{every_map, every_two}
use Rattle.octets.specs.Part.{part}
use Rattle.units.specs.laws.Bounds.{first_image_least}
use Rattle.units.specs.Sizes.{places, index_end, side_length}
use Rattle.sidefile.specs.Encode.{image_sum, header_for, index_bytes}
use Rattle.slots.specs.Table.{page_at}
use Rattle.ledger.specs.Entries.{page_of, place_of, find}
use Rattle.ledger.specs.laws.Ordered.{find_some}
use Rattle.ledger.specs.View.{indexed}
use Rattle.ledger.specs.declared.Entry.{Entry}
use Rattle.recorder.specs.World.{World, entries_of, kind_of, base_bytes, image_bytes, slot_for}
use Rattle.promises.specs.alike.Alike.{with_slices, Lent, Alike, alike_by, same_entries, same_kind, same_base, same_image, same_slot, in_file, ruled_slices}
use Rattle.recorder.specs.laws.Facts.{Ruled, EntryFacts, seats, within}
use Rattle.promises.specs.worlds.Fronts.{Front, front_part}
use Rattle.promises.specs.worlds.Good.{view_by, view, has_by, contents, Good}

-- a side file that begins as that of a world: header and index
pub index_begins : (w : World) → Ruled w → (side : List ℕ) → Front (side_length w.state.settings) w.side side
    → part w.side 0 (index_end w.state.settings) ≡ part side 0 (index_end w.state.settings)
unfolding side_length
index_begins w r side begins =
    let s = w.state.settings in
    front_part (side_length s) w.side side begins 0 (index_end s) (omega (arith, first_image_least s (within w r)))

module _ (w v : World) (r : Ruled w) (l : Lent w v) where
  abbrev twin : World
  twin = with_slices w v

  -- what a desk reads, and what a page has for the recorder
  same_view : (p : ℕ) → p < w.state.settings.capacity → view w p ≡ view twin p
  unfolding view
  same_view p h = go (find p (entries_of w)) refl ∙ ap (λ (es : List Entry). view_by twin p (find p es)) (same_entries w v r l)
    where
      go : (o : Option Entry) → find p (entries_of w) ≡ o → view_by w p o ≡ view_by twin p o
      go none e = same_base w v r l p h
      go (some x) e = same_image w v r l (place_of x) (find_some p (entries_of w) x r.facts.each e).1.place_below

  same_contents : (p : ℕ) → p < w.state.end → contents w p ≡ contents twin p
  unfolding contents slot_for
  same_contents p h = go (slot_for w p) refl
    where
      go : (o : Option ℕ) → slot_for w p ≡ o → has_by w p o ≡ has_by twin p o
      go none e = same_base w v r l p (in_file w r p h)
      go (some i) e = same_slot w v r l p i h e

module _ (w v : World) (g : Good w) (l : Lent w v) where
  -- what holds of every entry, with what the state rules say of it
  every_slices : {P Q : Entry → Type 0} → ((e : Entry) → EntryFacts w e → P e → Q e) → Every P (entries_of w) → Every Q (entries_of (with_slices w v))
  every_slices {P} {Q} f p =
      subst (Every Q) (same_entries w v g.ruled l)
      (every_map (λ e h. f e h.0 h.1) (entries_of w) (every_two (entries_of w) g.ruled.facts.each p))

  good_slices : Good (with_slices w v)
  unfolding slot_for
  good_slices =
      let r = g.ruled in
      record {
        ruled = ruled_slices w v r l;
        two = λ p h. rw (same_kind w v r l p (in_file w r p h)) at (g.two p h);
        ending = g.ending;
        ended = g.ended;
        front = sym (index_begins w r v.side l.side) ∙ g.front ∙ ap (λ (es : List Entry). header_for w.state.settings w.state.closed g.ending (map indexed es) ++ index_bytes w.state.settings (map indexed es)) (same_entries w v r l);
        early = every_slices (λ e f h. h) g.early;
        sums = every_slices (λ e f h. ap (image_sum e.page) (sym (same_image w v r l (place_of e) f.place_below)) ∙ h) g.sums;
        slots =
            λ i h k c. sym (l.buffer i h k) ∙ g.slots i h k c ∙ same_view w v r l (page_at w.state.slots i) (in_file w r (page_at w.state.slots i) ((seats w r).low i h k));
        written =
            every_slices (λ e f h o. sym (same_image w v r l (place_of e) f.place_below) ∙ h o ∙ same_base w v r l (page_of e) (in_file w r (page_of e) f.page_below)) g.written;
        newer = λ p h k m. g.newer p h k (same_kind w v r l p (in_file w r p k) ∙ m);
      }

module _ (w v : World) (a : Alike w v) where
  pub good_alike : Good w → Good v
  good_alike g = alike_by Good w v a (good_slices w v g a.lent)

  pub alike_ending : (g : Good w) → (good_alike g).ending ≡ g.ending
  unfolding good_alike good_slices alike_by
  alike_ending g = refl

  module _ (r : Ruled w) where
    pub alike_entries : entries_of w ≡ entries_of v
    alike_entries = alike_by (λ u. entries_of w ≡ entries_of u) w v a (same_entries w v r a.lent)

    pub alike_kind : (p : ℕ) → p < w.state.settings.capacity → kind_of w p ≡ kind_of v p
    alike_kind p h = same_kind w v r a.lent p h

    pub alike_base : (p : ℕ) → p < w.state.settings.capacity → base_bytes w p ≡ base_bytes v p
    alike_base p h = alike_by (λ u. base_bytes w p ≡ base_bytes u p) w v a (same_base w v r a.lent p h)

    pub alike_image : (q : ℕ) → q < places w.state.settings → image_bytes w q ≡ image_bytes v q
    alike_image q h = alike_by (λ u. image_bytes w q ≡ image_bytes u q) w v a (same_image w v r a.lent q h)

    pub alike_view : (p : ℕ) → p < w.state.settings.capacity → view w p ≡ view v p
    alike_view p h = alike_by (λ u. view w p ≡ view u p) w v a (same_view w v r a.lent p h)

    pub alike_contents : (p : ℕ) → p < w.state.end → contents w p ≡ contents v p
    alike_contents p h = alike_by (λ u. contents w p ≡ contents u p) w v a (same_contents w v r a.lent p h)
