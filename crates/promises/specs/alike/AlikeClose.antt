-- Two alike worlds close alike: the same number, the same stores made in both, and worlds that are alike again. Assumes
-- nothing.
use Rattle.std.specs.Prelude.{ℕ, ◌*◌, ◌<◌, ◌≡◌, ◌&&◌, ◌||◌, length}
use Rattle.std.proofs.Math.Path.{refl, ap}
use Rattle.std.proofs.Common.{◌∙◌, arith}
use mathlib.Core.List.{List, [], ◌∷◌, ◌++◌, map}
use Rattle.std.proofs.Math.Bool.{not}
use Rattle.std.proofs.Math.Option.{Option, some, none}
use Rattle.std.proofs.Math.Dec.{leb}
use Rattle.std.proofs.Math.ListN.{take}
use Rattle.lists.specs.Below.{below, zip}
use Rattle.lists.specs.laws.Below.{every_from, every_zip, every_of_map}
use Rattle.lists.specs.Bools.{if_then}
use Rattle.lists.specs.laws.Maps.{map_same, keep_same}
use Rattle.lists.specs.Scans.{any_of, Every, keep}
use Rattle.lists.specs.laws.Scans.{every_map, every_all, every_keep}
use Rattle.octets.specs.Part.{lay}
use Rattle.octets.specs.laws.Part.{length_lay}
use Rattle.octets.specs.Rows.{join}
use Rattle.units.specs.Ages as Ages
use Rattle.units.specs.Refusals as Refusals
use Rattle.units.specs.Sizes.{header_length, entries, places, image_at, side_length, base_length, ledger_length}
use Rattle.units.specs.declared.Settings.{Settings}
use Rattle.sidefile.specs.Encode.{image_sum, header_for, index_bytes}
use Rattle.slots.specs.Table.{to_page, vacant, page_at, unmarked}
use Rattle.ledger.specs.Entries.{page_of, entered_or, find, at, retires, is_due, is_reusable, place_after, put_all, fresh}
use Rattle.ledger.specs.laws.Ordered.{every_put}
use Rattle.ledger.specs.View.{indexed, entry_bytes, retired_row, free_row}
use Rattle.ledger.specs.declared.Entry.{Entry}
use Rattle.recorder.specs.Close.{open_tick, changed_in, changes, free_places, given, fresh_entries, staying, after, due_entries, Store, in_side, in_base, image_stores, base_stores, front_stores, stores, to_side, to_base, ledger_after, closed, suffices, close_tests, close_reply}
use Rattle.recorder.specs.World.{World, accept, set_closed, set_slots, set_entries, page_size, wait_of, entries_of, slot_bytes, slot_for, bytes_at, bytes_in}
use Rattle.promises.specs.alike.Agree.{last, next}
use Rattle.promises.specs.alike.Alike.{with_slices, Lent, Alike, same_entries, same_row, same_retired, same_retired_at, same_slot}
use Rattle.promises.specs.alike.AlikeCalls.{Both, both_tested}
use Rattle.recorder.specs.laws.Facts.{Ruled}
use Rattle.promises.specs.worlds.Fronts.{Front, front_lay}
use Rattle.recorder.specs.laws.Stored.{length_to_side, length_to_base}

-- the same stores made in two files that begin alike
side_front : (n : ℕ) (ss : List Store) (xs ys : List ℕ) → Front n xs ys → Front n (to_side ss xs) (to_side ss ys)
unfolding to_side
side_front n [] xs ys e = e
side_front n (in_side at bs ∷ ss) xs ys e = side_front n ss (lay xs at bs) (lay ys at bs) (front_lay n xs ys e at bs)
side_front n (in_base at bs ∷ ss) xs ys e = side_front n ss xs ys e

base_front : (n : ℕ) (ss : List Store) (xs ys : List ℕ) → Front n xs ys → Front n (to_base ss xs) (to_base ss ys)
unfolding to_base
base_front n [] xs ys e = e
base_front n (in_side at bs ∷ ss) xs ys e = base_front n ss xs ys e
base_front n (in_base at bs ∷ ss) xs ys e = base_front n ss (lay xs at bs) (lay ys at bs) (front_lay n xs ys e at bs)

module _ (w v : World) (r : Ruled w) (l : Lent w v) where
  abbrev twin : World
  twin = with_slices w v

  abbrev s : Settings
  s = w.state.settings

  -- the changed pages with their places
  same_reusable : (q : ℕ) → q < places s → is_reusable s (wait_of w) (open_tick w) (entries_of w) w.ledger q ≡ is_reusable s (wait_of w) (open_tick w) (entries_of twin) v.ledger q
  unfolding is_reusable
  same_reusable q h =
      λ i. not (any_of (at q) (same_entries w v r l i)) && (not (same_retired w v r l q h i) || Ages.reusable (wait_of w) (same_retired_at w v r l q h i) (open_tick w))

  same_free : free_places w ≡ free_places twin
  unfolding free_places
  same_free =
      keep_same (is_reusable s (wait_of w) (open_tick w) (entries_of w) w.ledger) (is_reusable s (wait_of w) (open_tick w) (entries_of twin) v.ledger) (below (places s))
      (every_map (λ q h. same_reusable q (omega (arith, h.1))) (below (places s)) (every_from 0 (places s)))

  same_given : given w ≡ given twin
  unfolding given changes changed_in
  same_given = ap (zip (changes w)) same_free

  changes_below : Every (λ p. p < w.state.end) (changes w)
  unfolding changes
  changes_below = every_map (λ p h. omega (arith, h.1.1)) (changes w) (every_keep (changed_in w) (below w.state.end) (every_from 0 w.state.end))

  given_below : Every (λ g. (g.0 < w.state.end) × Unit) (given w)
  unfolding given
  given_below = every_zip (changes w) (free_places w) changes_below (every_all (λ q. tt) (free_places w))

  -- the bytes of a page in a slot
  same_bytes : (p : ℕ) → p < w.state.end → bytes_in w p ≡ bytes_in twin p
  unfolding bytes_in slot_for
  same_bytes p h = go (slot_for w p) refl
    where
      go : (o : Option ℕ) → slot_for w p ≡ o → bytes_at w o ≡ bytes_at twin o
      go none e = refl
      go (some i) e = same_slot w v r l p i h e

  -- the entries of the close
  abbrev fresh_of : World → (ℕ × ℕ) → Entry
  fresh_of u = fresh (open_tick w) (entries_of u) (λ p. image_sum (to_page p) (bytes_in u p))

  same_one : (g : ℕ × ℕ) → g.0 < w.state.end → fresh_of w g ≡ fresh_of twin g
  unfolding fresh
  same_one g h =
      λ i. record {
        page = record { 0 = g.0 };
        place = record { 0 = g.1 };
        changed = open_tick w;
        sum = image_sum (to_page g.0) (same_bytes g.0 h i);
        entered = entered_or (open_tick w) (find g.0 (same_entries w v r l i));
      }

  same_fresh : fresh_entries w ≡ fresh_entries twin
  unfolding fresh_entries
  same_fresh = map_same (fresh_of w) (fresh_of twin) (given w) (every_map (λ g h. same_one g h.0) (given w) given_below) ∙ ap (map (fresh_of twin)) same_given

  fresh_below : Every (λ e. page_of e < w.state.end) (fresh_entries w)
  unfolding fresh_entries fresh
  fresh_below = every_of_map (fresh_of w) (given w) (every_map (λ g h. h.0) (given w) given_below)

  same_staying : staying w ≡ staying twin
  unfolding staying changed_in
  same_staying = ap (keep (λ e. not (retires (wait_of w) (open_tick w) (changed_in w) e))) (same_entries w v r l)

  staying_below : Every (λ e. page_of e < w.state.end) (staying w)
  unfolding staying
  staying_below =
      every_map (λ e h. h.1.page_below) (staying w) (every_keep (λ e. not (retires (wait_of w) (open_tick w) (changed_in w) e)) (entries_of w) r.facts.each)

  same_after : after w ≡ after twin
  unfolding after
  same_after = λ i. put_all (same_fresh i) (same_staying i)

  after_below : Every (λ e. page_of e < w.state.end) (after w)
  unfolding after
  after_below = every_put (fresh_entries w) (staying w) fresh_below staying_below

  same_due : due_entries w ≡ due_entries twin
  unfolding due_entries changed_in
  same_due = ap (keep (is_due (wait_of w) (open_tick w) (changed_in w))) same_after

  due_below : Every (λ e. page_of e < w.state.end) (due_entries w)
  unfolding due_entries
  due_below = every_map (λ e h. h.1) (due_entries w) (every_keep (is_due (wait_of w) (open_tick w) (changed_in w)) (after w) after_below)

  -- the stores
  abbrev image_of : World → Entry → Store
  image_of u e = in_side (image_at s e.place) (bytes_in u (page_of e))

  abbrev base_of : World → Entry → Store
  base_of u e = in_base (page_of e * page_size w) (bytes_in u (page_of e))

  same_images : image_stores w ≡ image_stores twin
  unfolding image_stores
  same_images =
      map_same (image_of w) (image_of twin) (fresh_entries w) (every_map (λ e h. ap (in_side (image_at s e.place)) (same_bytes (page_of e) h)) (fresh_entries w) fresh_below)
      ∙ ap (map (image_of twin)) same_fresh

  same_pages : base_stores w ≡ base_stores twin
  unfolding base_stores
  same_pages =
      map_same (base_of w) (base_of twin) (due_entries w) (every_map (λ e h. ap (in_base (page_of e * page_size w)) (same_bytes (page_of e) h)) (due_entries w) due_below)
      ∙ ap (map (base_of twin)) same_due

  same_front : front_stores w ≡ front_stores twin
  unfolding front_stores
  same_front =
      ap (λ (es : List Entry). in_side header_length (index_bytes s (map indexed es)) ∷ in_side 0 (header_for s (open_tick w) w.state.end (map indexed es)) ∷ []) same_after

  same_stores : stores w ≡ stores twin
  unfolding stores
  same_stores = λ i. same_images i ++ (same_pages i ++ same_front i)

  -- the ledger
  same_place : (q : ℕ) → q < places s
      → place_after s (wait_of w) (open_tick w) (changed_in w) (entries_of w) w.ledger q ≡ place_after s (wait_of w) (open_tick w) (changed_in w) (entries_of twin) v.ledger q
  unfolding place_after
  same_place q h =
      λ i. if_then (any_of (λ e. at q e && retires (wait_of w) (open_tick w) (changed_in w) e) (same_entries w v r l i)) (retired_row (open_tick w))
      (if_then (same_retired w v r l q h i && not (Ages.reusable (wait_of w) (same_retired_at w v r l q h i) (open_tick w))) (same_row w v r l q h i) free_row)

  same_ledger : ledger_after w ≡ ledger_after twin
  unfolding ledger_after changed_in
  same_ledger =
      λ i. entry_bytes s (same_after i)
      ++ join (map_same (place_after s (wait_of w) (open_tick w) (changed_in w) (entries_of w) w.ledger) (place_after s (wait_of w) (open_tick w) (changed_in w) (entries_of twin) v.ledger)
      (below (places s)) (every_map (λ q h. same_place q (omega (arith, h.1))) (below (places s)) (every_from 0 (places s))) i)

  -- the closed worlds
  closed_alike : Alike (closed w) (closed twin)
  unfolding closed slot_bytes vacant page_at unmarked
  closed_alike =
      let n = l.lengths in
      record {
        state = λ i. set_closed (open_tick w) (set_entries (length (same_after i)) (set_slots (unmarked w.state.slots) w.state));
        lent = record {
          ledger_long = omega (arith, l.ledger_long, length_lay v.ledger 0 (ledger_after twin));
          lengths = record {
            base_long = omega (arith, n.base_long, length_to_base (stores twin) v.base);
            side_long = omega (arith, n.side_long, length_to_side (stores twin) v.side);
            buffer_long = n.buffer_long;
            kinds_long = n.kinds_long;
          };
          ledger =
              front_lay (ledger_length s) w.ledger v.ledger l.ledger 0 (ledger_after w)
              ∙ ap (λ (bs : List ℕ). take (ledger_length s) (lay v.ledger 0 bs)) same_ledger;
          base = base_front (base_length s) (stores w) w.base v.base l.base ∙ ap (λ (ss : List Store). take (base_length s) (to_base ss v.base)) same_stores;
          side = side_front (side_length s) (stores w) w.side v.side l.side ∙ ap (λ (ss : List Store). take (side_length s) (to_side ss v.side)) same_stores;
          kinds = l.kinds;
          buffer = l.buffer;
        };
      }

  same_suffices : suffices w ≡ suffices twin
  unfolding suffices changes changed_in
  same_suffices = λ i. leb (length (changes w)) (length (same_free i)) && leb (length (same_after i)) (entries s)

  pub both_close : Both (close_reply w) (close_reply twin)
  unfolding close_reply close_tests
  both_close =
      both_tested w v r l [] (accept (closed w) []) (accept (closed twin) []) (close_tests w) (close_tests twin) (next refl (λ a. next same_suffices (λ b. last)))
      (λ h. record { number = refl; bytes = refl; world = closed_alike })
