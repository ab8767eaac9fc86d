-- What carries demand 3. Good w: what every world reached by an open and any calls has. Kept w₀ w: what a close at w₀ still
-- has at w, some ticks later. Quiet w v: what a read, a write or a grow leaves alone.
use Rattle.std.specs.Prelude.{ℕ, ◌<◌, ◌≤◌, ◌≡◌, List, map, ◌++◌, true, false, ◌⊎◌, length}
use Rattle.std.proofs.Math.Option.{Option, some, none}
use Rattle.lists.specs.Scans.{Every, any_of}
use Rattle.octets.specs.Part.{part}
use Rattle.units.specs.Sizes.{index_end}
use Rattle.sidefile.specs.Encode.{image_sum, header_for, index_bytes}
use Rattle.slots.specs.Table.{page_at, vacant, changed_at}
use Rattle.ledger.specs.Entries.{page_of, place_of, has, at, find, is_owed}
use Rattle.ledger.specs.View.{indexed, retired, retired_at}
use Rattle.ledger.specs.declared.Entry.{Entry}
use Rattle.recorder.specs.World.{World, slot_count, wait_of, entries_of, kind_of, slot_bytes, base_bytes, image_bytes, slot_for}
use Rattle.recorder.specs.laws.Facts.{Ruled}

-- the bytes that a desk with this world's index reads for a page: its entry's image, else the base
abbrev pub view_by : World → ℕ → Option Entry → List ℕ
view_by w p none = base_bytes w p
view_by w p (some e) = image_bytes w (place_of e)

unfoldable pub view : World → ℕ → List ℕ
view w p = view_by w p (find p (entries_of w))

-- the bytes that a metadata page has for the recorder: its slot's, else the base's
abbrev pub has_by : World → ℕ → Option ℕ → List ℕ
has_by w p none = base_bytes w p
has_by w p (some i) = slot_bytes w i

unfoldable pub contents : World → ℕ → List ℕ
contents w p = has_by w p (slot_for w p)

-- header and index of a world's side file, when e was `end` at its last close
abbrev pub front_at : World → ℕ → List ℕ
front_at w end =
    header_for w.state.settings w.state.closed end (map indexed (entries_of w)) ++ index_bytes w.state.settings (map indexed (entries_of w))

pub record Good (w : World) : Type 0 where
  pub ruled : Ruled w
  pub two : (p : ℕ) → p < w.state.end → kind_of w p < 2
  -- e at the last close, or at open; header and index are those of that close
  pub ending : ℕ
  pub ended : ending ≤ w.state.end
  pub front : part w.side 0 (index_end w.state.settings) ≡ front_at w ending
  pub early : Every (λ e. page_of e < ending) (entries_of w)
  -- an entry's checksum is that of its image
  pub sums : Every (λ e. image_sum e.page (image_bytes w (place_of e)) ≡ e.sum) (entries_of w)
  -- a slot that is not changed has what a desk would read
  pub slots : (i : ℕ) → i < slot_count w → vacant w.state.slots i ≡ false → changed_at w.state.slots i ≡ false
      → slot_bytes w i ≡ view w (page_at w.state.slots i)
  -- an entry that is not owed any more has its image in the base as well
  pub written : Every (λ e. is_owed (wait_of w) w.state.closed e ≡ false → image_bytes w (place_of e) ≡ base_bytes w (page_of e)) (entries_of w)
  -- a metadata page that came after the last close is changed, in a slot
  pub newer : (p : ℕ) → ending ≤ p → p < w.state.end → kind_of w p ≡ 0 → (i : ℕ) × ((slot_for w p ≡ some i) × (changed_at w.state.slots i ≡ true))

-- a place that a desk of tick t may still read: an entry holds it, or it was retired after t
abbrev pub Guarded : ℕ → World → ℕ → Type 0
Guarded t w q =
    (any_of (at q) (entries_of w) ≡ true)
    ⊎ ((retired w.state.settings w.ledger q ≡ true) × (t < (retired_at w.state.settings w.ledger q).0))

pub record Kept (w₀ w : World) : Type 0 where
  pub same : w.state.settings ≡ w₀.state.settings
  pub since : w₀.state.closed.0 ≤ w.state.closed.0
  pub ends : w₀.state.end ≤ w.state.end
  pub kinds : (p : ℕ) → p < w₀.state.end → kind_of w p ≡ kind_of w₀ p
  -- each place that an entry held then: its bytes are as they were, and nobody else gets it yet
  pub images : (q : ℕ) → any_of (at q) (entries_of w₀) ≡ true → image_bytes w q ≡ image_bytes w₀ q
  pub places : (q : ℕ) → any_of (at q) (entries_of w₀) ≡ true → Guarded w₀.state.closed.0 w q
  -- each metadata page that had no entry then: the base's page is as it was, and an entry for it entered later
  pub pages : (p : ℕ) → p < w₀.state.end → kind_of w₀ p ≡ 0 → any_of (has p) (entries_of w₀) ≡ false → base_bytes w p ≡ base_bytes w₀ p
  pub entered : (p : ℕ) → p < w₀.state.end → kind_of w₀ p ≡ 0 → any_of (has p) (entries_of w₀) ≡ false
      → Every (λ e. page_of e ≡ p → w₀.state.closed.0 < e.entered.0) (entries_of w)
  pub base_length_lem : length w.base ≡ length w₀.base
  pub side_length_lem : length w.side ≡ length w₀.side

pub record Quiet (w v : World) : Type 0 where
  pub settings : v.state.settings ≡ w.state.settings
  pub closed : v.state.closed ≡ w.state.closed
  pub count : v.state.entries ≡ w.state.entries
  pub ledger : v.ledger ≡ w.ledger
  pub side : v.side ≡ w.side
  pub end : w.state.end ≤ v.state.end
  pub kinds : (p : ℕ) → p < w.state.end → kind_of v p ≡ kind_of w p
  pub pages : (p : ℕ) → p < w.state.end → kind_of w p ≡ 0 → base_bytes v p ≡ base_bytes w p
  pub base_length_lem : length v.base ≡ length w.base
