-- The copies of a close, one turn of their loops at a time: a page's bytes in the page buffer, an image and its checksum more, a
-- due page more. Assumes nothing.
use Rattle.std.proofs.Common.{ℕ, ◌+◌, ◌*◌, ◌<◌, ◌≤◌, ◌≡◌, refl, ◌∙◌, sym, ap, subst, Bool, true, false, List, [], ◌∷◌, ◌++◌, length, take, drop, get_or, arith, add-one, take-suc, take_all, length-take}
use Rattle.std.proofs.Math.Option.{Option, some, none}
use Rattle.std.proofs.Math.ListN.{set}
use Rattle.std.proofs.Math.Seq.{take-suc-set, get_or-take, length-take-le}
use Rattle.lists.specs.Below.{from, below}
use Rattle.lists.specs.laws.Maps.{map_append, every_get}
use Rattle.lists.specs.laws.Passes.{below_snoc}
use Rattle.lists.specs.Scans.{Every, keep}
use Rattle.lookup3.specs.Hash.{hashlittle}
use Rattle.octets.specs.Part.{part, lay}
use Rattle.octets.specs.Rows.{row}
use Rattle.octets.specs.laws.Rows.{row_in}
use Rattle.units.specs.inner.Pages.{numbers_of}
use Rattle.units.specs.laws.Bounds.{limits_within, pages_most}
use Rattle.units.specs.Sizes.{entry_row, limits, wait, places, image_at, buffer_length, side_length, base_length}
use Rattle.units.specs.declared.Page.{Page}
use Rattle.units.specs.declared.Place.{Place}
use Rattle.units.specs.declared.Settings.{Settings}
use Rattle.units.specs.declared.Tick.{Tick}
use Rattle.sidefile.specs.Encode.{image_sum, checksum}
use Rattle.slots.specs.inner.Lent.{table_of}
use Rattle.slots.specs.laws.Sits.{slot_found}
use Rattle.slots.specs.Table.{slot_of, page_at}
use Rattle.ledger.specs.Entries.{page_of}
use Rattle.ledger.specs.laws.Laid.{lay_each}
use Rattle.ledger.specs.laws.Read.{entry_next, every_row, entries_end}
use Rattle.ledger.specs.inner.Renewed.{is_due_now}
use Rattle.ledger.specs.View.{entry_of, entries_in}
use Rattle.ledger.specs.declared.Entry.{Entry}
use Rattle.recorder.specs.inner.Copies.{shown, images_laid, image_sums, due_laid}
use Rattle.recorder.specs.World.{World, slot_bytes, slot_for, bytes_at, bytes_in}
use Rattle.recorder.specs.declared.State.{State}

pub slots_few : (s : State) → limits s.settings ≡ true → s.settings.slots ≤ 16
slots_few s l = (limits_within s.settings l).slots_most

-- what the search for a page's slot gives
module _ (s : State) (p : ℕ) where
  module _ (i : ℕ) (e : some i ≡ slot_of s.settings.slots (table_of s.slots.pages []) p) where
    pub low : i * s.settings.size + s.settings.size ≤ s.settings.slots * s.settings.size
    low = row_in s.settings.size i s.settings.slots (slot_found s.settings.slots (table_of s.slots.pages []) p i (sym e)).0

    pub slot_within : (buffer : List ℕ) → buffer_length s.settings ≤ length buffer → i * s.settings.size + s.settings.size ≤ length buffer
    unfolding buffer_length
    slot_within buffer h = omega (arith, h, low)

    pub slot_most : limits s.settings ≡ true → i * s.settings.size + s.settings.size ≤ 65536
    slot_most l =
        let w = limits_within s.settings l in
        omega (arith, low, pages_most s.settings w s.settings.slots 16 w.slots_most)

    pub held_some : (buffer : List ℕ) (k : ℕ) → k ≡ s.settings.size → take k (drop (i * s.settings.size) buffer) ≡ bytes_in (shown s.settings s.slots.pages buffer) p
    unfolding bytes_in slot_for slot_of page_at slot_bytes row part
    held_some buffer k h = let a : 0 + i * s.settings.size ≡ i * s.settings.size = omega arith in rw (h, ← e, a)

  pub held_none : (buffer : List ℕ) → none ≡ slot_of s.settings.slots (table_of s.slots.pages []) p → [] ≡ bytes_in (shown s.settings s.slots.pages buffer) p
  unfolding bytes_in slot_for slot_of page_at
  held_none buffer e = rw (← e)

-- a page's bytes are at most a page long
module _ (s : State) (buffer : List ℕ) (p : ℕ) where
  pub held_short : length (bytes_in (shown s.settings s.slots.pages buffer) p) ≤ s.settings.size
  unfolding bytes_in slot_bytes row part
  held_short = go (slot_for (shown s.settings s.slots.pages buffer) p)
    where
      go : (o : Option ℕ) → length (bytes_at (shown s.settings s.slots.pages buffer) o) ≤ s.settings.size
      go none = omega arith
      go (some i) = simp length-take (omega arith)

-- where they are copied to: place q of the side file, page k of the base
module _ (s : State) (buffer : List ℕ) (p : ℕ) (bytes : List ℕ) (e : bytes ≡ bytes_in (shown s.settings s.slots.pages buffer) p) where
  pub place_in : (xs : List ℕ) (at : ℕ) (q : Place) → at ≡ image_at s.settings q → side_length s.settings ≤ length xs → q.0 < places s.settings → at + length bytes ≤ length xs
  unfolding side_length image_at
  place_in xs at q a h b = omega (arith, ap length e, held_short s buffer p, row_in s.settings.size q.0 (places s.settings) b)

  -- over the page of row i
  pub page_in : (xs : List ℕ) (n : ℕ) (ledger : List ℕ) (i : ℕ) (e : Entry) → page_of e ≡ p → e ≡ entry_of (row 0 entry_row i ledger) → i < n
      → Every (λ e. page_of e < s.settings.capacity) (entries_in n ledger) → base_length s.settings ≤ length xs → page_of e * s.settings.size + length bytes ≤ length xs
  unfolding base_length
  page_in xs n ledger i x q r l h b =
      let low : page_of x < s.settings.capacity = rw r (every_row n ledger i l h) in
      omega (arith, ap length e, held_short s buffer p, row_in s.settings.size (page_of x) s.settings.capacity low)

-- all of a list is a part of it
part_whole : (xs : List ℕ) → part xs 0 (length xs) ≡ xs
unfolding part
part_whole xs = take_all (length xs) xs (omega arith)

-- one more thing laid
each_snoc : {A : Type 0} (at : A → ℕ) (b : A → List ℕ) (l : List A) (x : A) (xs : List ℕ) → lay_each at b (l ++ (x ∷ [])) xs ≡ lay (lay_each at b l xs) (at x) (b x)
unfolding lay_each
each_snoc at b [] x xs = refl
each_snoc at b (y ∷ l) x xs = each_snoc at b l x (lay xs (at y) (b y))

-- the image of page j laid at its place
module _ (w : World) (pages : List Page) (places' : List Place) where
  pub images_none : (xs : List ℕ) → xs ≡ images_laid w pages places' 0 xs
  unfolding images_laid lay_each from
  images_none xs = refl

  pub images_next : (j : ℕ) (xs ys zs : List ℕ) → ys ≡ images_laid w pages places' j xs
      → (at : ℕ) → at ≡ image_at w.state.settings (get_or places' j (record { 0 = 0 }))
      → (bytes : List ℕ) → bytes ≡ bytes_in w (get_or pages j (record { 0 = 0 })).0
      → zs ≡ lay ys at (part bytes 0 (length bytes)) → zs ≡ images_laid w pages places' (j + 1) xs
  unfolding images_laid
  images_next j xs ys zs y at a bytes b z = z ∙ rw (y, a, part_whole bytes, b, below_snoc j) (sym (each_snoc _ _ (below j) j xs))

-- the checksum of one page more
module _ (w : World) (pages : List Page) (sums : List ℕ) where
  pub sums_none : [] ≡ image_sums w []
  unfolding image_sums
  sums_none = refl

  pub sums_next : (j v : ℕ) → take j sums ≡ image_sums w (numbers_of j pages) → j < length sums → j < length pages
      → (bytes : List ℕ) → bytes ≡ bytes_in w (get_or pages j (record { 0 = 0 })).0 → v ≡ hashlittle bytes 0
      → take (j + 1) (set sums j v) ≡ image_sums w (numbers_of (j + 1) pages)
  unfolding image_sums image_sum checksum
  sums_next j v i h k bytes b e =
      rw (add-one j, take-suc-set sums j v h, take-suc pages j (record { 0 = 0 }) k, i, e, b)
      (simp map_append)

-- place j is among the first k
pub place_get : {P : Place → Type 0} (k : ℕ) (l : List Place) (j : ℕ) → j < k → k ≤ length l → Every P (take k l) → P (get_or l j (record { 0 = 0 }))
place_get {P} k l j h m e = subst P (get_or-take k l j _ h) (every_get _ j (take k l) (rw (length-take-le k l m) h) e)

-- row i, read and judged
pub record Row (s : Settings) (N : Tick) (n : ℕ) (ledger : List ℕ) (i : ℕ) (e : Entry) (due : Bool) : Type 0 where
  pub below : i < n
  pub read : e ≡ entry_of (row 0 entry_row i ledger)
  pub judged : due ≡ is_due_now (wait s) N e

-- what the rows from i on still lay over the base: row i lays its page, or is not due
module _ (s : State) (buffer : List ℕ) (N : Tick) (n : ℕ) (ledger : List ℕ) where
  abbrev from_row : ℕ → List ℕ → List ℕ
  from_row i xs = due_laid (shown s.settings s.slots.pages buffer) N (drop i (entries_in n ledger)) xs

  module _ {i : ℕ} {e : Entry} {due : Bool} (r : Row s.settings N n ledger i e due) (xs ys : List ℕ) where
    seen : drop i (entries_in n ledger) ≡ e ∷ drop (i + 1) (entries_in n ledger)
    seen = entry_next n ledger i r.below ∙ ap (λ (x : Entry). x ∷ drop (i + 1) (entries_in n ledger)) (sym r.read)

    pub due_next : due ≡ true → (bytes : List ℕ) → bytes ≡ bytes_in (shown s.settings s.slots.pages buffer) (page_of e)
        → ys ≡ lay xs (page_of e * s.settings.size) (part bytes 0 (length bytes)) → from_row (i + 1) ys ≡ from_row i xs
    unfolding due_laid keep lay_each
    due_next c bytes b y = rw (y, part_whole bytes, b, seen, sym r.judged ∙ c)

    pub due_skip : due ≡ false → ys ≡ xs → from_row (i + 1) ys ≡ from_row i xs
    unfolding due_laid keep
    due_skip c y = rw (y, seen, sym r.judged ∙ c)

  pub due_end : (i : ℕ) → n ≤ i → (xs : List ℕ) → from_row i xs ≡ xs
  unfolding due_laid keep lay_each
  due_end i h xs = rw (entries_end n ledger i h)

-- what the functions of stores name: of the slot of a page, of the images, of the due pages
pub ruleset seats = (slots_few, slot_within, slot_most, held_some, held_none)

pub ruleset images = (place_in, place_get, images_none, images_next, sums_none, sums_next)

pub ruleset dues = (due_next, due_skip, due_end)
