-- A planned close carried out: its arrays are the new entries, the ledger can be renewed by them, and what is copied and
-- written is what the close is defined to store. Assumes nothing.
use Rattle.std.proofs.Common.{ℕ, ◌+◌, ◌*◌, ◌<◌, ◌≤◌, ◌≡◌, refl, ◌∙◌, sym, ap, true, List, [], ◌∷◌, map, length, take, arith}
use Rattle.std.proofs.Math.Option.{Option, some, none}
use Rattle.lists.specs.Below.{below}
use Rattle.lists.specs.laws.Below.{every_from}
use Rattle.lists.specs.laws.Maps.{every_take}
use Rattle.lists.specs.Scans.{Every, done, more}
use Rattle.lists.specs.laws.Scans.{head, tail, every_map, every_keep}
use Rattle.octets.specs.inner.Flags.{flags}
use Rattle.octets.specs.Number.{Octets}
use Rattle.octets.specs.Part.{lay}
use Rattle.octets.specs.laws.Part.{length_lay}
use Rattle.units.specs.laws.Bounds.{Within, limits_within, entries_most, places_most, first_image_least}
use Rattle.units.specs.Sizes.{top, entry_row, header_length, limits, entries, places, index_end, side_length, places_at, ledger_length}
use Rattle.units.specs.inner.Pages.{numbers_of}
use Rattle.units.specs.declared.Place.{Place}
use Rattle.units.specs.declared.Tick.{Tick}
use Rattle.sidefile.specs.laws.Decode.{checksum_below}
use Rattle.sidefile.specs.Encode.{image_sum, header_for, index_bytes}
use Rattle.slots.specs.Table.{to_page, slot_of, page_at}
use Rattle.ledger.specs.laws.Closes.{fresh_arrays, later_in_lem, renewed_later, renews, due_now}
use Rattle.ledger.specs.laws.Closing.{new_of, every_later, small_new, small_later, length_fresh}
use Rattle.ledger.specs.Entries.{page_of, put_all}
use Rattle.ledger.specs.inner.Flagged.{others}
use Rattle.ledger.specs.laws.Laid.{lay_each}
use Rattle.ledger.specs.inner.Renewed.{fresh_at, fresh_of, Puts, Settles, Renews, later_in, settled, renewed}
use Rattle.ledger.specs.laws.Rowed.{Small, small_entries_in}
use Rattle.ledger.specs.laws.Settled.{settles, settled_puts, settled_renewed}
use Rattle.ledger.specs.laws.Guarded.{later_read}
use Rattle.ledger.specs.laws.Written.{rows_of}
use Rattle.ledger.specs.View.{indexed, entries_in}
use Rattle.ledger.specs.declared.Entry.{Entry}
use Rattle.recorder.specs.inner.Carried.{Carries, Carried}
use Rattle.recorder.specs.Close.{open_tick, changes, free_places, given, fresh_entries, staying, after, front_stores, to_side, ledger_after, closed}
use Rattle.recorder.specs.laws.Closed.{closing_of, fresh_new, after_later, due_of_lem, enough}
use Rattle.recorder.specs.laws.Facts.{RuleFacts, rule_facts}
use Rattle.recorder.specs.inner.Copies.{shown, images_laid, image_sums, due_laid}
use Rattle.recorder.specs.laws.Stored.{image_start, held_bytes, imaged, front_laid, side_stored, base_stored}
use Rattle.recorder.specs.declared.plan.Plan.{Plan}
use Rattle.recorder.specs.World.{World, slot_count, entries_of, slot_bytes, slot_for, bytes_at, bytes_in}

each_map : {A B : Type 0} (at : B → ℕ) (b : B → List ℕ) (g : A → B) (l : List A) (xs : List ℕ) → lay_each at b (map g l) xs ≡ lay_each (λ x. at (g x)) (λ x. b (g x)) l xs
unfolding lay_each
each_map at b g [] xs = refl
each_map at b g (x ∷ l) xs = each_map at b g l (lay xs (at (g x)) (b (g x)))

-- what holds of the numbers of places holds of the places
every_number : {P : ℕ → Type 0} (l : List Place) → Every P (map (λ q. q.0) l) → Every (λ q. P q.0) l
every_number [] e = done
every_number (q ∷ l) e = more (head e) (every_number l (tail e))

-- what the copies look at
abbrev pub held : World → World
held w = shown w.state.settings w.state.slots.pages w.buffer

held_same : (w : World) → bytes_in (held w) ≡ bytes_in w
unfolding bytes_in slot_for slot_of page_at slot_bytes
held_same w = λ i p. one (slot_of (slot_count w) w.state.slots p) i
  where
    one : (o : Option ℕ) → bytes_at (held w) o ≡ bytes_at w o
    one none = refl
    one (some j) = refl

-- the new entries of a plan with these checksums
abbrev pub fresh_for : Tick → Plan → List ℕ → List Entry
fresh_for N p sums = fresh_of N p.pages p.places sums p.entered p.count

-- what is known once the checksums are there: the ledger is of bytes, and these are the checksums of the new images
pub record Summed (w : World) (N : Tick) (p : Plan) (sums : List ℕ) : Type 0 where
  pub carries : Carries w N p
  pub octets : Octets w.ledger
  pub made : take p.count sums ≡ image_sums (held w) (numbers_of p.count p.pages)

-- once the rows that are going have left the ledger: how many stay, and its bytes
pub record Left (w : World) (N : Tick) (p : Plan) (kept : ℕ) (ledger : List ℕ) : Type 0 where
  pub count : kept ≡ length (others (flags p.going) (entries_in w.state.entries w.ledger))
  pub bytes : ledger ≡ lay w.ledger 0 (settled w.state.settings w.ledger w.state.entries (flags p.going) N)

-- and once it is renewed: how many entries there are, and its bytes
pub record Anew (w : World) (N : Tick) (p : Plan) (sums : List ℕ) (n : ℕ) (ledger : List ℕ) : Type 0 where
  pub summed : Summed w N p sums
  pub count : n ≡ length (later_in w.ledger w.state.entries (flags p.going) (fresh_for N p sums))
  pub bytes : ledger ≡ lay w.ledger 0 (renewed w.state.settings w.ledger w.state.entries (flags p.going) (fresh_for N p sums) N)

module _ {w : World} {N : Tick} {p : Plan} (k : Carries w N p) where
  facts : RuleFacts w
  facts = rule_facts w k.closes.plans.0

  ticked : N ≡ open_tick w
  ticked = k.closes.plans.1

  pub limited : limits w.state.settings ≡ true
  limited = facts.limited

  within : Within w.state.settings
  within = limits_within w.state.settings limited

  room : (length (changes w) ≤ length (free_places w)) × (length (after w) ≤ entries w.state.settings)
  room = enough w k.enough

  -- rows can leave the ledger, and there are flags for them
  pub can_settle : Settles w.state.settings w.ledger w.state.entries
  unfolding entries_of
  can_settle =
      settles w.state.settings w.ledger w.state.entries limited facts.ledger_long facts.counted
      (every_map (λ e f. f.place_below) (entries_of w) facts.each)

  pub rows_few : w.state.entries ≤ 144
  rows_few = omega (arith, facts.counted, entries_most w.state.settings within)

  -- the images go into places
  pub places_below : Every (λ q. q.0 < places w.state.settings) (take p.count p.places)
  unfolding free_places
  places_below =
      every_number (take p.count p.places)
      (rw (k.planned.placed k.enough)
      (every_take p.count (free_places w)
      (every_map (λ q h. omega (arith, h.1.1)) (free_places w)
      (every_keep _ (below (places w.state.settings)) (every_from 0 (places w.state.settings))))))

  -- the numbers of entries have 32 bits
  sums_small : (q : ℕ) → image_sum (to_page q) (bytes_in w q) ≤ top
  unfolding image_sum
  sums_small q = omega (arith, checksum_below (bytes_in w q))

  end_small : w.state.end ≤ top
  end_small = omega (arith, facts.ended, within.capacity_most)

  places_small : places w.state.settings ≤ top
  places_small = omega (arith, places_most w.state.settings within)

module _ {w : World} {N : Tick} {p : Plan} {sums : List ℕ} (m : Summed w N p sums) where
  k : Carries w N p
  k = m.carries

  fresh_made : fresh_for N p sums ≡ new_of (closing_of w)
  unfolding fresh_entries given image_sums
  fresh_made =
      rw (ticked k)
      (fresh_arrays (open_tick w) (entries_of w) (λ q. image_sum (to_page q) (bytes_in w q)) (changes w) (free_places w) p.pages p.places sums p.entered p.count
      (sym k.planned.counted) (room k).0 k.planned.changed (k.planned.placed k.enough)
      (m.made ∙ rw (k.planned.changed, held_same w)) k.planned.came
      ∙ fresh_new w)

  made_count : length (new_of (closing_of w)) ≡ p.count
  unfolding changes free_places
  made_count =
      length_fresh (open_tick w) (entries_of w) (λ q. image_sum (to_page q) (bytes_in w q)) (changes w) (free_places w) (room k).0 ∙ sym k.planned.counted

  smalls : Every Small (entries_of w)
  unfolding entries_of
  smalls = small_entries_in w.state.entries w.ledger m.octets

  -- the ledger can be renewed
  can_renew : Renews w.state.settings w.ledger w.state.entries (flags p.going) (fresh_for N p sums) p.count
  unfolding entries_of
  can_renew =
      rw fresh_made
      (renews (closing_of w) w.state.entries refl (flags p.going) k.planned.gone (can_settle k) (facts k).ascends p.count k.planned.most made_count (rw (← after_later w) (room k).1)
      (small_new (closing_of w) (omega (arith, k.closes.low)) (end_small k) (places_small k) (sums_small k) smalls))

  -- and is, by new entries put in once the others have left it
  module _ {kept : ℕ} {ledger : List ℕ} (l : Left w N p kept ledger) where
    count_made : length (fresh_for N p sums) ≡ p.count
    count_made = ap length fresh_made ∙ made_count

    pub can_put : Puts ledger kept (fresh_for N p sums) p.count
    can_put =
        settled_puts w.state.settings w.ledger w.state.entries (flags p.going) N (fresh_for N p sums) p.count can_renew m.octets count_made ledger l.bytes kept l.count

    pub put_anew : (n : ℕ) → n ≡ kept + p.count → (ledger' : List ℕ) → ledger' ≡ lay ledger 0 (rows_of (put_all (fresh_for N p sums) (entries_in kept ledger))) → Anew w N p sums n ledger'
    put_anew n c ledger' b =
        let d =
        settled_renewed w.state.settings w.ledger w.state.entries (flags p.going) N (fresh_for N p sums) p.count can_renew m.octets count_made ledger l.bytes kept l.count in
        record { summed = m; count = c ∙ d.0; bytes = b ∙ d.1 }

  images_made : images_laid (held w) p.pages p.places p.count w.side ≡ imaged w
  unfolding images_laid fresh_of fresh_at
  images_made =
      rw (held_same w)
      (sym (each_map (image_start w) (held_bytes w) (fresh_at N p.pages p.places sums p.entered) (below p.count) w.side)
      ∙ ap (λ (es : List Entry). lay_each (image_start w) (held_bytes w) es w.side) (fresh_made ∙ sym (fresh_new w)))

module _ {w : World} {N : Tick} {p : Plan} {sums : List ℕ} {n : ℕ} {ledger : List ℕ} (r : Anew w N p sums n ledger) where
  c : Carries w N p
  c = r.summed.carries

  count_after : n ≡ length (after w)
  unfolding entries_of
  count_after =
      r.count ∙ rw (fresh_made r.summed) (ap length (later_in_lem (closing_of w) w.state.entries refl (flags p.going) c.planned.gone)) ∙ ap length (sym (after_later w))

  ledger_after_lem : ledger ≡ (closed w).ledger
  unfolding entries_of closed ledger_after after fresh_entries given changes free_places staying
  ledger_after_lem =
      r.bytes
      ∙ rw (fresh_made r.summed, ticked c) (renewed_later (closing_of w) w.state.entries refl (flags p.going) c.planned.gone (places_most w.state.settings (within c)))

  read_after : entries_in n ledger ≡ after w
  unfolding closed ledger_after after fresh_entries given changes free_places staying
  read_after =
      rw (count_after, ledger_after_lem)
      (later_read (closing_of w) (facts c).ledger_long (rw (← after_later w) (room c).1)
      (small_later (closing_of w) (omega (arith, c.closes.low)) (end_small c) (places_small c) (sums_small c) (smalls r.summed)))

  pub few_after : n ≤ entries w.state.settings
  few_after = omega (arith, count_after, (room c).1)

  -- it has 32 bits
  pub fits_after : n < 4294967296
  fits_after = omega (arith, few_after, entries_most w.state.settings (within c))

  pub long_after : n * entry_row ≤ length ledger
  unfolding ledger_length places_at
  long_after =
      omega (arith, few_after, (facts c).ledger_long, ap length r.bytes, length_lay w.ledger 0 (renewed w.state.settings w.ledger w.state.entries (flags p.going) (fresh_for N p sums) N))

  pub pages_after : Every (λ e. page_of e < w.state.settings.capacity) (entries_in n ledger)
  pages_after =
      rw (read_after, after_later w)
      (every_later (closing_of w) (λ e x. omega (arith, x.page_below, (facts c).ended)) (every_map (λ e f. omega (arith, f.page_below, (facts c).ended)) (entries_of w) (facts c).each))

  -- the front of the side file fits, whatever was laid over it
  pub front_in : (side : List ℕ) → length side ≡ length w.side → index_end w.state.settings ≤ length side
  unfolding side_length
  front_in side e = omega (arith, c.closes.side_long, first_image_least w.state.settings (within c))

  -- the two files
  base_after : due_laid (held w) N (entries_in n ledger) w.base ≡ (closed w).base
  unfolding due_laid
  base_after =
      rw (
        read_after,
        ticked c,
        held_same w,
        after_later w,
        due_now (closing_of w) (facts c).ascends (facts c).alone (every_map (λ e f. f.changed_before) (entries_of w) (facts c).each),
        ← due_of_lem w,
      )
      (sym (base_stored w))

  side_after : (side : List ℕ) → side ≡ images_laid (held w) p.pages p.places p.count w.side
      → lay (lay side header_length (index_bytes w.state.settings (map indexed (entries_in n ledger)))) 0 (header_for w.state.settings N w.state.end (map indexed (entries_in n ledger)))
      ≡ (closed w).side
  unfolding front_stores to_side
  side_after side e = rw (e, images_made r.summed, read_after, ticked c) (front_laid w (imaged w) ∙ sym (side_stored w))

  -- all of it is the close
  pub carried : (base : List ℕ) → base ≡ due_laid (held w) N (entries_in n ledger) w.base
      → (imaged' : List ℕ) → imaged' ≡ images_laid (held w) p.pages p.places p.count w.side
      → (side : List ℕ)
      → side ≡ lay (lay imaged' header_length (index_bytes w.state.settings (map indexed (entries_in n ledger)))) 0 (header_for w.state.settings N w.state.end (map indexed (entries_in n ledger)))
      → Carried w n ledger base side
  carried base b imaged' g side s = (count_after, ledger_after_lem, b ∙ base_after, s ∙ side_after imaged' g)
