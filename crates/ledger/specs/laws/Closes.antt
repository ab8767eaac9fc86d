-- What the code of a close makes is what the definitions ask for: arrays are lists, flags are tests, tables are scans. A proof
-- about a close cites these laws of `Closing` and looks no further. Assumes nothing.
use Rattle.std.specs.Prelude.{ℕ, ◌+◌, ◌<◌, ◌≤◌, ◌≡◌, refl, true, false, ◌⊎◌, eqb, length, take, get_or}
use Rattle.std.proofs.Common.{◌∙◌, sym, inl, inr, arith, get_or-take, length-take-le, ext_get_or, eq-eqb, ne_eqb}
use Rattle.std.proofs.Math.Path.{ap}
use Rattle.std.proofs.Math.Bool.{Bool}
use mathlib.Core.List.{List, map}
use Rattle.std.proofs.lemmas.List.{length-map}
use Rattle.lists.specs.Below.{below, zip}
use Rattle.lists.specs.laws.Below.{length_from, get_from, every_from}
use Rattle.lists.specs.laws.Maps.{get_map, get_zip, map_same, keep_same}
use Rattle.lists.specs.Scans.{Every, keep, any_of}
use Rattle.lists.specs.laws.Scans.{every_map, any_keep}
use Rattle.octets.specs.Part.{lay}
use Rattle.units.specs.Ages as Ages
use Rattle.units.specs.Sizes.{entries, places}
use Rattle.units.specs.declared.Page.{Page}
use Rattle.units.specs.declared.Place.{Place}
use Rattle.units.specs.declared.Tick.{Tick}
use Rattle.units.specs.inner.Pages.{numbers_of}
use Rattle.sidefile.specs.Judge.{ascending, apart}
use Rattle.ledger.specs.declared.Entry.{Entry}
use Rattle.ledger.specs.View.{indexed, entries_in}
use Rattle.ledger.specs.Entries.{page_of, at, find, is_due, place_after, put_all, entered_or, fresh}
use Rattle.ledger.specs.laws.Rowed.{Small, length_entries_in}
use Rattle.ledger.specs.inner.Placed.{given_up}
use Rattle.ledger.specs.laws.Ordered.{length_put}
use Rattle.ledger.specs.laws.Aged.{stay_split}
use Rattle.ledger.specs.laws.Closing.{Closing, now, wait_of, gives, new_of, stays_of, later_of, IsNew, IsStay, asc_new, new_pages, later_facts, length_fresh}
use Rattle.ledger.specs.laws.Due.{due_in, due_of}
use Rattle.ledger.specs.laws.Guarded.{ledger_later}
use Rattle.ledger.specs.inner.Changed.{entry_ticks}
use Rattle.ledger.specs.inner.Numbers.{place_numbers, number_at}
use Rattle.ledger.specs.inner.Flagged.{picked, others, picked_keep, others_keep}
use Rattle.ledger.specs.inner.Tables.{held_by, row_after, rows_after, row_after_lem, table_get}
use Rattle.ledger.specs.inner.Renewed.{fresh_at, fresh_of, Settles, Renews, later_in, places_later, renewed, is_due_now}

-- Arrays of new entries.

-- the pages, their places, the checksums of their images and their entry ticks make the new entries of these pages and places
pub fresh_arrays : (N : Tick) (es : List Entry) (sum : ℕ → ℕ) (cs qs : List ℕ) (pages : List Page) (given : List Place) (sums : List ℕ) (entered : List Tick) (k : ℕ)
    → length cs ≡ k → length cs ≤ length qs → numbers_of k pages ≡ cs → place_numbers k given ≡ take k qs → take k sums ≡ map sum cs → take k entered ≡ entry_ticks N es cs
    → fresh_of N pages given sums entered k ≡ map (fresh N es sum) (zip cs qs)
unfolding fresh_of fresh_at fresh entry_ticks
fresh_arrays N es sum cs qs pages given sums entered k c m p q s t =
    ext_get_or (new 0) (map new (below k)) (map (fresh N es sum) (zip cs qs))
    (len ∙ sym c ∙ sym (length_fresh N es sum cs qs m))
    (λ i h. one i (omega (arith, len)))
  where
    new : ℕ → Entry
    new = fresh_at N pages given sums entered

    len : length (map new (below k)) ≡ k
    len = length-map (below k) new ∙ length_from 0 k

    taken : {A : Type 0} (d : A) (l xs : List A) → take k l ≡ xs → (i : ℕ) → i < k → get_or l i d ≡ get_or xs i d
    taken {A} d l xs e i h = sym (get_or-take k l i d h) ∙ ap (λ (r : List A). get_or r i d) e

    one : (i : ℕ) → i < k → get_or (map new (below k)) i (new 0) ≡ get_or (map (fresh N es sum) (zip cs qs)) i (new 0)
    one i h =
        let page : (get_or pages i (record { 0 = 0 })).0 ≡ get_or cs i 0 =
        sym (number_at (λ x. x.0) k pages (record { 0 = 0 }) i (rw (p, c) h)) ∙ ap (λ (l : List ℕ). get_or l i 0) p in
        let place : (get_or given i (record { 0 = 0 })).0 ≡ get_or qs i 0 =
        sym (number_at (λ x. x.0) k given (record { 0 = 0 }) i (rw (q, length-take-le k qs (omega arith)) h)) ∙ ap (λ (l : List ℕ). get_or l i 0) q ∙ get_or-take k qs i 0 h in
        let total : get_or sums i 0 ≡ sum (get_or cs i 0) = taken 0 sums (map sum cs) s i h ∙ get_map sum 0 0 i cs (omega arith) in
        let came : get_or entered i (record { 0 = 0 }) ≡ entered_or N (find (get_or cs i 0) es) =
        taken (record { 0 = 0 }) entered (entry_ticks N es cs) t i h ∙ get_map (λ x. entered_or N (find x es)) 0 (record { 0 = 0 }) i cs (omega arith) in
        let z : 0 + i ≡ i = omega arith in
        get_from new (new 0) 0 k i h ∙ ap new z
        ∙ (λ j. record { page = record { 0 = page j }; place = record { 0 = place j }; changed = N; sum = total j; entered = came j })
        ∙ sym (get_zip (fresh N es sum) (new 0) i cs qs (omega arith) (omega arith))

-- The ledger of a close.

-- the flags of the rows say which entries give up their places
module _ (c : Closing) (n : ℕ) (old : c.old ≡ entries_in n c.ledger) (going : List Bool) (g : take n going ≡ map (gives c) c.old) where
  flags : take (length c.old) going ≡ map (gives c) c.old
  flags = ap (λ (k : ℕ). take k going) (ap length old ∙ length_entries_in n c.ledger) ∙ g

  pub others_stay : others going (entries_in n c.ledger) ≡ stays_of c
  others_stay = ap (others going) (sym old) ∙ others_keep (gives c) going c.old flags

  pub later_in_lem : later_in c.ledger n going (new_of c) ≡ later_of c
  unfolding later_in
  later_in_lem = ap (put_all (new_of c)) others_stay

  held_given : (q : ℕ) → any_of (at q) (picked going (entries_in n c.ledger)) ≡ given_up (wait_of c) (now c) c.changed_in c.old q
  held_given q = ap (λ (l : List Entry). any_of (at q) l) (ap (picked going) (sym old) ∙ picked_keep (gives c) going c.old flags) ∙ any_keep (at q) (gives c) c.old

  pub renewed_later : places c.settings ≤ 272 → lay c.ledger 0 (renewed c.settings c.ledger n going (new_of c) (now c)) ≡ ledger_later c
  unfolding renewed places_later rows_after
  renewed_later m =
      rw (
        later_in_lem,
        map_same (rows_after c.settings (now c) held c.ledger) (place_after c.settings (wait_of c) (now c) c.changed_in c.old c.ledger) (below (places c.settings))
            (every_map (λ q h. one q (omega arith)) (below (places c.settings)) (every_from 0 (places c.settings))),
      )
    where
      held : List Bool
      held = held_by (picked going (entries_in n c.ledger))

      one : (q : ℕ) → q < 272 → row_after c.settings (wait_of c) (now c) (get_or held q false) c.ledger q ≡ place_after c.settings (wait_of c) (now c) c.changed_in c.old c.ledger q
      one q h =
          ap (λ (b : Bool). row_after c.settings (wait_of c) (now c) b c.ledger q) (table_get (λ k. any_of (at k) (picked going (entries_in n c.ledger))) q h ∙ held_given q)
          ∙ row_after_lem c.settings (wait_of c) (now c) c.changed_in c.old c.ledger q

  -- the ledger can be renewed
  pub renews : Settles c.settings c.ledger n → ascending 0 (map indexed c.old) ≡ true → (count : ℕ) → count ≤ 16 → length (new_of c) ≡ count
      → length (later_of c) ≤ entries c.settings → Every Small (new_of c) → Renews c.settings c.ledger n going (new_of c) count
  renews settles a count most k room small =
      record {
        settles = settles;
        ascends = rw (← old) a;
        most = most;
        room = rw others_stay (omega (arith, length_put (new_of c) (stays_of c)));
        small = small;
        rising = asc_new c;
        alone = rw others_stay (new_pages c);
      }

-- Which entries go to the base: those after a close changed in it just when their last change is its tick.

pub due_now : (c : Closing) → ascending 0 (map indexed c.old) ≡ true → apart (map indexed c.old) ≡ true → Every (λ e. e.changed.0 ≤ c.closed.0) c.old
    → keep (is_due_now (wait_of c) (now c)) (later_of c) ≡ due_of c
unfolding is_due_now is_due
due_now c a b old = keep_same (is_due_now (wait_of c) (now c)) (due_in c) (later_of c) (every_map one (later_of c) (later_facts c a b old))
  where
    by : (e : Entry) (b : Bool) → eqb e.changed.0 (now c).0 ≡ b → c.changed_in (page_of e) ≡ b
        → Ages.due (wait_of c) e.entered (eqb e.changed.0 (now c).0) (now c) ≡ Ages.due (wait_of c) e.entered (c.changed_in (page_of e)) (now c)
    by e b p q = ap (λ (x : Bool). Ages.due (wait_of c) e.entered x (now c)) (p ∙ sym q)

    one : (e : Entry) → IsNew c e ⊎ (IsStay c e × (e.changed.0 ≤ c.closed.0))
        → Ages.due (wait_of c) e.entered (eqb e.changed.0 (now c).0) (now c) ≡ Ages.due (wait_of c) e.entered (c.changed_in (page_of e)) (now c)
    one e (inl x) = by e true (rw x.went (eq-eqb (now c).0 (now c).0 refl)) x.is_changed
    one e (inr x) = by e false (ne_eqb e.changed.0 (now c).0 (λ z. omega (arith, x.1))) (stay_split (wait_of c) c.changed_in e (now c) x.0.stays).0
