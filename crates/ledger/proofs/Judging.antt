-- The judge of the ledger: what one turn of each pass does. Assumes nothing.
use Prim.Native.Nat.{ℕ, zero, suc, ◌+◌, ◌*◌, ◌<◌, ◌≤◌}
use mathlib.Core.Path.{◌≡◌, refl, ◌∙◌, sym, ap}
use mathlib.Core.Bool.{Bool, true, false, ◌||◌}
use mathlib.Core.List.{List, map}
use native.Mathlib.Omega.{arith}
use lib.Dec.{eqb}
use lib.ListN.{length, take, drop, get_or, length-take}
use lib.Seq.{drop-drop, get_or-take}
use Rattle.std.specs.List.{list_all, range_with_len}
use Rattle.lists.specs.Below.{below}
use Rattle.lists.specs.laws.Below.{every_from}
use Rattle.lists.specs.laws.Bools.{not_both, false_of}
use Rattle.lists.specs.laws.Maps.{all_same, any_snoc}
use Rattle.lists.specs.laws.Passes.{below_snoc}
use Rattle.lists.specs.Scans.{any_of, all_of}
use Rattle.lists.specs.laws.Scans.{every_map}
use Rattle.octets.specs.Part.{part}
use Rattle.octets.specs.Rows.{row, rows}
use Rattle.units.specs.laws.Bounds.{limits_within}
use Rattle.units.specs.Sizes.{limits, entry_row, places, wait}
use Rattle.units.specs.declared.Page.{Page}
use Rattle.units.specs.declared.Settings.{Settings}
use Rattle.units.specs.declared.Tick.{Tick}
use Rattle.sidefile.specs.inner.Table.{pages_fit, places_fit}
use Rattle.ledger.specs.declared.Entry.{Entry}
use Rattle.ledger.specs.View.{indexed, entry_of, entries_in}
use Rattle.ledger.specs.Entries.{at}
use Rattle.ledger.specs.Rules.{ledger_rules}
use Rattle.ledger.specs.inner.Fits.{ticks_fit, place_fits, fits_pages, fits_ticks, fits_places, fits_retired, fits_all}
use Rattle.ledger.specs.inner.Tables.{held_by, table_get}

-- A pass over the first S seats, one more of them.

pub sits_next : (S : ℕ) (seats : List Page) (p i : ℕ) (found b : Bool) → found ≡ any_of (λ k. eqb (get_or seats k (record { 0 = 0 })).0 p) (below i)
    → i < length (take S seats) → b ≡ eqb (get_or (take S seats) i (record { 0 = 0 })).0 p
    → (found || b) ≡ any_of (λ k. eqb (get_or seats k (record { 0 = 0 })).0 p) (below (i + 1))
sits_next S seats p i found b e h q =
    let t : ℕ → Bool = λ k. eqb (get_or seats k (record { 0 = 0 })).0 p in
    rw (e, q, get_or-take S seats i (record { 0 = 0 }) (omega (arith, length-take S seats))) (sym (ap (any_of t) (below_snoc i) ∙ any_snoc t (below i) i))

-- A test of all entries, by their rows.

pub entries_all : (t : Entry → Bool) (n : ℕ) (xs : List ℕ) → list_all (λ i. t (entry_of (row 0 entry_row i xs))) (range_with_len 0 n) ≡ all_of t (entries_in n xs)
unfolding entries_in rows all_of row part
entries_all t n xs = go 0 n
  where
    go : (a m : ℕ) → list_all (λ i. t (entry_of (row 0 entry_row i xs))) (range_with_len a m) ≡ all_of t (map entry_of (rows entry_row m (drop (a * entry_row) xs)))
    go a zero = refl
    go a (suc m) =
        let e : (a + 1) * entry_row ≡ a * entry_row + entry_row = omega arith in
        let z : 0 + a * entry_row ≡ a * entry_row = omega arith in
        rw (go (a + 1) m, e, z, drop-drop entry_row (a * entry_row) xs)

-- The places, by a table of those that entries hold.

pub held_judged : (s : Settings) (closed : Tick) (xs : List ℕ) (es : List Entry) (held : List Bool) → held ≡ held_by es → places s ≤ 272
    → all_of (λ q. place_fits s closed xs (get_or held q false) q) (below (places s)) ≡ all_of (λ q. place_fits s closed xs (any_of (at q) es) q) (below (places s))
held_judged s closed xs es held e m =
    all_same (λ q. place_fits s closed xs (get_or held q false) q) (λ q. place_fits s closed xs (any_of (at q) es) q) (below (places s))
    (every_map (λ q h. ap (λ (b : Bool). place_fits s closed xs b q) (ap (λ (l : List Bool). get_or l q false) e ∙ table_get (λ k. any_of (at k) es) q (omega arith)))
    (below (places s)) (every_from 0 (places s)))

-- The verdict.

pub slots_low : (s : Settings) → limits s ≡ true → s.slots ≤ 16
slots_low s h = (limits_within s h).slots_most

module _ (s : Settings) (end : ℕ) (closed : Tick) (seated : ℕ → Bool) (n : ℕ) (xs : List ℕ) where
  abbrev verdict : Bool
  verdict = ledger_rules s end closed seated n xs

  pub judge_pages : pages_fit end (map indexed (entries_in n xs)) ≡ false → false ≡ verdict
  judge_pages e = sym (false_of verdict (λ h. not_both (pages_fit end (map indexed (entries_in n xs))) (fits_pages s end closed seated n xs h) e))

  pub judge_ticks : all_of (ticks_fit (wait s) closed seated) (entries_in n xs) ≡ false → false ≡ verdict
  judge_ticks e = sym (false_of verdict (λ h. not_both (all_of (ticks_fit (wait s) closed seated) (entries_in n xs)) (fits_ticks s end closed seated n xs h) e))

  pub judge_places : places_fit (places s) (map indexed (entries_in n xs)) ≡ false → false ≡ verdict
  judge_places e = sym (false_of verdict (λ h. not_both (places_fit (places s) (map indexed (entries_in n xs))) (fits_places s end closed seated n xs h) e))

  pub judge_all : pages_fit end (map indexed (entries_in n xs)) ≡ true → all_of (ticks_fit (wait s) closed seated) (entries_in n xs) ≡ true
      → places_fit (places s) (map indexed (entries_in n xs)) ≡ true → (b : Bool) → b ≡ all_of (λ q. place_fits s closed xs (any_of (at q) (entries_in n xs)) q) (below (places s))
      → b ≡ verdict
  judge_all p t q true e = sym (fits_all s end closed seated n xs p t q (sym e))
  judge_all p t q false e =
      sym (false_of verdict
      (λ h. not_both (all_of (λ q. place_fits s closed xs (any_of (at q) (entries_in n xs)) q) (below (places s))) (fits_retired s end closed seated n xs h) (sym e)))
