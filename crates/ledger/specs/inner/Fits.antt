-- The ledger's rules as the code judges them, one pass to each, and that together they are `ledger_rules`. Assumes nothing.
use Rattle.std.specs.Prelude.{ℕ, ◌≡◌, Bool, ◌&&◌, ◌||◌, List, map, eqb, get_or}
use Rattle.std.proofs.Math.Path.{refl}
use Rattle.std.proofs.Common.{◌∙◌, sym, ap, arith}
use Rattle.std.proofs.Math.Bool.{true, false, not}
use Rattle.std.proofs.Math.Dec.{ltb, leb}
use borrow.Author.Tests.{eqb-true, ltb-true, not-true}
use Rattle.lists.specs.Below.{below}
use Rattle.lists.specs.laws.Below.{all_from_lem}
use Rattle.lists.specs.laws.Bools.{both, and_make, not_both}
use Rattle.lists.specs.Scans.{Every, any_of, all_of}
use Rattle.lists.specs.laws.Scans.{every_map, every_two, every_all_of, all_of_every, any_some}
use Rattle.units.specs.Sizes.{wait, places}
use Rattle.units.specs.declared.Page.{Page}
use Rattle.units.specs.declared.Settings.{Settings}
use Rattle.units.specs.declared.Tick.{Tick}
use Rattle.sidefile.specs.declared.IndexEntry.{IndexEntry}
use Rattle.sidefile.specs.Judge.{ascending, apart}
use Rattle.sidefile.specs.inner.Table.{pages_fit, places_fit, all_seen}
use Rattle.ledger.specs.declared.Entry.{Entry}
use Rattle.ledger.specs.View.{indexed, entries_in, retired, retired_at}
use Rattle.ledger.specs.Entries.{page_of, place_of, at, is_owed}
use Rattle.ledger.specs.Rules.{entry_rules, retired_by, ledger_rules}
use Rattle.ledger.specs.laws.Ordered.{self_at}

-- page p is in one of the first S seats
unfoldable pub sits : ℕ → List Page → ℕ → Bool
sits S seats p = any_of (λ i. eqb (get_or seats i (record { 0 = 0 })).0 p) (below S)

-- what one pass asks of an entry, and another of a place that some entry holds or not
unfoldable pub ticks_fit : ℕ → Tick → (ℕ → Bool) → Entry → Bool
ticks_fit w closed seated e = leb e.entered.0 e.changed.0 && leb e.changed.0 closed.0 && (not (is_owed w closed e) || seated (page_of e))

unfoldable pub place_fits : Settings → Tick → List ℕ → Bool → ℕ → Bool
place_fits s closed ledger held q = not (retired s ledger q) || leb (retired_at s ledger q).0 closed.0 && not held

module _ (s : Settings) (end : ℕ) (closed : Tick) (seated : ℕ → Bool) (ledger : List ℕ) (e : Entry) where
  abbrev low : Bool
  low = ltb (page_of e) end

  abbrev early : Bool
  early = leb e.entered.0 e.changed.0

  abbrev late : Bool
  late = leb e.changed.0 closed.0

  abbrev kept : Bool
  kept = not (is_owed (wait s) closed e) || seated (page_of e)

  abbrev there : Bool
  there = ltb (place_of e) (places s)

  abbrev free : Bool
  free = not (retired s ledger (place_of e))

  -- an entry's rules by the passes that judge them
  entry_split : entry_rules s end closed seated ledger e ≡ true → (low ≡ true) × (ticks_fit (wait s) closed seated e ≡ true) × (there ≡ true) × (free ≡ true)
  unfolding entry_rules ticks_fit
  entry_split h =
      let a = both (low && early && late && kept && there) free h in
      let b = both (low && early && late && kept) there a.0 in
      let c = both (low && early && late) kept b.0 in
      let d = both (low && early) late c.0 in
      let f = both low early d.0 in
      (f.0, and_make (early && late) kept (and_make early late f.1 d.1) c.1, b.1, a.1)

  entry_make : low ≡ true → ticks_fit (wait s) closed seated e ≡ true → there ≡ true → free ≡ true → entry_rules s end closed seated ledger e ≡ true
  unfolding entry_rules ticks_fit
  entry_make p t q f =
      let a = both (early && late) kept t in
      let b = both early late a.0 in
      and_make (low && early && late && kept && there) free
      (and_make (low && early && late && kept) there
      (and_make (low && early && late) kept (and_make (low && early) late (and_make low early p b.0) b.1) a.1) q) f

module _ (s : Settings) (end : ℕ) (closed : Tick) (seated : ℕ → Bool) (n : ℕ) (ledger : List ℕ) where
  abbrev es : List Entry
  es = entries_in n ledger

  abbrev fits : Entry → Bool
  fits e = entry_rules s end closed seated ledger e

  abbrev place_fit : ℕ → Bool
  place_fit q = place_fits s closed ledger (any_of (at q) es) q

  -- the rules one by one
  split : ledger_rules s end closed seated n ledger ≡ true
      → (ascending 0 (map indexed es) ≡ true) × Every (λ e. fits e ≡ true) es × (apart (map indexed es) ≡ true) × Every (λ q. retired_by s ledger closed q ≡ true) (below (places s))
  unfolding ledger_rules
  split h =
      let a = ascending 0 (map indexed es) in
      let b = all_of fits es in
      let c = apart (map indexed es) in
      let d = all_of (retired_by s ledger closed) (below (places s)) in
      let x = both (a && b && c) d h in
      let y = both (a && b) c x.0 in
      let z = both a b y.0 in
      (z.0, all_of_every fits es z.1, y.1, all_of_every (retired_by s ledger closed) (below (places s)) x.1)

  -- what passes the rules passes each pass
  pub fits_pages : ledger_rules s end closed seated n ledger ≡ true → pages_fit end (map indexed es) ≡ true
  unfolding pages_fit
  fits_pages h =
      let f = split h in
      and_make (ascending 0 (map indexed es)) (all_of (λ (x : IndexEntry). ltb x.page.0 end) (map indexed es)) f.0
      (all_seen indexed (λ (x : IndexEntry). ltb x.page.0 end) es ∙ every_all_of (λ e. ltb (page_of e) end) (λ e k. (entry_split s end closed seated ledger e k).0) es f.1)

  pub fits_ticks : ledger_rules s end closed seated n ledger ≡ true → all_of (ticks_fit (wait s) closed seated) es ≡ true
  fits_ticks h = every_all_of (ticks_fit (wait s) closed seated) (λ e k. (entry_split s end closed seated ledger e k).1) es (split h).1

  pub fits_places : ledger_rules s end closed seated n ledger ≡ true → places_fit (places s) (map indexed es) ≡ true
  unfolding places_fit
  fits_places h =
      let f = split h in
      and_make (all_of (λ (x : IndexEntry). ltb x.place.0 (places s)) (map indexed es)) (apart (map indexed es))
      (all_seen indexed (λ (x : IndexEntry). ltb x.place.0 (places s)) es ∙ every_all_of (λ e. ltb (place_of e) (places s)) (λ e k. (entry_split s end closed seated ledger e k).2) es f.1)
      f.2

  pub fits_retired : ledger_rules s end closed seated n ledger ≡ true → all_of place_fit (below (places s)) ≡ true
  unfolding place_fits at
  fits_retired h =
      let f = split h in
      every_all_of place_fit (λ q k. go q (retired s ledger q) refl (any_of (at q) es) refl k) (below (places s)) f.3
    where
      free_all : Every (λ e. retired s ledger (place_of e) ≡ false) es
      free_all = every_map (λ e k. not-true (retired s ledger (place_of e)) (entry_split s end closed seated ledger e k).3) es (split h).1

      go : (q : ℕ) (r : Bool) → retired s ledger q ≡ r → (b : Bool) → any_of (at q) es ≡ b → (not r || leb (retired_at s ledger q).0 closed.0) ≡ true
          → (not r || leb (retired_at s ledger q).0 closed.0 && not b) ≡ true
      go q false e b m k = refl
      go q true e false m k = and_make (leb (retired_at s ledger q).0 closed.0) true k refl
      go q true e true m k =
          let x = any_some (at q) es free_all m in
          absurd (not_both (retired s ledger q) e (ap (retired s ledger) (sym (eqb-true (place_of x.0) q x.1)) ∙ x.2))

  -- and what passes every pass passes the rules
  pub fits_all : pages_fit end (map indexed es) ≡ true → all_of (ticks_fit (wait s) closed seated) es ≡ true → places_fit (places s) (map indexed es) ≡ true
      → all_of place_fit (below (places s)) ≡ true → ledger_rules s end closed seated n ledger ≡ true
  unfolding ledger_rules pages_fit places_fit place_fits
  fits_all p t q r =
      let a = ascending 0 (map indexed es) in
      let c = apart (map indexed es) in
      let pages = both a (all_of (λ (x : IndexEntry). ltb x.page.0 end) (map indexed es)) p in
      let spots = both (all_of (λ (x : IndexEntry). ltb x.place.0 (places s)) (map indexed es)) c q in
      let low = all_of_every (λ e. ltb (page_of e) end) es (sym (all_seen indexed (λ (x : IndexEntry). ltb x.page.0 end) es) ∙ pages.1) in
      let there = all_of_every (λ e. ltb (place_of e) (places s)) es (sym (all_seen indexed (λ (x : IndexEntry). ltb x.place.0 (places s)) es) ∙ spots.0) in
      let ticks = all_of_every (ticks_fit (wait s) closed seated) es t in
      let all = every_all_of fits one es (every_two es low (every_two es ticks (every_two es there (self_at es)))) in
      let rests = every_all_of (retired_by s ledger closed) (λ k h. still k (retired s ledger k) (any_of (at k) es) h) (below (places s)) (all_of_every place_fit (below (places s)) r) in
      and_make (a && all_of fits es && c) (all_of (retired_by s ledger closed) (below (places s)))
      (and_make (a && all_of fits es) c (and_make a (all_of fits es) pages.0 all) spots.1) rests
    where
      still : (k : ℕ) (b h : Bool) → (not b || leb (retired_at s ledger k).0 closed.0 && not h) ≡ true → (not b || leb (retired_at s ledger k).0 closed.0) ≡ true
      still k false h e = refl
      still k true h e = (both (leb (retired_at s ledger k).0 closed.0) (not h) e).0

      freed : (k : ℕ) (b : Bool) → any_of (at k) es ≡ true → (not b || leb (retired_at s ledger k).0 closed.0 && not (any_of (at k) es)) ≡ true → not b ≡ true
      freed k false m e = refl
      freed k true m e = absurd (not_both (any_of (at k) es) m (not-true (any_of (at k) es) (both (leb (retired_at s ledger k).0 closed.0) (not (any_of (at k) es)) e).1))

      one : (e : Entry) → (ltb (page_of e) end ≡ true) × ((ticks_fit (wait s) closed seated e ≡ true) × ((ltb (place_of e) (places s) ≡ true) × (any_of (at (place_of e)) es ≡ true))) → fits e ≡ true
      one e h =
          let k = ltb-true (place_of e) (places s) h.1.1.0 in
          entry_make s end closed seated ledger e h.0 h.1.0 h.1.1.0
          (freed (place_of e) (retired s ledger (place_of e)) h.1.1.1 (all_from_lem place_fit 0 (places s) (place_of e) (omega arith) (omega arith) r))
