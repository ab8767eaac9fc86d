-- The places of a ledger that is written anew, as open and close do: its entries first, then a row for each place. What was
-- written is what is read: the entries, each place's row, and with it whether a place is retired and since when. Assumes
-- nothing.
use Prim.Native.Nat.{ℕ, zero, suc, ◌+◌, ◌-◌, ◌*◌, ◌<◌, ◌≤◌}
use Rattle.std.specs.Prelude.{◌≡◌, Bool, not, ◌&&◌, ◌⊎◌, take, get_or, replicate}
use Rattle.std.proofs.Math.Path.{refl, ap}
use Rattle.std.proofs.Common.{◌∙◌, sym, inl, inr, length-append, drop-drop}
use Rattle.std.proofs.Math.Bool.{true, false}
use mathlib.Core.List.{List, [], ◌∷◌, ◌++◌, map, append_assoc}
use native.Mathlib.Omega.{arith}
use Rattle.std.proofs.Math.ListN.{length, drop, replicate-append-replicate}
use Rattle.std.proofs.lemmas.List.{length-map}
use Rattle.lists.specs.Below.{from, below}
use Rattle.lists.specs.laws.Below.{every_from, length_from, get_from}
use Rattle.lists.specs.Bools.{if_then}
use Rattle.lists.specs.laws.Bools.{both, not_both}
use Rattle.lists.specs.Scans.{Every, any_of}
use Rattle.lists.specs.laws.Scans.{head, tail, every_map}
use Rattle.octets.specs.Number.{bytes, le}
use Rattle.octets.specs.laws.Number.{length_bytes, le_bytes}
use Rattle.octets.specs.Part.{part, lay}
use Rattle.octets.specs.laws.Part.{length_lay, lay_zero, lay_next}
use Rattle.octets.specs.Rows as InBytes
use Rattle.octets.specs.laws.Rows as InBytesLaws
use Rattle.octets.specs.Rows.{rows, join, Even}
use Rattle.octets.specs.laws.Rows.{length_join, rows_at, rows_laid_at}
use Rattle.units.specs.Ages.{tick, reusable}
use Rattle.units.specs.Sizes.{top, entry_row, place_row, entries, places, places_at, ledger_length}
use Rattle.units.specs.declared.Settings.{Settings}
use Rattle.units.specs.declared.Tick.{Tick}
use Rattle.ledger.specs.declared.Entry.{Entry}
use Rattle.ledger.specs.View.{entries_in, entry_bytes, place_row_at, retired, retired_at, retired_row, free_row}
use Rattle.ledger.specs.Entries.{at, retires, place_after}
use Rattle.ledger.specs.laws.Rowed.{Small, length_entry_bytes, entry_bytes_read}

-- a ledger with these entries and, for place q, the row f q
abbrev pub rewritten : Settings → List ℕ → List Entry → (ℕ → List ℕ) → List ℕ
rewritten s ledger es f = lay ledger 0 (entry_bytes s es ++ join (map f (below (places s))))

even_map : {A : Type 0} (w : ℕ) (f : A → List ℕ) (l : List A) → Every (λ x. length (f x) ≡ w) l → Even w (map f l)
unfolding Even
even_map w f [] e = tt
even_map w f (x ∷ xs) e = (head e, even_map w f xs (tail e))

-- row i of a table that was laid at a
row_laid_at : (w n a : ℕ) (rs : List (List ℕ)) (xs : List ℕ) → Even w rs → n ≡ length rs → a + n * w ≤ length xs
    → (i : ℕ) → i < n → InBytes.row a w i (lay xs a (join rs)) ≡ get_or rs i []
unfolding InBytes.row part
row_laid_at w n a rs xs e l k i h =
    ap (take w) (sym (drop-drop (i * w) a (lay xs a (join rs))))
    ∙ sym (rows_at w i n (drop a (lay xs a (join rs))) h)
    ∙ ap (λ (t : List (List ℕ)). get_or t i []) (rows_laid_at w n a rs xs e l k)

module _ (s : Settings) (ledger : List ℕ) (es : List Entry) (f : ℕ → List ℕ) where
  pub length_rewritten : length (rewritten s ledger es f) ≡ length ledger
  length_rewritten = length_lay ledger 0 (entry_bytes s es ++ join (map f (below (places s))))

  module _ (long : ledger_length s ≤ length ledger) (few : length es ≤ entries s) (even : (q : ℕ) → q < places s → length (f q) ≡ place_row) where
    even_places : Even place_row (map f (below (places s)))
    even_places = even_map place_row f (below (places s)) (every_map (λ q h. even q (omega arith)) (below (places s)) (every_from 0 (places s)))

    length_places : length (map f (below (places s))) ≡ places s
    length_places = length-map (below (places s)) f ∙ length_from 0 (places s)

    pub rewritten_entries : Every Small es → entries_in (length es) (rewritten s ledger es f) ≡ es
    unfolding ledger_length
    rewritten_entries small =
        let p : List ℕ = join (map f (below (places s))) in
        let a = length_entry_bytes s es few in
        let b : length p ≡ length (map f (below (places s))) * place_row = length_join place_row (map f (below (places s))) even_places in
        let fits : length (entry_bytes s es ++ p) ≤ length ledger = rw (length-append (entry_bytes s es) p) (omega (arith, length_places)) in
        rw (lay_zero ledger (entry_bytes s es ++ p) fits, append_assoc (entry_bytes s es) p (drop (length (entry_bytes s es ++ p)) ledger))
        (entry_bytes_read s es (p ++ drop (length (entry_bytes s es ++ p)) ledger) small)

    pub rewritten_place : (q : ℕ) → q < places s → place_row_at s (rewritten s ledger es f) q ≡ f q
    unfolding place_row_at ledger_length
    rewritten_place q h =
        let l : List ℕ = lay ledger 0 (entry_bytes s es) in
        let a : places_at s ≡ 0 + length (entry_bytes s es) = omega (arith, length_entry_bytes s es few) in
        let k : places_at s + places s * place_row ≤ length l = rw (length_lay ledger 0 (entry_bytes s es)) (omega arith) in
        rw (← lay_next ledger 0 (entry_bytes s es) (join (map f (below (places s)))) (places_at s) a)
        (row_laid_at place_row (places s) (places_at s) (map f (below (places s))) l even_places (sym length_places) k q h
        ∙ get_from f [] 0 (places s) q h ∙ ap f (omega arith))

-- What a row says of its place.

module _ (s : Settings) (ledger : List ℕ) (q : ℕ) where
  pub row_retired : (N : Tick) → N.0 ≤ top → place_row_at s ledger q ≡ retired_row N → (retired s ledger q ≡ true) × (retired_at s ledger q ≡ N)
  unfolding retired retired_at retired_row le bytes
  row_retired N h e = (rw e, rw e (ap tick (le_bytes 4 N.0 [] (omega arith))))

  pub row_free : place_row_at s ledger q ≡ free_row → retired s ledger q ≡ false
  unfolding retired le
  row_free e = rw e

  pub row_kept_lem : (before : List ℕ) → place_row_at s ledger q ≡ place_row_at s before q
      → (retired s ledger q ≡ retired s before q) × (retired_at s ledger q ≡ retired_at s before q)
  unfolding retired retired_at
  row_kept_lem before e = (rw e, rw e)

-- The ledger after a close with these entries before it and after it: what it says of place q, by what stood there.

abbrev pub ledger_closed : Settings → ℕ → Tick → (ℕ → Bool) → List Entry → List ℕ → List Entry → List ℕ
ledger_closed s wait N changed_in es ledger later = rewritten s ledger later (place_after s wait N changed_in es ledger)

-- an entry gives up place q; place q is retired and has not rested
abbrev pub given_up : ℕ → Tick → (ℕ → Bool) → List Entry → ℕ → Bool
given_up wait N changed_in es q = any_of (λ e. at q e && retires wait N changed_in e) es

abbrev pub resting : Settings → ℕ → Tick → List ℕ → ℕ → Bool
resting s wait N ledger q = retired s ledger q && not (reusable wait (retired_at s ledger q) N)

module _ (s : Settings) (wait : ℕ) (N : Tick) (changed_in : ℕ → Bool) (es : List Entry) (ledger : List ℕ) (long : ledger_length s ≤ length ledger) where
  pub length_place_after : (q : ℕ) → q < places s → length (place_after s wait N changed_in es ledger q) ≡ place_row
  unfolding place_after retired_row place_row_at ledger_length
  length_place_after q h = go (given_up wait N changed_in es q) (resting s wait N ledger q)
    where
      go : (a b : Bool) → length (if_then a (retired_row N) (if_then b (place_row_at s ledger q) free_row)) ≡ place_row
      go true b = simp (length-append, length_bytes)
      go false true = InBytesLaws.length_row (places_at s) place_row ledger (places s) (omega arith) q h
      go false false = refl

  module _ (later : List Entry) (few : length later ≤ entries s) where
    pub closed_entries : Every Small later → entries_in (length later) (ledger_closed s wait N changed_in es ledger later) ≡ later
    closed_entries small = rewritten_entries s ledger later (place_after s wait N changed_in es ledger) long few length_place_after small

    module _ (q : ℕ) (h : q < places s) where
      closed_row : place_row_at s (ledger_closed s wait N changed_in es ledger later) q ≡ place_after s wait N changed_in es ledger q
      closed_row = rewritten_place s ledger later (place_after s wait N changed_in es ledger) long few length_place_after q h

      pub closed_retires : N.0 ≤ top → given_up wait N changed_in es q ≡ true
          → (retired s (ledger_closed s wait N changed_in es ledger later) q ≡ true) × (retired_at s (ledger_closed s wait N changed_in es ledger later) q ≡ N)
      unfolding place_after
      closed_retires t e = row_retired s (ledger_closed s wait N changed_in es ledger later) q N t (closed_row ∙ rw e)

      pub closed_rests : given_up wait N changed_in es q ≡ false → resting s wait N ledger q ≡ true
          → (retired s (ledger_closed s wait N changed_in es ledger later) q ≡ true)
          × (retired_at s (ledger_closed s wait N changed_in es ledger later) q ≡ retired_at s ledger q)
      unfolding place_after
      closed_rests e r =
          let k = row_kept_lem s (ledger_closed s wait N changed_in es ledger later) q ledger (closed_row ∙ rw (e, r)) in
          (k.0 ∙ (both (retired s ledger q) (not (reusable wait (retired_at s ledger q) N)) r).0, k.1)

      pub closed_frees : given_up wait N changed_in es q ≡ false → resting s wait N ledger q ≡ false → retired s (ledger_closed s wait N changed_in es ledger later) q ≡ false
      unfolding place_after
      closed_frees e r = row_free s (ledger_closed s wait N changed_in es ledger later) q (closed_row ∙ rw (e, r))

      -- what is retired after it was retired by it, or before it
      pub closed_since : N.0 ≤ top → retired s (ledger_closed s wait N changed_in es ledger later) q ≡ true
          → (retired_at s (ledger_closed s wait N changed_in es ledger later) q ≡ N)
          ⊎ ((retired s ledger q ≡ true) × (retired_at s (ledger_closed s wait N changed_in es ledger later) q ≡ retired_at s ledger q))
      closed_since t r = go (given_up wait N changed_in es q) refl (resting s wait N ledger q) refl
        where
          go : (a : Bool) → given_up wait N changed_in es q ≡ a → (b : Bool) → resting s wait N ledger q ≡ b
              → (retired_at s (ledger_closed s wait N changed_in es ledger later) q ≡ N)
              ⊎ ((retired s ledger q ≡ true) × (retired_at s (ledger_closed s wait N changed_in es ledger later) q ≡ retired_at s ledger q))
          go true e b f = inl (closed_retires t e).1
          go false e true f = inr ((both (retired s ledger q) (not (reusable wait (retired_at s ledger q) N)) f).0, (closed_rests e f).1)
          go false e false f = absurd (not_both (retired s (ledger_closed s wait N changed_in es ledger later) q) r (closed_frees e f))

-- The ledger of an open: no entry, and no place is retired.

abbrev pub ledger_opened : Settings → List ℕ → List ℕ
ledger_opened s ledger = lay ledger 0 (replicate (ledger_length s) 0)

join_free : (a n : ℕ) → join (map (λ q. free_row) (from a n)) ≡ replicate (place_row * n) 0
unfolding join from
join_free a zero = refl
join_free a (suc n) =
    let e : place_row + place_row * n ≡ place_row * suc n = omega arith in
    rw (join_free (suc a) n) (replicate-append-replicate place_row (place_row * n) 0 ∙ ap (λ (k : ℕ). replicate k 0) e)

module _ (s : Settings) (ledger : List ℕ) where
  pub opened_entries : entries_in 0 (ledger_opened s ledger) ≡ []
  unfolding entries_in rows
  opened_entries = refl

  opened_rewritten : ledger_opened s ledger ≡ rewritten s ledger [] (λ q. free_row)
  unfolding ledger_length entry_bytes places_at join
  opened_rewritten =
      let e : entries s - 0 ≡ entries s = omega arith in
      rw (join_free 0 (places s), e, replicate-append-replicate {A = ℕ} (entry_row * entries s) (place_row * places s) 0)

  pub opened_free : ledger_length s ≤ length ledger → (q : ℕ) → q < places s → retired s (ledger_opened s ledger) q ≡ false
  opened_free long q h =
      rw opened_rewritten
      (row_free s (rewritten s ledger [] (λ q. free_row)) q (rewritten_place s ledger [] (λ q. free_row) long (omega arith) (λ q h. refl) q h))
