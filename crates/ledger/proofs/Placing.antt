-- Places: what one turn of a loop does to a table by place, and to the rows of places. Assumes nothing.
use Prim.Native.Nat.{ℕ, zero, suc, ◌+◌, ◌*◌, ◌<◌, ◌≤◌}
use mathlib.Core.Path.{◌≡◌, refl, ◌∙◌, sym, ap}
use mathlib.Core.Bool.{Bool, true, false}
use mathlib.Core.List.{List, [], ◌∷◌, ◌++◌, map, append-nil}
use native.Mathlib.Nat.{suc-mul, zero-mul}
use native.Mathlib.Omega.{arith}
use lib.ListN.{length, take, get_or, set, replicate, length-append}
use lib.Seq.{length-take-le}
use Rattle.lists.specs.Below.{from, below}
use Rattle.lists.specs.Bools.{if_then}
use Rattle.lists.specs.laws.Maps.{map_append, any_snoc}
use Rattle.lists.specs.laws.Passes.{below_snoc}
use Rattle.lists.specs.Scans.{any_of}
use Rattle.octets.specs.Number.{bytes32}
use Rattle.octets.specs.laws.Number.{length_bytes}
use Rattle.octets.specs.Part.{part, lay}
use Rattle.octets.specs.laws.Part.{lay_nil, lay_next, part_lay_after}
use Rattle.octets.specs.Rows.{row, join}
use Rattle.octets.specs.laws.Rows.{join_append, length_row}
use Rattle.units.specs.laws.Bounds.{limits_within, places_most}
use Rattle.octets.specs.inner.Flags.{flags}
use Rattle.octets.specs.laws.Flagging.{flags_clear, length_flags}
use Rattle.units.specs.Sizes.{limits, entry_row, place_row, places, places_at, ledger_length, wait}
use Rattle.units.specs.declared.Settings.{Settings}
use Rattle.units.specs.declared.Tick.{Tick}
use Rattle.ledger.specs.declared.Entry.{Entry}
use Rattle.ledger.specs.View.{entry_of, entries_in, place_row_at, retired, retired_at, retired_row, free_row}
use Rattle.ledger.specs.Entries.{place_of, at}
use Rattle.ledger.specs.inner.Placed.{resting}
use Rattle.ledger.specs.laws.Rowed.{length_entries_in}
use Rattle.ledger.specs.laws.Read.{entry_last}
use Rattle.ledger.specs.inner.Flagged.{picked, picked_snoc}
use Rattle.ledger.specs.inner.Tables.{held_by, place_table, row_after, rows_after, length_table, table_none, table_mark}

-- Tables by place.

-- a table of which no flag is set
pub none_held : flags (replicate 34 0) ≡ replicate 272 false
none_held = flags_clear 34

pub held_none : replicate 272 false ≡ held_by []
unfolding any_of
held_none = sym table_none

pub held_more : (l : List Entry) (e : Entry) (p : ℕ) → p ≡ place_of e → p < 272 → set (held_by l) p true ≡ held_by (l ++ (e ∷ []))
unfolding at
held_more l e p z h = table_mark (λ q. any_of (at q) l) p h ∙ rw z (λ i. place_table (λ q. sym (any_snoc (at q) l e) i))

-- how long a table of places is, and that it has all of them
pub held_bytes : (s : Settings) (bytes : List ℕ) (es : List Entry) → limits s ≡ true → flags bytes ≡ held_by es → places s ≤ 8 * length bytes
held_bytes s bytes es l e =
    omega (arith, length_flags bytes, ap length e, length_table (λ q. any_of (at q) es), places_most s (limits_within s l))

module _ (n : ℕ) (xs : List ℕ) (i : ℕ) (h : i < n) where
  -- row i is marked, or not
  picked_row : (marked : List Bool) (b : Bool) → get_or marked i false ≡ b
      → picked marked (take (i + 1) (entries_in n xs)) ≡ picked marked (take i (entries_in n xs)) ++ if_then b (entry_of (row 0 entry_row i xs) ∷ []) []
  picked_row marked b q =
      let l = length-take-le i (entries_in n xs) (omega (arith, length_entries_in n xs)) in
      ap (picked marked) (entry_last n xs i h) ∙ picked_snoc marked (take i (entries_in n xs)) (entry_of (row 0 entry_row i xs)) ∙ rw (l, q)

  pub held_marked : (marked held : List Bool) → held ≡ held_by (picked marked (take i (entries_in n xs))) → get_or marked i false ≡ true
      → (p : ℕ) → p ≡ place_of (entry_of (row 0 entry_row i xs)) → p < 272 → set held p true ≡ held_by (picked marked (take (i + 1) (entries_in n xs)))
  held_marked marked held e q p z k =
      ap (λ (t : List Bool). set t p true) e ∙ held_more (picked marked (take i (entries_in n xs))) (entry_of (row 0 entry_row i xs)) p z k
      ∙ ap held_by (sym (picked_row marked true q))

  pub held_unmarked : (marked held : List Bool) → held ≡ held_by (picked marked (take i (entries_in n xs))) → get_or marked i false ≡ false
      → held ≡ held_by (picked marked (take (i + 1) (entries_in n xs)))
  held_unmarked marked held e q = e ∙ ap held_by (sym (picked_row marked false q ∙ append-nil (picked marked (take i (entries_in n xs)))))

  pub held_next : (held : List Bool) → held ≡ held_by (take i (entries_in n xs)) → (p : ℕ) → p ≡ place_of (entry_of (row 0 entry_row i xs)) → p < 272
      → set held p true ≡ held_by (take (i + 1) (entries_in n xs))
  held_next held e p z k =
      ap (λ (t : List Bool). set t p true) e ∙ held_more (take i (entries_in n xs)) (entry_of (row 0 entry_row i xs)) p z k ∙ ap held_by (sym (entry_last n xs i h))

-- Rows of places.

-- a retired place's two numbers make its row
pub after_retired : (xs : List ℕ) (N : Tick) (a : ℕ) → lay (lay xs a (bytes32 1)) (a + 4) (bytes32 N.0) ≡ lay xs a (retired_row N)
unfolding retired_row
after_retired xs N a = lay_next xs a (bytes32 1) (bytes32 N.0) (a + 4) (omega (arith, length_bytes 4 1))

-- All rows of places, up to place q.

join_length : (f : ℕ → List ℕ) (w a n : ℕ) → ((k : ℕ) → k < a + n → length (f k) ≡ w) → length (join (map f (from a n))) ≡ n * w
unfolding from join
join_length f w a zero h = sym (zero-mul w)
join_length f w a (suc n) h =
    rw (length-append (f a) (join (map f (from (suc a) n))), h a (omega arith), join_length f w (suc a) n (λ k m. h k (omega arith)))
    (omega (arith, suc-mul n w))

-- the ledger with the rows of the first q places as they are after the close
unfoldable pub after_up_to : Settings → Tick → List Bool → List ℕ → ℕ → List ℕ
after_up_to s N gone xs q = lay xs (places_at s) (join (map (rows_after s N gone xs) (below q)))

module _ (s : Settings) (N : Tick) (gone : List Bool) (xs : List ℕ) (long : ledger_length s ≤ length xs) where
  length_after : (g : Bool) (q : ℕ) → q < places s → length (row_after s (wait s) N g xs q) ≡ place_row
  unfolding row_after retired_row place_row_at ledger_length
  length_after g q h = go g (resting s (wait s) N xs q)
    where
      go : (a b : Bool) → length (if_then a (retired_row N) (if_then b (place_row_at s xs q) free_row)) ≡ place_row
      go true b = simp (length-append, length_bytes)
      go false true = length_row (places_at s) place_row xs (places s) (omega arith) q h
      go false false = refl

  pub after_start : xs ≡ after_up_to s N gone xs 0
  unfolding after_up_to from join
  after_start = sym (lay_nil xs (places_at s))

  length_up_to : (q : ℕ) → q ≤ places s → length (join (map (rows_after s N gone xs) (below q))) ≡ q * place_row
  unfolding rows_after
  length_up_to q h = join_length (rows_after s N gone xs) place_row 0 q (λ k m. length_after (get_or gone k false) k (omega arith))

  -- one row more, made from what stands there
  pub after_next : (q : ℕ) → q < places s → lay (after_up_to s N gone xs q) (places_at s + q * place_row) (row_after s (wait s) N (get_or gone q false) (after_up_to s N gone xs q) q) ≡ after_up_to s N gone xs (q + 1)
  unfolding after_up_to row_after rows_after place_row_at retired retired_at row join
  after_next q h =
      let rs : List ℕ = join (map (rows_after s N gone xs) (below q)) in
      let l = length_up_to q (omega arith) in
      let e : part (lay xs (places_at s) rs) (places_at s + q * place_row) place_row ≡ part xs (places_at s + q * place_row) place_row =
      part_lay_after xs (places_at s) rs (places_at s + q * place_row) place_row (omega arith) in
      rw (e, lay_next xs (places_at s) rs (rows_after s N gone xs q) (places_at s + q * place_row) (omega arith))
      (sym (ap (lay xs (places_at s))
      (rw (below_snoc q, map_append (rows_after s N gone xs) (below q) (q ∷ []), join_append (map (rows_after s N gone xs) (below q)) (rows_after s N gone xs q ∷ []))
      (ap (λ (t : List ℕ). rs ++ t) (append-nil (rows_after s N gone xs q))))))
