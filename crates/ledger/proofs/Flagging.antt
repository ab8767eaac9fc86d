-- Flags of rows, set one after the other: what one turn of a loop does. Assumes nothing.
use Prim.Native.Nat.{ℕ, suc, ◌+◌, ◌-◌, ◌*◌, ◌<◌}
use mathlib.Core.Path.{◌≡◌, ◌∙◌, sym, ap}
use mathlib.Core.Bool.{Bool, true, false, ◌||◌}
use mathlib.Core.List.{List, [], ◌∷◌, ◌++◌, map, append_assoc}
use native.Mathlib.Numerals.{add-one}
use native.Mathlib.Omega.{arith}
use Rattle.std.specs.Prelude.{Some, None, position}
use lib.Dec.{eqb}
use lib.ListN.{length, take, set, get_or, replicate, length-map, length-replicate}
use lib.Seq.{take_at, take-suc, take-suc-set, take-set-lt, set_at, set_out, length-take-le}
use Rattle.lists.specs.laws.Bools.{or_no, or_assoc}
use Rattle.lists.specs.laws.Maps.{map_append, any_snoc}
use Rattle.lists.specs.Scans.{any_of}
use Rattle.octets.specs.inner.Flags.{flags}
use Rattle.octets.specs.laws.Flagging.{length_flags}
use Rattle.octets.specs.Rows.{row}
use Rattle.units.specs.Sizes.{entry_row}
use Rattle.units.specs.declared.Tick.{Tick}
use Rattle.sidefile.specs.Judge.{ascending}
use Rattle.sidefile.specs.inner.Table as Table
use Rattle.ledger.specs.declared.Entry.{Entry}
use Rattle.ledger.specs.View.{indexed, entry_of, entries_in}
use Rattle.ledger.specs.Entries.{page_of, has, find, retires, entered_or}
use Rattle.ledger.specs.inner.Changed.{among, is_old, entry_ticks, retires_old, mark_page}
use Rattle.ledger.specs.inner.Search.{some_answer, none_answer}
use Rattle.ledger.specs.laws.Read.{entry_last, entries_whole}
use Rattle.ledger.specs.laws.Rowed.{length_entries_in}

-- how long a table of flags is of which none is set
pub table_bytes : (s : List ℕ) (n : ℕ) → flags s ≡ replicate n false → 8 * length s ≡ n
table_bytes s n e = omega (arith, length_flags s, ap length e, length-replicate n false)

-- so each flag of a row or of a place can be read and set, also once some are set
pub row_room : (s t : List ℕ) (i : ℕ) → flags s ≡ replicate 144 false → length t ≡ length s → i < 144 → i < 8 * length t
row_room s t i e l h = omega (arith, table_bytes s 144 e)

pub place_room : (s t : List ℕ) (q : ℕ) → flags s ≡ replicate 272 false → length t ≡ length s → q < 272 → q < 8 * length t
place_room s t q e l h = omega (arith, table_bytes s 272 e)

-- flags by what a test says of the first i entries, and none set behind them
module _ (t : Entry → Bool) (m n : ℕ) (xs : List ℕ) where
  unfoldable pub flagged_up_to : ℕ → List Bool
  flagged_up_to i = map t (take i (entries_in n xs)) ++ replicate (m - i) false

  pub flagged_none : replicate m false ≡ flagged_up_to 0
  unfolding flagged_up_to
  flagged_none = let e : m - 0 ≡ m = omega arith in rw e

  module _ (i : ℕ) (h : i < n) (k : i < m) where
    abbrev before : List Bool
    before = map t (take i (entries_in n xs))

    length_before : length before ≡ i
    length_before = length-map (take i (entries_in n xs)) t ∙ length-take-le i (entries_in n xs) (omega (arith, length_entries_in n xs))

    next : flagged_up_to (i + 1) ≡ before ++ (t (entry_of (row 0 entry_row i xs)) ∷ replicate (m - (i + 1)) false)
    unfolding flagged_up_to
    next =
        rw (entry_last n xs i h, map_append t (take i (entries_in n xs)) (entry_of (row 0 entry_row i xs) ∷ []))
        (append_assoc before (t (entry_of (row 0 entry_row i xs)) ∷ []) (replicate (m - (i + 1)) false))

    here : flagged_up_to i ≡ before ++ (false ∷ replicate (m - (i + 1)) false)
    unfolding flagged_up_to
    here = let e : m - i ≡ suc (m - (i + 1)) = omega arith in rw e

    pub flagged_yes : (fs : List Bool) → fs ≡ flagged_up_to i → t (entry_of (row 0 entry_row i xs)) ≡ true → set fs i true ≡ flagged_up_to (i + 1)
    flagged_yes fs e q = rw (e, here, next, q) (set_at before false (replicate (m - (i + 1)) false) true i length_before)

    pub flagged_no : (fs : List Bool) → fs ≡ flagged_up_to i → t (entry_of (row 0 entry_row i xs)) ≡ false → fs ≡ flagged_up_to (i + 1)
    flagged_no fs e q = e ∙ rw (here, next, q)

  pub flagged_all : (i : ℕ) → i ≡ n → take n (flagged_up_to i) ≡ map t (entries_in n xs)
  unfolding flagged_up_to
  flagged_all i e =
      rw (e, entries_whole n xs n (omega arith))
      (take_at (map t (entries_in n xs)) (replicate (m - n) false) n (length-map (entries_in n xs) t ∙ length_entries_in n xs))

-- The changed pages, one after the other.

module _ (wait : ℕ) (N : Tick) (es : List Entry) where
  -- old, or one of these pages
  abbrev pub goes : List ℕ → Entry → Bool
  goes cs e = is_old wait N e || among cs (page_of e)

  pub goes_none : map (is_old wait N) es ≡ map (goes []) es
  unfolding among any_of
  goes_none = λ i. map (λ e. sym (or_no (is_old wait N e)) i) es

  pub goes_all : (cs : List ℕ) → map (goes cs) es ≡ map (retires wait N (among cs)) es
  goes_all cs = λ i. map (λ e. retires_old wait N (among cs) e i) es

  module _ (cs : List ℕ) (j : ℕ) (h : j < length cs) (c : ℕ) (here : c ≡ get_or cs j 0) where
    cs_next : take (j + 1) cs ≡ take j cs ++ (c ∷ [])
    cs_next = rw (add-one j, here) (take-suc cs j 0 h)

    goes_next : map (λ e. goes (take j cs) e || has c e) es ≡ map (goes (take (j + 1) cs)) es
    unfolding among has
    goes_next = λ i. map (λ e. one e i) es
      where
        one : (e : Entry) → (goes (take j cs) e || has c e) ≡ goes (take (j + 1) cs) e
        one e = sym (or_assoc (is_old wait N e) (among (take j cs) (page_of e)) (has c e)) ∙ rw (cs_next, any_snoc (eqb (page_of e)) (take j cs) c)

    module _ (n : ℕ) (l : length es ≡ n) (going : List Bool) (e : take n going ≡ map (goes (take j cs)) es) (a : ascending 0 (map indexed es) ≡ true) where
      pub goes_marked : (at : ℕ) → position (has c) es ≡ Some at → take n (set going at true) ≡ map (goes (take (j + 1) cs)) es
      goes_marked at found =
          let s = some_answer (has c) es at found in
          take-set-lt n going at true (omega arith) ∙ rw (e, s.1) (mark_page (goes (take j cs)) c 0 es a) ∙ goes_next

      pub goes_unmarked : position (has c) es ≡ None → take n going ≡ map (goes (take (j + 1) cs)) es
      goes_unmarked found =
          let at = Table.position (has c) es in
          e ∙ sym (set_out (map (goes (take j cs)) es) at true (rw (length-map es (goes (take j cs))) (none_answer (has c) es found))) ∙ mark_page (goes (take j cs)) c 0 es a ∙ goes_next

    pub tick_next : (entered : List Tick) → j < length entered → take j entered ≡ entry_ticks N es (take j cs)
        → (t : Tick) → t ≡ entered_or N (find c es) → take (j + 1) (set entered j t) ≡ entry_ticks N es (take (j + 1) cs)
    unfolding entry_ticks
    tick_next entered m e t q =
        rw (cs_next, map_append (λ p. entered_or N (find p es)) (take j cs) (c ∷ []), ← e, ← q, add-one j) (take-suc-set entered j t m)
