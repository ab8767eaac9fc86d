-- What is known where the tests pass that refresh and read begin with, and what is answered where one fails. Assumes nothing.
use Prim.Native.Nat.{ℕ, ◌+◌, ◌*◌, ◌≤◌}
use mathlib.Core.Bool.{true, ◌&&◌}
use mathlib.Core.List.{List, ◌++◌}
use mathlib.Core.Path.{◌≡◌, refl, ◌∙◌, sym, subst}
use native.Mathlib.Omega.{arith}
use lib.Dec.{eqb}
use lib.ListN.{length}
use borrow.Author.Tests.{eqb-true, leb-true}
use Rattle.lists.specs.laws.Bools.{both}
use Rattle.lists.specs.Scans.{all_of}
use Rattle.units.specs.laws.Bounds.{limits_within, first_image_least}
use Rattle.units.specs.Refusals.{code}
use Rattle.units.specs.Sizes.{header_length, index_row, index_end, side_length}
use Rattle.units.specs.Tests.{Test, numbered, passes, verdict}
use Rattle.units.specs.laws.Tests.{verdict_behind, verdict_none, stopped}
use Rattle.units.specs.declared.refusal.Refusal.{Refusal}
use Rattle.units.specs.declared.Settings.{Settings}
use Rattle.sidefile.specs.Encode.{header_of, index_of}
use Rattle.sidefile.specs.Judge.{mark_tests, header_tests, index_tests, whole_tests, front_tests, held_tests, reaches, holds}
use Rattle.sidefile.specs.inner.Passed.{AllPassed, Indexed, held_passed, front_passed, whole_passed}
use Rattle.sidefile.specs.inner.Table.{index_entries}
use Rattle.sidefile.specs.inner.Tables.{IndexAt, entries_in, entries_of_index}
use Rattle.sidefile.specs.declared.table.Table.{Table}
use Rattle.sidefile.specs.declared.Header.{Header}
use Rattle.desk.specs.inner.Follow.{kept_tests, pair_tests, follow_tests}
use Rattle.desk.specs.Take.{same_settings}

-- no refusal has the number of a call that is done
pub code_some : (r : Refusal) → code r ≡ 0 → ⊥
code_some r e = grind arith

-- a refusal stays, and what passed may be left out
module _ (ts us : List Test) where
  pub stops : (r : Refusal) → code r ≡ verdict ts → code r ≡ verdict (ts ++ us)
  stops r e = stopped ts us (code r) e (code_some r)

  pub goes_on : all_of numbered ts ≡ true → 0 ≡ verdict ts → verdict us ≡ verdict (ts ++ us)
  goes_on a e = sym (verdict_behind ts us (verdict_none ts a (sym e)))

-- A verdict of 0 on each part.

pub kept_passes : (held : List ℕ) → 0 ≡ verdict (kept_tests held) → AllPassed (holds (length held)) held
unfolding kept_tests passes all_of
kept_passes held e = held_passed held (both (passes (held_tests held)) true (verdict_none (kept_tests held) refl (sym e))).0

pub whole_passes : (side : List ℕ) → 0 ≡ verdict (whole_tests (length side) side) → AllPassed (reaches (length side)) side
unfolding whole_tests mark_tests header_tests index_tests all_of
whole_passes side e = whole_passed (length side) side (verdict_none (whole_tests (length side) side) refl (sym e))

pub pair_passes : (held side : List ℕ) → 0 ≡ verdict (pair_tests (header_of held) (header_of side))
    → (header_of held).settings ≡ (header_of side).settings
unfolding pair_tests passes all_of same_settings header_of
pair_passes held side e =
    let h = (header_of held).settings in
    let s = (header_of side).settings in
    let a = both (eqb h.size s.size && eqb h.slots s.slots && eqb h.lag s.lag) _ (verdict_none (pair_tests (header_of held) (header_of side)) refl (sym e)) in
    let b = both (eqb h.size s.size && eqb h.slots s.slots) (eqb h.lag s.lag) a.0 in
    let c = both (eqb h.size s.size) (eqb h.slots s.slots) b.0 in
    λ i. record {
      size = eqb-true h.size s.size c.0 i;
      slots = eqb-true h.slots s.slots c.1 i;
      lag = eqb-true h.lag s.lag b.1 i;
      capacity = 65535;
    }

-- The lengths that follow.

pub held_long : (held : List ℕ) → 0 ≡ verdict (kept_tests held) → header_length ≤ length held
held_long held e = (kept_passes held e).front.whole

pub whole_long : (side : List ℕ) → 0 ≡ verdict (whole_tests (length side) side) → header_length ≤ length side
whole_long side e = (whole_passes side e).front.whole

pub front_long : (side : List ℕ) → 0 ≡ verdict (front_tests (length side) side) → header_length ≤ length side
unfolding front_tests mark_tests header_tests all_of
front_long side e = (front_passed (length side) side (verdict_none (front_tests (length side) side) refl (sym e))).whole

-- header and index are at hand
pub whole_indexed : (side : List ℕ) → 0 ≡ verdict (whole_tests (length side) side) → Indexed side
unfolding side_length
whole_indexed side e =
    let h = (whole_passes side e).front.header in
    let s = (header_of side).settings in
    record {
      limited = h.limited;
      few = h.few;
      reached = omega (arith, leb-true (side_length s) (length side) h.asked, first_image_least s (limits_within s h.limited));
    }

pub whole_room : (side : List ℕ) → 0 ≡ verdict (whole_tests (length side) side) → index_end (header_of side).settings ≤ length side
whole_room side e = (whole_indexed side e).reached

pub held_indexed : (held : List ℕ) → 0 ≡ verdict (kept_tests held) → Indexed held
held_indexed held e =
    let h = (kept_passes held e).front.header in
    record { limited = h.limited; few = h.few; reached = leb-true (index_end (header_of held).settings) (length held) h.asked }

pub rows_fit : (xs : List ℕ) → Indexed xs → (n : ℕ) → n ≡ (header_of xs).entries → header_length + n * index_row ≤ length xs
unfolding index_end
rows_fit xs i n e = omega (arith, i.few, i.reached)

-- the index by the table that code makes of it: h is the header
pub index_seen : (xs : List ℕ) (h : Header) → h ≡ header_of xs → (table : Table) → IndexAt xs h.entries table → index_of xs ≡ entries_in table
index_seen xs h e table at = rw (index_entries xs, ← e, entries_of_index xs h.entries table at)

-- the held buffer has room for what it follows
pub held_room : (held side : List ℕ) → 0 ≡ verdict (kept_tests held) → 0 ≡ verdict (pair_tests (header_of held) (header_of side))
    → index_end (header_of side).settings ≤ length held
held_room held side e f = subst (λ (s : Settings). index_end s ≤ length held) (pair_passes held side f) (held_indexed held e).reached

-- The verdict by that of each part: judged are the tests of the side file, last those that stand behind.
module _ (held side : List ℕ) (judged last : List Test) where
  abbrev all : List Test
  all = follow_tests held side judged last

  abbrev pair : List Test
  pair = pair_tests (header_of held) (header_of side)

  pub kept_stops : (r : Refusal) → code r ≡ verdict (kept_tests held) → code r ≡ verdict all
  kept_stops r = stops (kept_tests held) (judged ++ (pair ++ last)) r

  module _ (k : 0 ≡ verdict (kept_tests held)) where
    behind_kept : verdict (judged ++ (pair ++ last)) ≡ verdict all
    unfolding kept_tests all_of
    behind_kept = goes_on (kept_tests held) (judged ++ (pair ++ last)) refl k

    pub side_stops : (r : Refusal) → code r ≡ verdict judged → code r ≡ verdict all
    side_stops r e = stops judged (pair ++ last) r e ∙ behind_kept

    module _ (a : all_of numbered judged ≡ true) (j : 0 ≡ verdict judged) where
      behind_side : verdict (pair ++ last) ≡ verdict all
      behind_side = goes_on judged (pair ++ last) a j ∙ behind_kept

      pub pair_stops : (r : Refusal) → code r ≡ verdict pair → code r ≡ verdict all
      pair_stops r e = stops pair last r e ∙ behind_side

      pub behind_pair : 0 ≡ verdict pair → verdict last ≡ verdict all
      unfolding pair_tests all_of
      behind_pair p = goes_on pair last refl p ∙ behind_side
