-- What tests that pass tell, and what tests that fail answer: those of a side file at the judge's three extents. A caller
-- that was given 0 has these facts. Assumes nothing.
use Rattle.std.specs.Prelude.{ℕ, ◌+◌, ◌-◌, ◌*◌, ◌≤◌, ◌<◌, min, ◌≡◌, refl, Bool, true, false, List, ◌++◌, eqb, ltb, leb, length, take}
use Rattle.std.proofs.Common.{arith, lit<, leb-true, ltb-true, eqb-true}
use Rattle.lists.specs.Scans.{Every, all_of}
use Rattle.lists.specs.laws.Scans.{head, tail, every_map, all_of_every}
use Rattle.octets.specs.Number.{le16, le32}
use Rattle.octets.specs.Part.{part}
use Rattle.units.specs.laws.Bounds.{limits_within, index_end_most, first_image_least}
use Rattle.units.specs.Refusals.{foreign, damaged, code}
use Rattle.units.specs.declared.refusal.Refusal.{Refusal}
use Rattle.units.specs.declared.refusal.Refusal.TheVariants as Reason
use Rattle.units.specs.Sizes.{header_length, index_row, limits, entries, places, index_end, side_length}
use Rattle.units.specs.Tests.{passes, verdict}
use Rattle.units.specs.laws.Tests.{passes_every, passes_both, verdict_by, verdict_none}
use Rattle.units.specs.declared.Settings.{Settings}
use Rattle.sidefile.specs.declared.IndexEntry.{IndexEntry}
use Rattle.sidefile.specs.Encode.{checksum, header_of, index_of}
use Rattle.sidefile.specs.Judge.{ascending, apart, mark_tests, header_tests, index_tests, reaches, holds, whole_tests, front_tests, held_tests}

-- what is asked of a length n: that of a whole side file, or that of a held buffer
abbrev pub asks : Bool → ℕ → Settings → Bool
asks true n = reaches n
asks false n = holds n

-- header and index at the largest settings
abbrev pub most_front : ℕ
most_front = header_length + index_row * 144

-- 0 is the number of no refusal
pub numbered : (r : Refusal) → 0 < code r
numbered Reason.Settings = lit< tt
numbered Reason.Short = lit< tt
numbered Reason.State = lit< tt
numbered Reason.Page = lit< tt
numbered Reason.Kind = lit< tt
numbered Reason.Span = lit< tt
numbered Reason.NoSlot = lit< tt
numbered Reason.NoPage = lit< tt
numbered Reason.LastTick = lit< tt
numbered Reason.NoPlace = lit< tt
numbered Reason.Foreign = lit< tt
numbered Reason.Damaged = lit< tt
numbered Reason.Lag = lit< tt
numbered Reason.Image = lit< tt

-- The tests of a side file.

pub mark_length : (xs : List ℕ) → passes (mark_tests xs) ≡ true → header_length ≤ length xs
unfolding mark_tests
mark_length xs e = leb-true header_length (length xs) (head (passes_every (mark_tests xs) e))

pub mark_refused : (xs : List ℕ) → passes (mark_tests xs) ≡ false → verdict (mark_tests xs) ≡ foreign
unfolding mark_tests all_of
mark_refused xs e = verdict_by foreign (mark_tests xs) refl e

pub header_refused : (long : Settings → Bool) (xs : List ℕ) → passes (header_tests long xs) ≡ false
    → verdict (header_tests long xs) ≡ damaged
unfolding header_tests all_of
header_refused long xs e = verdict_by damaged (header_tests long xs) refl e

pub index_refused : (xs : List ℕ) → passes (index_tests xs) ≡ false → verdict (index_tests xs) ≡ damaged
unfolding index_tests all_of
index_refused xs e = verdict_by damaged (index_tests xs) refl e

pub record HeaderPassed (long : Settings → Bool) (xs : List ℕ) : Type 0 where
  pub summed : checksum (take 32 xs) ≡ le32 xs 32
  pub limited : limits (header_of xs).settings ≡ true
  pub zeroed : le16 xs 26 ≡ 0
  pub asked : long (header_of xs).settings ≡ true
  pub ended : (header_of xs).end ≤ 65535
  pub few : (header_of xs).entries ≤ entries (header_of xs).settings

pub header_passed : (long : Settings → Bool) (xs : List ℕ) → passes (header_tests long xs) ≡ true → HeaderPassed long xs
unfolding header_tests
header_passed long xs e =
    let a = passes_every (header_tests long xs) e in
    let b = tail a in
    let c = tail b in
    let d = tail c in
    let f = tail d in
    record {
      summed = eqb-true (checksum (take 32 xs)) (le32 xs 32) (head a);
      limited = head b;
      zeroed = eqb-true (le16 xs 26) 0 (head c);
      asked = head d;
      ended = leb-true (header_of xs).end 65535 (head f);
      few = leb-true (header_of xs).entries (entries (header_of xs).settings) (head (tail f));
    }

pub record IndexPassed (xs : List ℕ) : Type 0 where
  pub ascends : ascending 0 (index_of xs) ≡ true
  pub pages : Every (λ x. x.page.0 < (header_of xs).end) (index_of xs)
  pub placed : Every (λ x. x.place.0 < places (header_of xs).settings) (index_of xs)
  pub alone : apart (index_of xs) ≡ true
  pub earlier : Every (λ x. x.changed.0 ≤ (header_of xs).closed.0) (index_of xs)
  pub spare : all_of (eqb 0) (part xs (header_length + index_row * (header_of xs).entries) (index_row * (entries (header_of xs).settings - (header_of xs).entries))) ≡ true
  pub summed : checksum (part xs header_length (index_row * (header_of xs).entries)) ≡ le32 xs 28

pub index_passed : (xs : List ℕ) → passes (index_tests xs) ≡ true → IndexPassed xs
unfolding index_tests
index_passed xs e =
    let a = passes_every (index_tests xs) e in
    let b = tail a in
    let c = tail b in
    let d = tail c in
    let f = tail d in
    let g = tail f in
    record {
      ascends = head a;
      pages = all_facts (λ x. ltb x.page.0 (header_of xs).end) (λ x. ltb-true x.page.0 (header_of xs).end) (head b);
      placed =
          all_facts (λ x. ltb x.place.0 (places (header_of xs).settings))
          (λ x. ltb-true x.place.0 (places (header_of xs).settings))
          (head c);
      alone = head d;
      earlier = all_facts (λ x. leb x.changed.0 (header_of xs).closed.0) (λ x. leb-true x.changed.0 (header_of xs).closed.0) (head f);
      spare = head g;
      summed = eqb-true _ _ (head (tail g));
    }
  where
    all_facts : {P : IndexEntry → Type 0} (t : IndexEntry → Bool) → ((x : IndexEntry) → t x ≡ true → P x)
        → all_of t (index_of xs) ≡ true
        → Every P (index_of xs)
    all_facts t f e = every_map f (index_of xs) (all_of_every t (index_of xs) e)

-- what the index can be judged by: the header passed, and the bytes at hand reach its end
pub record Indexed (xs : List ℕ) : Type 0 where
  pub limited : limits (header_of xs).settings ≡ true
  pub few : (header_of xs).entries ≤ entries (header_of xs).settings
  pub reached : index_end (header_of xs).settings ≤ length xs

pub indexed_whole : (n : ℕ) (xs : List ℕ) → passes (header_tests (reaches n) xs) ≡ true → min n most_front ≤ length xs → Indexed xs
unfolding side_length
indexed_whole n xs e h =
    let p = header_passed (reaches n) xs e in
    let s = (header_of xs).settings in
    let w = limits_within s p.limited in
    record {
      limited = p.limited;
      few = p.few;
      reached = omega (arith, leb-true (side_length s) n p.asked, first_image_least s w, index_end_most s w);
    }

pub indexed_held : (xs : List ℕ) → passes (header_tests (holds (length xs)) xs) ≡ true → Indexed xs
indexed_held xs e =
    let p = header_passed (holds (length xs)) xs e in
    record { limited = p.limited; few = p.few; reached = leb-true (index_end (header_of xs).settings) (length xs) p.asked }

-- The three extents: header and length; header, length and index, of a whole side file or of a held buffer.

pub record FrontPassed (long : Settings → Bool) (xs : List ℕ) : Type 0 where
  pub whole : header_length ≤ length xs
  pub header : HeaderPassed long xs

pub record AllPassed (long : Settings → Bool) (xs : List ℕ) : Type 0 where
  pub front : FrontPassed long xs
  pub index : IndexPassed xs

module _ (long : Settings → Bool) (xs : List ℕ) where
  parts_passed : passes (mark_tests xs ++ header_tests long xs) ≡ true → FrontPassed long xs
  parts_passed e =
      let a = passes_both (mark_tests xs) (header_tests long xs) e in
      record { whole = mark_length xs a.0; header = header_passed long xs a.1 }

  all_passed : passes (mark_tests xs ++ (header_tests long xs ++ index_tests xs)) ≡ true → AllPassed long xs
  all_passed e =
      let a = passes_both (mark_tests xs) (header_tests long xs ++ index_tests xs) e in
      let b = passes_both (header_tests long xs) (index_tests xs) a.1 in
      record {
        front = record { whole = mark_length xs a.0; header = header_passed long xs b.0 };
        index = index_passed xs b.1;
      }

pub front_passed : (n : ℕ) (xs : List ℕ) → passes (front_tests n xs) ≡ true → FrontPassed (reaches n) xs
unfolding front_tests
front_passed n xs e = parts_passed (reaches n) xs e

pub whole_passed : (n : ℕ) (xs : List ℕ) → passes (whole_tests n xs) ≡ true → AllPassed (reaches n) xs
unfolding whole_tests
whole_passed n xs e = all_passed (reaches n) xs e

pub held_passed : (xs : List ℕ) → passes (held_tests xs) ≡ true → AllPassed (holds (length xs)) xs
unfolding held_tests
held_passed xs e = all_passed (holds (length xs)) xs e

-- an answer of 0 says that they pass
pub front_accepted : (n : ℕ) (xs : List ℕ) → verdict (front_tests n xs) ≡ 0 → passes (front_tests n xs) ≡ true
unfolding front_tests mark_tests header_tests all_of
front_accepted n xs e = verdict_none (front_tests n xs) refl e

pub whole_accepted : (n : ℕ) (xs : List ℕ) → verdict (whole_tests n xs) ≡ 0 → passes (whole_tests n xs) ≡ true
unfolding whole_tests mark_tests header_tests index_tests all_of
whole_accepted n xs e = verdict_none (whole_tests n xs) refl e
