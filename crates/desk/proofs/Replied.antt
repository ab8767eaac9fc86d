-- The outcomes of take and refresh, by where the code returns. Assumes nothing.
use Prim.Native.Nat.{ℕ, ◌≤◌, ◌<◌}
use mathlib.Core.Bool.{true}
use mathlib.Core.List.{List, [], ◌∷◌, ◌++◌, map}
use mathlib.Core.Path.{◌≡◌, refl, ◌∙◌, sym, ap}
use lib.Dec.{leb}
use lib.ListN.{length, drop}
use borrow.Author.Tests.{le-leb, lt-leb}
use Rattle.lists.specs.Below.{below}
use Rattle.lists.specs.Scans.{all_of}
use Rattle.octets.specs.Part.{part, lay}
use Rattle.units.specs.Refusals as Refusals
use Rattle.units.specs.Refusals.{code}
use Rattle.units.specs.Sizes.{index_end}
use Rattle.units.specs.Tests.{Test, numbered, verdict}
use Rattle.units.specs.laws.Tests.{refused_by, tested_passes, verdict_none}
use Rattle.units.specs.declared.refusal.Refusal.{Refusal}
use Rattle.units.specs.declared.refusal.Refusal.TheVariants as Reason
use Rattle.sidefile.specs.Encode.{header_of, index_of}
use Rattle.sidefile.specs.Judge.{mark_tests, header_tests, index_tests, whole_tests}
use Rattle.sidefile.specs.declared.Header.{Header}
use Rattle.desk.specs.inner.Follow.{kept_tests, pair_tests, follow_tests}
use Rattle.desk.specs.Outcome.{TakeDone, RefreshDone}
use Rattle.desk.specs.Take.{Taken, untaken, held_length, taken, take_tests, take_reply, mark_of, marks_after, refresh_tests, refresh_reply}
use Rattle.desk.proofs.Followed.{code_some, stops, goes_on, kept_stops, side_stops, pair_stops, behind_pair}

took : {reply : Taken} (t : Taken) → reply ≡ t → TakeDone reply t.number t.held
took t e = record { answered = ap (λ (t : Taken). t.number) (sym e); holds = ap (λ (t : Taken). t.held) (sym e) }

refreshed : {reply : Taken} (t : Taken) → reply ≡ t → RefreshDone reply t.number t.held t.marks
refreshed t e =
    record {
      answered = ap (λ (t : Taken). t.number) (sym e);
      holds = ap (λ (t : Taken). t.held) (sym e);
      marked = ap (λ (t : Taken). t.marks) (sym e);
    }

-- a test of room, as the last
module _ (n m : ℕ) where
  abbrev room : List Test
  room = (Refusals.short, leb n m) ∷ []

  narrow : m < n → Refusals.short ≡ verdict room
  unfolding verdict
  narrow h = rw (lt-leb n m h)

  roomy : n ≤ m → 0 ≡ verdict room
  unfolding verdict
  roomy h = rw (le-leb n m h)

module _ (side held : List ℕ) where
  abbrev whole : List Test
  whole = whole_tests (length side) side

  abbrev take : List Test
  take = whole ++ room (held_length side) (length held)

  numbered_whole : all_of numbered whole ≡ true
  unfolding whole_tests mark_tests header_tests index_tests all_of
  numbered_whole = refl

  numbered_take : all_of numbered take ≡ true
  unfolding whole_tests mark_tests header_tests index_tests all_of
  numbered_take = refl

  take_stopped : (r : Refusal) → code r ≡ verdict take → TakeDone (take_reply side held) (code r) held
  unfolding take_reply take_tests
  take_stopped r e = took (untaken held [] (code r)) (refused_by (untaken held []) _ take (code r) e (code_some r))

  pub take_refused : (r : Refusal) → code r ≡ verdict whole → TakeDone (take_reply side held) (code r) held
  take_refused r e = take_stopped r (stops whole (room (held_length side) (length held)) r e)

  module _ (w : 0 ≡ verdict whole) (n : ℕ) (e : n ≡ held_length side) where
    pub take_short : length held < n → TakeDone (take_reply side held) Refusals.short held
    take_short h = take_stopped Reason.Short (narrow (held_length side) (length held) (rw e at h) ∙ goes_on whole (room (held_length side) (length held)) numbered_whole w)

    pub take_done : n ≤ length held → TakeDone (take_reply side held) 0 (lay held 0 (part side 0 n))
    unfolding take_reply take_tests taken
    take_done h =
        let v = roomy (held_length side) (length held) (rw e at h) ∙ goes_on whole (room (held_length side) (length held)) numbered_whole w in
        rw e
        (took (record { number = 0; held = taken side held; marks = [] })
        (tested_passes (untaken held []) _ take (verdict_none take numbered_take (sym v))))

module _ (side held marks : List ℕ) where
  abbrev refresh : List Test
  refresh = refresh_tests side held marks

  abbrev left : ℕ → Taken
  left = untaken held marks

  abbrev last : List Test
  last = room (header_of side).end (length marks)

  refresh_stopped : (r : Refusal) → code r ≡ verdict refresh → RefreshDone (refresh_reply side held marks) (code r) held marks
  unfolding refresh_reply
  refresh_stopped r e = refreshed (left (code r)) (refused_by left _ refresh (code r) e (code_some r))

  by_parts : refresh ≡ follow_tests held side (whole side held) last
  unfolding refresh_tests kept_tests pair_tests whole_tests mark_tests header_tests index_tests
  by_parts = refl

  numbered_refresh : all_of numbered refresh ≡ true
  unfolding refresh_tests whole_tests mark_tests header_tests index_tests all_of
  numbered_refresh = refl

  parts_stopped : (r : Refusal) → code r ≡ verdict (follow_tests held side (whole side held) last) → RefreshDone (refresh_reply side held marks) (code r) held marks
  parts_stopped r e = refresh_stopped r (e ∙ sym (ap verdict by_parts))

  pub kept_refused : (r : Refusal) → code r ≡ verdict (kept_tests held) → RefreshDone (refresh_reply side held marks) (code r) held marks
  kept_refused r e = parts_stopped r (kept_stops held side (whole side held) last r e)

  module _ (k : 0 ≡ verdict (kept_tests held)) where
    pub side_refused : (r : Refusal) → code r ≡ verdict (whole side held) → RefreshDone (refresh_reply side held marks) (code r) held marks
    side_refused r e = parts_stopped r (side_stops held side (whole side held) last k r e)

    module _ (w : 0 ≡ verdict (whole side held)) where
      pub pair_refused : (r : Refusal) → code r ≡ verdict (pair_tests (header_of held) (header_of side)) → RefreshDone (refresh_reply side held marks) (code r) held marks
      pair_refused r e = parts_stopped r (pair_stops held side (whole side held) last k (numbered_whole side held) w r e)

      module _ (p : 0 ≡ verdict (pair_tests (header_of held) (header_of side))) (new : Header) (f : new ≡ header_of side) where
        behind : verdict last ≡ verdict (follow_tests held side (whole side held) last)
        behind = behind_pair held side (whole side held) last k (numbered_whole side held) w p

        pub refresh_short : length marks < new.end → RefreshDone (refresh_reply side held marks) Refusals.short held marks
        refresh_short h = parts_stopped Reason.Short (narrow (header_of side).end (length marks) (rw f at h) ∙ behind)

        pub refresh_done : (old : Header) → old ≡ header_of held → new.end ≤ length marks → (n : ℕ) → n ≡ index_end new.settings
            → RefreshDone (refresh_reply side held marks) 0 (lay held 0 (part side 0 n))
            (map (mark_of old.closed (index_of side)) (below new.end) ++ drop new.end marks)
        unfolding refresh_reply taken marks_after
        refresh_done old e h n g =
            let v = roomy (header_of side).end (length marks) (rw f at h) ∙ behind ∙ sym (ap verdict by_parts) in
            rw (g, e, f)
            (refreshed (record { number = 0; held = taken side held; marks = marks_after side held marks })
            (tested_passes left _ refresh (verdict_none refresh numbered_refresh (sym v))))
