-- A desk that takes right after an open or a close reads each page of the file as the recorder had it then; and within the
-- lag it still does, whatever the recorder did since. Assumes nothing.
use Rattle.std.specs.Prelude.{ℕ, ◌+◌, ◌<◌, ◌≤◌, ◌≡◌, true, eqb}
use Rattle.std.proofs.Math.Path.{refl, ap}
use Rattle.std.proofs.Common.{◌∙◌, sym, inr, arith, eq-eqb, eqb-true}
use Rattle.std.proofs.Math.Bool.{false}
use mathlib.Core.List.{List}
use Rattle.std.proofs.Math.Option.{Option, some, none}
use Rattle.lists.specs.laws.Bools.{false_of}
use Rattle.lists.specs.Scans.{all_of}
use Rattle.lists.specs.laws.Scans.{every_two, first_some}
use Rattle.octets.specs.Part.{part}
use Rattle.octets.specs.Rows.{page}
use Rattle.units.specs.Refusals as Refusals
use Rattle.units.specs.Tests.{passes, tested}
use Rattle.units.specs.laws.Tests.{tested_passes, tested_accepted}
use Rattle.sidefile.specs.Encode.{image_sum}
use Rattle.slots.specs.laws.Order.{not_some}
use Rattle.slots.specs.laws.Sits.{slot_found, slot_occupied}
use Rattle.slots.specs.Table.{changed_at}
use Rattle.ledger.specs.Entries.{page_of, place_of, has, find, is_owed}
use Rattle.ledger.specs.declared.Entry.{Entry}
use Rattle.recorder.specs.World.{World, page_size, entries_of, kind_of, slot_count, wait_of, base_bytes, image_bytes, slot_for}
use Rattle.desk.specs.Read.{Answer, refused}
use Rattle.recorder.specs.laws.Facts.{EntryFacts, end_small}
use Rattle.promises.specs.worlds.Good.{view, view_by, contents, has_by, Good, Kept}
use Rattle.promises.specs.desks.Taken.{Took}
use Rattle.promises.specs.desks.Lagging.{desk_in, InLag, page_tests, page_passes, answer_by, answer, reads, same_answer}

-- no slot is changed
abbrev pub Unchanged : World → Type 0
Unchanged w = (i : ℕ) → i < slot_count w → changed_at w.state.slots i ≡ false

-- A page that is not changed has for the recorder the bytes that a desk with its index reads; and those are answered.
pub contents_view : (w : World) → Good w → (p : ℕ) → p < w.state.end
    → ((i : ℕ) → slot_for w p ≡ some i → changed_at w.state.slots i ≡ false)
    → contents w p ≡ view w p
unfolding contents view slot_for find has
contents_view w g p b still = go (slot_for w p) refl
  where
    -- an entry whose page is in no slot is not owed
    not_owed : (x : Entry) → EntryFacts w x → page_of x ≡ p → slot_for w p ≡ none
        → is_owed (wait_of w) w.state.closed x ≡ false
    not_owed x f e q =
        false_of (is_owed (wait_of w) w.state.closed x) (λ o. not_some q (ap (slot_for w) (sym e) ∙ (f.owed_held o).1))

    base : (o : Option Entry) → find p (entries_of w) ≡ o → slot_for w p ≡ none → base_bytes w p ≡ view_by w p o
    base none e q = refl
    base (some x) e q =
        let r = first_some (has p) (entries_of w) x (every_two (entries_of w) g.ruled.facts.each g.written) e in
        let z = eqb-true (page_of x) p r.0 in
        ap (base_bytes w) (sym z) ∙ sym (r.1.1 (not_owed x r.1.0 z q))

    go : (o : Option ℕ) → slot_for w p ≡ o → has_by w p o ≡ view_by w p (find p (entries_of w))
    go none q = base (find p (entries_of w)) refl q
    go (some i) q =
        let r = slot_found (slot_count w) w.state.slots p i q in
        let v = slot_occupied (slot_count w) w.state.slots p i (omega (arith, end_small w g.ruled)) q in
        g.slots i r.0 v (still i q) ∙ ap (λ (p : ℕ). view_by w p (find p (entries_of w))) r.1

pub answer_view : (w : World) → Good w → (p offset n : ℕ)
    → ((answer w w p offset n).number ≡ 0) × ((answer w w p offset n).bytes ≡ part (view w p) offset n)
unfolding answer view find
answer_view w g p offset n = go (find p (entries_of w)) refl
  where
    go : (o : Option Entry) → find p (entries_of w) ≡ o
        → ((answer_by w w p offset n o).number ≡ 0) × ((answer_by w w p offset n o).bytes ≡ part (view_by w p o) offset n)
    go none e = (refl, refl)
    go (some x) e =
        let s : eqb (image_sum x.page (image_bytes w (place_of x))) x.sum ≡ true
        = eq-eqb _ _ (first_some (has p) (entries_of w) x g.sums e).1 in
        (rw s, rw s)

-- A world right after an open or a close: the file has no page that came later, and no slot is changed.
module _ (w₀ : World) (g₀ : Good w₀) (whole : g₀.ending ≡ w₀.state.end) (still : Unchanged w₀)
    (held : List ℕ) (t : Took w₀ held) (p : ℕ) (b : p < w₀.state.end) (offset n : ℕ) where
  abbrev got : Answer
  got = desk_in held w₀ p offset n

  got_is : got ≡ tested (page_tests (page_size w₀) g₀.ending p offset n) refused (answer w₀ w₀ p offset n)
  got_is = reads w₀ w₀ g₀ g₀ refl (omega arith) (omega arith) held t refl p offset n

  as_held : passes (page_tests (page_size w₀) g₀.ending p offset n) ≡ true
      → (got.number ≡ 0) × (got.bytes ≡ part (contents w₀ p) offset n)
  unfolding slot_for
  as_held h =
      let e = got_is ∙ tested_passes refused (answer w₀ w₀ p offset n) (page_tests (page_size w₀) g₀.ending p offset n) h in
      let v = answer_view w₀ g₀ p offset n in (
        ap (λ (a : Answer). a.number) e ∙ v.0,
        ap (λ (a : Answer). a.bytes) e ∙ v.1 ∙ ap (λ (xs : List ℕ). part xs offset n) (sym (contents_view w₀ g₀ p b unchanged)),
      )
    where
      unchanged : (i : ℕ) → slot_for w₀ p ≡ some i → changed_at w₀.state.slots i ≡ false
      unchanged i e = still i (slot_found (slot_count w₀) w₀.state.slots p i e).0

  -- a desk that takes there reads each page of the file as it was held then, and what it reads is that
  pub snapshot : 1 ≤ n → offset + n ≤ page_size w₀ → (got.number ≡ 0) × (got.bytes ≡ part (contents w₀ p) offset n)
  snapshot h k = as_held (page_passes (page_size w₀) g₀.ending p offset n (omega arith) h k)

  pub snapshot_read : got.number ≡ 0 → got.bytes ≡ part (contents w₀ p) offset n
  unfolding page_tests all_of
  snapshot_read h =
      (as_held
      (tested_accepted refused (answer w₀ w₀ p offset n) (λ a. a.number) (λ n. refl)
      (page_tests (page_size w₀) g₀.ending p offset n) refl
      (ap (λ (a : Answer). a.number) (sym got_is) ∙ h))
      ).1

-- the same of a desk that reads later, within the lag: demand 3 for a metadata page in the file at that close
module _ (w₀ w : World) (g₀ : Good w₀) (g : Good w) (k : Kept w₀ w) (lag : InLag w₀ w)
    (whole : g₀.ending ≡ w₀.state.end) (still : Unchanged w₀) (held : List ℕ) (t : Took w₀ held) (p : ℕ) (b : p < w₀.state.end) (m : kind_of w₀ p ≡ 0) (offset n : ℕ) where
  abbrev later : Answer
  later = desk_in held w p offset n

  same : later ≡ desk_in held w₀ p offset n
  same = same_answer w₀ w g₀ g k lag held t p offset n (inr m)

  pub later_snapshot : 1 ≤ n → offset + n ≤ page_size w₀ → (later.number ≡ 0) × (later.bytes ≡ part (contents w₀ p) offset n)
  later_snapshot h l =
      let r = snapshot w₀ g₀ whole still held t p b offset n h l in
      (ap (λ (a : Answer). a.number) same ∙ r.0, ap (λ (a : Answer). a.bytes) same ∙ r.1)

  pub later_read : later.number ≡ 0 → later.bytes ≡ part (contents w₀ p) offset n
  later_read h =
      ap (λ (a : Answer). a.bytes) same
      ∙ snapshot_read w₀ g₀ whole still held t p b offset n (ap (λ (a : Answer). a.number) (sym same) ∙ h)
