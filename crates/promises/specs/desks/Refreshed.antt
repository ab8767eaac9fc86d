-- A refresh is a take: an accepted refresh leaves the buffer that a take would leave, for any files. A desk that holds the
-- index of a good world and refreshes at a later one, within the lag, holds that one's index then; and its marks tell which
-- pages changed since, by the last-change tick alone. Assumes nothing.
use Rattle.std.specs.Prelude.{ℕ, ◌+◌, ◌-◌, ◌<◌, ◌≤◌, ◌≡◌, Bool, false, ◌&&◌, ◌||◌, eqb, ltb, drop, get_or}
use Rattle.std.proofs.Math.Path.{refl, ap}
use Rattle.std.proofs.Common.{◌∙◌, sym, subst, arith, get_or-append-add, get_or-drop}
use Rattle.std.proofs.Math.Bool.{true}
use mathlib.Core.List.{List, [], ◌∷◌, ◌++◌, map}
use Rattle.std.proofs.Math.Option.{Option, some, none}
use Rattle.std.proofs.Math.Dec.{leb}
use Rattle.std.proofs.Math.ListN.{length, get_or-append}
use Rattle.std.proofs.lemmas.List.{length-map}
use borrow.Author.Tests.{lt-ltb, le-leb, eqb-true, ltb-true, leb-true}
use Rattle.lists.specs.Below.{below}
use Rattle.lists.specs.laws.Below.{length_from, get_from}
use Rattle.lists.specs.Bools.{if_then}
use Rattle.lists.specs.laws.Bools.{both, and_make, or_no}
use Rattle.lists.specs.Scans.{all_of, any_of, first}
use Rattle.lists.specs.laws.Scans.{none_first}
use Rattle.octets.specs.Part.{part, lay}
use Rattle.units.specs.Refusals as Refusals
use Rattle.units.specs.Sizes.{wait, entries, index_end}
use Rattle.units.specs.Tests.{passes}
use Rattle.units.specs.laws.Tests.{tested_passes, passes_append, passes_both, tested_accepted}
use Rattle.units.specs.declared.Settings.{Settings}
use Rattle.units.specs.declared.Tick.{Tick}
use Rattle.sidefile.specs.Encode.{header_of, index_of}
use Rattle.sidefile.specs.Judge.{ascending, mark_tests, header_tests, index_tests, whole_tests, held_tests}
use Rattle.sidefile.specs.inner.Passed.{held_passed}
use Rattle.sidefile.specs.declared.Header.{Header}
use Rattle.sidefile.specs.declared.IndexEntry.{IndexEntry}
use Rattle.ledger.specs.Entries.{page_of, has, find}
use Rattle.ledger.specs.laws.Ordered.{asc_inv, asc_once, find_some}
use Rattle.ledger.specs.View.{indexed}
use Rattle.ledger.specs.declared.Entry.{Entry}
use Rattle.recorder.specs.World.{World, entries_of}
use Rattle.desk.specs.Take.{Taken, untaken, held_length, taken, take_tests, take_reply, same_settings, mark_of, marks_after, refresh_tests, refresh_reply}
use Rattle.promises.specs.worlds.Encoded.{encodes_good}
use Rattle.promises.specs.worlds.Good.{Good}
use Rattle.promises.specs.desks.Taken.{Took, index_in, taken_is, took_take, held_header, held_accepted, held_long, side_header, side_index, side_accepted}
use Rattle.promises.specs.desks.Lagging.{InLag, settings_held, lag_held}

-- a held buffer that passes its tests has the length that its settings ask for
held_fits : (held : List ℕ) → passes (held_tests held) ≡ true → index_end (header_of held).settings ≤ length held
held_fits held h = leb-true (index_end (header_of held).settings) (length held) (held_passed held h).front.header.asked

-- and of equal settings as much is held
index_same : (s t : Settings) → same_settings s t ≡ true → index_end s ≡ index_end t
unfolding same_settings index_end entries wait
index_same s t h =
    let a = both (eqb s.size t.size && eqb s.slots t.slots) (eqb s.lag t.lag) h in
    let b = both (eqb s.size t.size) (eqb s.slots t.slots) a.0 in
    rw (eqb-true s.slots t.slots b.1, eqb-true s.lag t.lag a.1)

module _ (side held marks : List ℕ) (h : (refresh_reply side held marks).number ≡ 0) where
  refresh_passes : passes (refresh_tests side held marks) ≡ true
  unfolding refresh_reply refresh_tests whole_tests mark_tests header_tests index_tests all_of
  refresh_passes = tested_accepted (untaken held marks) _ (λ r. r.number) (λ n. refl) (refresh_tests side held marks) refl h

  take_passes : passes (take_tests side held) ≡ true
  unfolding refresh_tests take_tests passes
  take_passes =
      let a = both (passes (held_tests held)) _ refresh_passes in
      let b = passes_both (whole_tests (length side) side) _ a.1 in
      let c = both (same_settings (header_of held).settings (header_of side).settings) _ b.1 in
      let room : held_length side ≤ length held = omega (arith, held_fits held a.0, index_same _ _ c.0) in
      passes_append (whole_tests (length side) side) ((Refusals.short, leb (held_length side) (length held)) ∷ []) b.0
      (rw (le-leb (held_length side) (length held) room))

  -- a refresh that is accepted is a take that is accepted
  pub refresh_is_take : ((take_reply side held).number ≡ 0) × ((refresh_reply side held marks).held ≡ (take_reply side held).held)
  unfolding refresh_reply take_reply
  refresh_is_take =
      let r =
      tested_passes (untaken held marks) (record { number = 0; held = taken side held; marks = marks_after side held marks })
      (refresh_tests side held marks) refresh_passes in
      let t = tested_passes (untaken held []) (record { number = 0; held = taken side held; marks = [] }) (take_tests side held) take_passes in
      (ap (λ (a : Taken). a.number) t, ap (λ (a : Taken). a.held) r ∙ ap (λ (a : Taken). a.held) (sym t))

-- the mark of a page, by the entry that the page has: whether its last change was after the held tick
abbrev changed_since : Tick → Option Entry → Bool
changed_since t none = false
changed_since t (some e) = ltb t.0 e.changed.0

abbrev pub mark_by : Tick → Option Entry → ℕ
mark_by t o = if_then (changed_since t o) 1 0

any_since : (t : Tick) (p low : ℕ) (es : List Entry) → ascending low (map indexed es) ≡ true
    → any_of (λ x. eqb x.page.0 p && ltb t.0 x.changed.0) (map indexed es) ≡ changed_since t (find p es)
unfolding any_of find first has
any_since t p low [] a = refl
any_since t p low (x ∷ xs) a =
    let i = asc_inv low x xs a in
    go (eqb (page_of x) p) refl (any_since t p (page_of x + 1) xs i.1)
  where
    rest : Bool
    rest = any_of (λ x. eqb x.page.0 p && ltb t.0 x.changed.0) (map indexed xs)

    go : (b : Bool) → eqb (page_of x) p ≡ b → rest ≡ changed_since t (find p xs)
        → (b && ltb t.0 x.changed.0 || rest) ≡ changed_since t (if_then b (some x) (find p xs))
    go true q ih =
        let z = eqb-true (page_of x) p q in
        let n : find p xs ≡ none = none_first (has p) xs (subst (λ (p : ℕ). any_of (has p) xs ≡ false) z (asc_once low x xs a)) in
        ap (λ (b : Bool). ltb t.0 x.changed.0 || b) (ih ∙ ap (changed_since t) n) ∙ or_no (ltb t.0 x.changed.0)
    go false q ih = ih

pub mark_find : (t : Tick) (p : ℕ) (es : List Entry) → ascending 0 (map indexed es) ≡ true
    → mark_of t (map indexed es) p ≡ mark_by t (find p es)
unfolding mark_of
mark_find t p es a = ap (λ (b : Bool). if_then b 1 0) (any_since t p 0 es a)

-- a desk that holds the index of w₀ and refreshes at w: of the same settings, within the lag, with a mark byte for each page
module _ (w₀ w : World) (g₀ : Good w₀) (g : Good w) (same : w.state.settings ≡ w₀.state.settings)
    (since : w₀.state.closed.0 ≤ w.state.closed.0) (lag : InLag w₀ w) (held : List ℕ) (t : Took w₀ held)
    (marks : List ℕ) (room : g.ending ≤ length marks) where
  abbrev s : Settings
  s = w.state.settings

  abbrev after : Taken
  after = refresh_reply w.side held marks

  held_room : index_end s ≤ length held
  held_room = subst (λ (s : Settings). index_end s ≤ length held) (sym same) (held_long w₀ g₀ held t)

  -- the new marks, and with them what lies behind
  abbrev marked : Tick → List IndexEntry → ℕ → List ℕ
  marked tick xs n = map (mark_of tick xs) (below n) ++ drop n marks

  marks_are : marks_after w.side held marks ≡ marked w₀.state.closed (index_in w) g.ending
  unfolding marks_after
  marks_are =
      ap (λ (h : Header). marked h.closed (index_of w.side) (header_of w.side).end) (held_header w₀ g₀ held t)
      ∙ ap (λ (xs : List IndexEntry). marked w₀.state.closed xs (header_of w.side).end) (side_index w g)
      ∙ ap (λ (h : Header). marked w₀.state.closed (index_in w) h.end) (side_header w g)

  pub refreshes : after ≡ record {
    number = 0;
    held = lay held 0 (part w.side 0 (index_end s));
    marks = marked w₀.state.closed (index_in w) g.ending;
  }
  unfolding refresh_reply refresh_tests passes
  refreshes =
      let long : leb (header_of w.side).end (length marks) ≡ true
      = ap (λ (h : Header). leb h.end (length marks)) (side_header w g) ∙ le-leb g.ending (length marks) room in
      tested_passes (untaken held marks) _ (refresh_tests w.side held marks)
      (and_make (passes (held_tests held)) _ (held_accepted w₀ g₀ held t)
      (passes_append (whole_tests (length w.side) w.side) _ (side_accepted w g)
      (rw (settings_held w₀ w g₀ g same since lag held t, lag_held w₀ w g₀ g same since lag held t, long))))
      ∙ ap (λ (h : List ℕ). record { number = 0; held = h; marks = marks_after w.side held marks })
      (taken_is s w.state.closed g.ending (index_in w) (encodes_good w g) w.side g.front held)
      ∙ ap (λ (m : List ℕ). record { number = 0; held = lay held 0 (part w.side 0 (index_end s)); marks = m }) marks_are

  -- and holds the index of w then
  pub took_refresh : Took w after.held
  took_refresh =
      ap (λ (h : List ℕ). part h 0 (index_end s)) (refresh_is_take w.side held marks (ap (λ (r : Taken). r.number) refreshes)).1
      ∙ took_take w g held held_room

  -- a mark for each page below e; what lies behind the marks is as it was
  abbrev mark : ℕ → ℕ
  mark = mark_of w₀.state.closed (index_in w)

  length_marks : length (map mark (below g.ending)) ≡ g.ending
  length_marks = length-map (below g.ending) mark ∙ length_from 0 g.ending

  pub mark_at : (p : ℕ) → p < g.ending → get_or after.marks p 0 ≡ mark_by w₀.state.closed (find p (entries_of w))
  mark_at p h =
      ap (λ (r : Taken). get_or r.marks p 0) refreshes
      ∙ get_or-append (map mark (below g.ending)) (drop g.ending marks) 0 p (omega (arith, length_marks))
      ∙ get_from mark 0 0 g.ending p h
      ∙ ap mark (omega arith)
      ∙ mark_find w₀.state.closed p (entries_of w) g.ruled.facts.ascends

  pub mark_beyond : (p : ℕ) → g.ending ≤ p → get_or after.marks p 0 ≡ get_or marks p 0
  mark_beyond p h =
      let e : p ≡ length (map mark (below g.ending)) + (p - g.ending) = omega (arith, length_marks) in
      ap (λ (r : Taken). get_or r.marks p 0) refreshes
      ∙ ap (λ (k : ℕ). get_or (map mark (below g.ending) ++ drop g.ending marks) k 0) e
      ∙ get_or-append-add (map mark (below g.ending)) (drop g.ending marks) (p - g.ending) 0
      ∙ get_or-drop g.ending marks (p - g.ending) 0
      ∙ ap (λ (k : ℕ). get_or marks k 0) (omega arith)

  -- the mark of a page is 1 if and only if its entry's last change was after the held tick, else 0
  pub mark_one : (p : ℕ) → p < g.ending → get_or after.marks p 0 ≡ 1
      → (e : Entry) × (find p (entries_of w) ≡ some e) × (w₀.state.closed.0 < e.changed.0)
  mark_one p h m = go (find p (entries_of w)) refl (sym (mark_at p h) ∙ m)
    where
      go : (o : Option Entry) → find p (entries_of w) ≡ o → mark_by w₀.state.closed o ≡ 1
          → (e : Entry) × (find p (entries_of w) ≡ some e) × (w₀.state.closed.0 < e.changed.0)
      go none f m = absurd (omega arith)
      go (some e) f m = (e, f, ltb-true w₀.state.closed.0 e.changed.0 (one (ltb w₀.state.closed.0 e.changed.0) m))
        where
          one : (b : Bool) → ◌≡◌ {A = ℕ} (if_then b 1 0) 1 → b ≡ true
          one true m = refl
          one false m = absurd (omega arith)

  pub one_mark : (p : ℕ) (e : Entry) → find p (entries_of w) ≡ some e → w₀.state.closed.0 < e.changed.0
      → get_or after.marks p 0 ≡ 1
  one_mark p e f c =
      let r = find_some p (entries_of w) e g.early f in
      mark_at p (omega (arith, r.0, r.1))
      ∙ ap (mark_by w₀.state.closed) f
      ∙ rw (lt-ltb w₀.state.closed.0 e.changed.0 c)
