-- The marks as they are made, all zero and then a 1 for each entry that changed after the tick, are those of the definition. Assumes nothing.
use Prim.Native.Nat.{ℕ, ◌+◌, ◌-◌, ◌*◌, ◌≤◌, ◌<◌}
use mathlib.Core.Bool.{Bool, true, false, ◌&&◌, ◌||◌}
use mathlib.Core.List.{List, [], ◌∷◌, ◌++◌, map}
use mathlib.Core.Path.{◌≡◌, refl, ◌∙◌, sym, ap, subst}
use native.Mathlib.Decide.{dec_lt}
use native.Mathlib.Omega.{arith}
use lib.Dec.{eqb, ltb}
use lib.ListN.{length, drop, get_or, set, replicate, length-append, length-drop, length-map, length-replicate, length-set, get_or-replicate, get_or-append}
use lib.Seq.{ext_get_or, get_or-append-add, get_or-drop, get_or-set_same, get_or-set_other}
use borrow.Author.Tests.{eqb-true, eqb-false, ne_eqb, lt-ltb, le-ltb}
use Rattle.lists.specs.Below.{below}
use Rattle.lists.specs.laws.Below.{length_from, get_from}
use Rattle.lists.specs.Bools.{if_then}
use Rattle.lists.specs.laws.Bools.{and_left}
use Rattle.lists.specs.Scans.{Every, any_of}
use Rattle.lists.specs.laws.Scans.{none_any, every_map}
use Rattle.octets.specs.Part.{lay}
use Rattle.octets.specs.laws.Part.{length_lay, lay_zero, get_d_lay_after}
use Rattle.octets.specs.Rows.{row}
use Rattle.units.specs.Sizes.{header_length, index_row}
use Rattle.units.specs.Tests.{verdict}
use Rattle.units.specs.declared.Tick.{Tick}
use Rattle.sidefile.specs.Encode.{header_of, index_entry_of, index_of}
use Rattle.sidefile.specs.Judge.{whole_tests}
use Rattle.sidefile.specs.inner.Table.{entry_next, entries_end}
use Rattle.sidefile.specs.inner.Tables.{IndexAt, entries_in}
use Rattle.sidefile.specs.declared.table.Table.{Table}
use Rattle.sidefile.specs.declared.Header.{Header}
use Rattle.sidefile.specs.declared.IndexEntry.{IndexEntry}
use Rattle.desk.specs.inner.Marks.{Markable}
use Rattle.desk.specs.Take.{mark_of}
use Rattle.desk.proofs.Followed.{rows_fit, whole_passes, whole_indexed, index_seen}
use Rattle.desk.proofs.Scans.{every_at}

-- all marks that the entries of a list raise
unfoldable pub raised : Tick → List IndexEntry → List ℕ → List ℕ
raised t [] ms = ms
raised t (x ∷ es) ms = raised t es (if_then (ltb t.0 x.changed.0) (set ms x.page.0 1) ms)

module _ (t : Tick) where
  abbrev raise : IndexEntry → List ℕ → List ℕ
  raise x ms = if_then (ltb t.0 x.changed.0) (set ms x.page.0 1) ms

  abbrev hits : ℕ → IndexEntry → Bool
  hits k x = eqb x.page.0 k && ltb t.0 x.changed.0

  length_raise : (x : IndexEntry) (ms : List ℕ) → length (raise x ms) ≡ length ms
  length_raise x ms = go (ltb t.0 x.changed.0)
    where
      go : (b : Bool) → length (if_then b (set ms x.page.0 1) ms) ≡ length ms
      go true = length-set ms x.page.0 1
      go false = refl

  length_raised : (es : List IndexEntry) (ms : List ℕ) → length (raised t es ms) ≡ length ms
  unfolding raised
  length_raised [] ms = refl
  length_raised (x ∷ es) ms = length_raised es (raise x ms) ∙ length_raise x ms

  -- one entry marks its own page
  get_raise : (x : IndexEntry) (ms : List ℕ) (k : ℕ) → k < length ms → get_or (raise x ms) k 0 ≡ if_then (hits k x) 1 (get_or ms k 0)
  get_raise x ms k h = go (ltb t.0 x.changed.0) (eqb x.page.0 k) refl
    where
      go : (b c : Bool) → eqb x.page.0 k ≡ c → get_or (if_then b (set ms x.page.0 1) ms) k 0 ≡ if_then (c && b) 1 (get_or ms k 0)
      go true true e = let f = eqb-true x.page.0 k e in rw f (get_or-set_same ms k 1 0 h)
      go true false e = get_or-set_other ms x.page.0 k 1 0 (λ f. eqb-false x.page.0 k e (sym f))
      go false true e = refl
      go false false e = refl

  get_raised : (es : List IndexEntry) (ms : List ℕ) (k : ℕ) → k < length ms
      → get_or (raised t es ms) k 0 ≡ if_then (any_of (hits k) es) 1 (get_or ms k 0)
  unfolding raised any_of
  get_raised [] ms k h = refl
  get_raised (x ∷ es) ms k h =
      get_raised es (raise x ms) k (rw (length_raise x ms) h)
      ∙ rw (get_raise x ms k h) (either (hits k x) (any_of (hits k) es) (get_or ms k 0))
    where
      either : (a b : Bool) (v : ℕ) → if_then b 1 (if_then a 1 v) ≡ if_then (a || b) 1 v
      either true true v = refl
      either true false v = refl
      either false b v = refl

  -- all zero first, then raised
  module _ (es : List IndexEntry) (e : ℕ) (ms : List ℕ) (room : e ≤ length ms) (pages : Every (λ x. x.page.0 < e) es) where
    abbrev zeros : List ℕ
    zeros = replicate e 0

    abbrev clear : List ℕ
    clear = lay ms 0 zeros

    abbrev marks : List ℕ
    marks = map (mark_of t es) (below e)

    length_marks : length marks ≡ e
    length_marks = length-map (below e) (mark_of t es) ∙ length_from 0 e

    below_end : (k : ℕ) → k < e → get_or (raised t es clear) k 0 ≡ get_or (marks ++ drop e ms) k 0
    unfolding mark_of
    below_end k h =
        let z : length zeros ≡ e = length-replicate e 0 in
        let g : get_or clear k 0 ≡ 0
        = rw (lay_zero ms zeros (rw z room), get_or-append zeros (drop (length zeros) ms) 0 k (omega arith)) (get_or-replicate e k 0 0 h) in
        get_raised es clear k (rw (length_lay ms 0 zeros) (omega arith))
        ∙ rw (g, get_or-append marks (drop e ms) 0 k (rw length_marks h), get_from (mark_of t es) 0 0 e k h, zero_plus k)
      where
        zero_plus : (k : ℕ) → 0 + k ≡ k
        zero_plus k = omega arith

    past_end : (k : ℕ) → e ≤ k → k < length ms → get_or (raised t es clear) k 0 ≡ get_or (marks ++ drop e ms) k 0
    past_end k h l =
        let z : length zeros ≡ e = length-replicate e 0 in
        let none : any_of (hits k) es ≡ false
        = none_any (hits k) es (every_map (λ x p. and_left _ _ (ne_eqb x.page.0 k (λ f. omega arith))) es pages) in
        get_raised es clear k (rw (length_lay ms 0 zeros) l)
        ∙ rw (none, get_d_lay_after ms 0 zeros k 0 (omega arith)) (sym behind)
      where
        behind : get_or (marks ++ drop e ms) k 0 ≡ get_or ms k 0
        behind =
            let f : k ≡ length marks + (k - e) = omega (arith, length_marks) in
            let g : e + (k - e) ≡ k = omega arith in
            ap (λ (j : ℕ). get_or (marks ++ drop e ms) j 0) f
            ∙ get_or-append-add marks (drop e ms) (k - e) 0
            ∙ get_or-drop e ms (k - e) 0
            ∙ ap (λ (j : ℕ). get_or ms j 0) g

    pub raised_marks : raised t es clear ≡ marks ++ drop e ms
    raised_marks =
        let l : length (raised t es clear) ≡ length ms = length_raised es clear ∙ length_lay ms 0 zeros in
        ext_get_or 0 (raised t es clear) (marks ++ drop e ms)
        (omega (arith, l, length-append marks (drop e ms), length_marks, length-drop e ms))
        (λ k h. go k (dec_lt k e) (omega (arith, l)))
      where
        go : (k : ℕ) → Dec (k < e) → k < length ms → get_or (raised t es clear) k 0 ≡ get_or (marks ++ drop e ms) k 0
        go k (yes h) l = below_end k h
        go k (no h) l = past_end k (omega (arith, h)) l

-- an entry that changed after the tick, and one that did not
module _ (t : Tick) (x : IndexEntry) (es : List IndexEntry) (ms : List ℕ) where
  raise_one : t.0 < x.changed.0 → raised t (x ∷ es) ms ≡ raised t es (set ms x.page.0 1)
  unfolding raised
  raise_one h = rw (lt-ltb t.0 x.changed.0 h)

  raise_none : x.changed.0 ≤ t.0 → raised t (x ∷ es) ms ≡ raised t es ms
  unfolding raised
  raise_none h = rw (le-ltb t.0 x.changed.0 h)

-- one turn over the entries of a table, and its end
module _ (table : Table) (i : ℕ) (t : Tick) (ms : List ℕ) where
  module _ (x : IndexEntry) (e : x ≡ index_entry_of (row table.at table.width i table.bytes.now)) (h : i < table.rows) where
    turn : raised t (drop i (entries_in table)) ms ≡ raised t (x ∷ drop (i + 1) (entries_in table)) ms
    turn = rw e (ap (λ (es : List IndexEntry). raised t es ms) (entry_next table.at table.width table.rows table.bytes.now i h))

    pub raise_late : t.0 < x.changed.0 → raised t (drop i (entries_in table)) ms ≡ raised t (drop (i + 1) (entries_in table)) (set ms x.page.0 1)
    raise_late k = turn ∙ raise_one t x (drop (i + 1) (entries_in table)) ms k

    pub raise_early : x.changed.0 ≤ t.0 → raised t (drop i (entries_in table)) ms ≡ raised t (drop (i + 1) (entries_in table)) ms
    raise_early k = turn ∙ raise_none t x (drop (i + 1) (entries_in table)) ms k

  pub raise_end : table.rows ≤ i → raised t (drop i (entries_in table)) ms ≡ ms
  unfolding raised
  raise_end h = rw (entries_end table.at table.width table.rows table.bytes.now i h)

-- the index of a side file, by the header that was read off it
module _ (h : Header) (side marks : List ℕ) (m : Markable h side marks) where
  pub mark_rows : header_length + h.entries * index_row ≤ length side
  mark_rows = rows_fit side m.indexed h.entries (ap (λ (h : Header). h.entries) m.read)

  module _ (table : Table) (at : IndexAt side h.entries table) where
    seen : index_of side ≡ entries_in table
    seen = index_seen side h m.read table at

    pub mark_page : (i : ℕ) (x : IndexEntry) → x ≡ index_entry_of (row table.at table.width i table.bytes.now) → i < table.rows → x.page.0 < h.end
    mark_page i x e l =
        rw e
        (every_at (entries_in table) i (subst (Every (λ x. x.page.0 < h.end)) seen m.pages) (entry_next table.at table.width table.rows table.bytes.now i l))

    pub mark_made : (t : Tick) → raised t (entries_in table) (lay marks 0 (replicate h.end 0)) ≡ map (mark_of t (index_of side)) (below h.end) ++ drop h.end marks
    mark_made t = rw (← seen) (raised_marks t (index_of side) h.end marks m.room m.pages)

pub markable : (side ms : List ℕ) → 0 ≡ verdict (whole_tests (length side) side) → (h : Header) → h ≡ header_of side → h.end ≤ length ms
    → Markable h side ms
markable side ms w h e room =
    record {
      read = e;
      indexed = whole_indexed side w;
      pages = subst (λ (h : Header). Every (λ x. x.page.0 < h.end) (index_of side)) (sym e) (whole_passes side w).index.pages;
      room = room;
    }
