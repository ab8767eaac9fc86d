-- A page comes into a slot (Put): that is what a metadata read, a metadata write and a metadata grow have in common. Page p is
-- in a slot then, with these bytes, and last in the order of use; the slot had p before, or was empty or clean; every other
-- slot is as it was. It follows, once for all of them, that the rules hold, that a good world stays good, and what each page
-- contains. Assumes nothing.
use Rattle.std.specs.Prelude.{ℕ, ◌<◌, ◌≤◌, ◌≡◌, List, Bool, true, length}
use Rattle.std.proofs.Math.Path.{refl, sym, ap}
use Rattle.std.proofs.Common.{◌∙◌, subst, arith}
use Rattle.std.proofs.Math.Bool.{false}
use Rattle.std.proofs.Math.Option.{Option, some, none}
use Rattle.std.proofs.Math.Decide.{ℕ_discrete, dec_lt}
use Rattle.std.proofs.Math.ListN.{get_or}
use Rattle.lists.specs.laws.Bools.{not_both, true_of, or_false}
use Rattle.lists.specs.laws.Scans.{every_map, every_two}
use Rattle.octets.specs.Rows.{page}
use Rattle.slots.specs.laws.Moves.{Placed, vacant_other, slot_new, slot_kept, slot_still, slot_gone, placed_sits}
use Rattle.slots.specs.laws.Sits.{Alone, changed_found}
use Rattle.slots.specs.Table.{page_at, vacant, changed_at, slot_of, changed_page}
use Rattle.slots.specs.declared.Slots.{Slots}
use Rattle.ledger.specs.laws.Aged.{owed_pages}
use Rattle.ledger.specs.Entries.{page_of}
use Rattle.ledger.specs.declared.Entry.{Entry}
use Rattle.recorder.specs.World.{World, page_size, slot_count, wait_of, entries_of, kind_of, slot_bytes, base_bytes, slot_for}
use Rattle.recorder.specs.Calls.{unclean}
use Rattle.recorder.specs.declared.Counts.{Counts}
use Rattle.recorder.specs.laws.Facts.{EntryFacts, Ruled, within, end_small, seats}
use Rattle.promises.specs.worlds.Good.{view, contents, Good}
use Rattle.promises.specs.worlds.Frames.{Framed, next}
use Rattle.promises.specs.worlds.Nexts.{Next, ruled_next, good_next, good_next_ending}
use Rattle.promises.specs.worlds.Contents.{owed_in, slot_of_lem, slot_filled, contents_slot, contents_base, settled, contents_view}

-- p is changed then if c is; if not, it was in the file, contains what it did, and was not changed before
pub record Put (w : World) (end : ℕ) (t : Slots) (base buffer kinds : List ℕ) (p slot : ℕ) (c : Bool) (bs : List ℕ) : Type 0 where
  pub frame : Framed w end base kinds
  pub low : p < end
  pub kind : get_or kinds p 0 ≡ 0
  pub newest : (q : ℕ) → w.state.end ≤ q → q < end → q ≡ p
  pub inside : slot < slot_count w
  pub alone : Alone (slot_count w) w.state.slots p slot
  pub placed : Placed w.state.slots t slot p c
  pub free : vacant w.state.slots slot ≡ false → (page_at w.state.slots slot ≡ p → ⊥) → unclean w slot ≡ false
  pub buffer_length_lem : length buffer ≡ length w.buffer
  pub here : page (page_size w) slot buffer ≡ bs
  pub others : (j : ℕ) → (j ≡ slot → ⊥) → page (page_size w) j buffer ≡ slot_bytes w j
  pub unchanged : c ≡ false → (p < w.state.end) × (bs ≡ contents w p) × (changed_page (slot_count w) w.state.slots p ≡ false)

-- a clean slot: its page is not changed and not owed
pub clean_slot : (w : World) (i : ℕ) → unclean w i ≡ false → (changed_at w.state.slots i ≡ false) × (owed_in w (page_at w.state.slots i) ≡ false)
unfolding unclean
clean_slot w i h = or_false (changed_at w.state.slots i) (owed_in w (page_at w.state.slots i)) h

module _ (w : World) (r : Ruled w) {end : ℕ} {t : Slots} {base buffer kinds : List ℕ} {p slot : ℕ} {c : Bool} {bs : List ℕ}
    (u : Put w end t base buffer kinds p slot c bs) where
  -- p is found in its slot; any other page that was in a slot is there still, or it made way and was neither changed nor owed
  found_here : slot_of (slot_count w) t p ≡ some slot
  found_here = slot_new u.placed (slot_count w) u.inside u.alone

  made_way : (q : ℕ) → q < w.state.end → (q ≡ p → ⊥) → slot_for w q ≡ some slot
      → (slot_of (slot_count w) t q ≡ none) × (changed_at w.state.slots slot ≡ false) × (owed_in w q ≡ false)
  unfolding slot_for
  made_way q b n h =
      let f = slot_of_lem w r q slot h in
      let v = slot_filled w r q slot b h in
      let m : page_at w.state.slots slot ≡ p → ⊥ = λ e. n (sym f.1 ∙ e) in
      let k = clean_slot w slot (u.free v m) in (
        ap (slot_of (slot_count w) t) (sym f.1) ∙ slot_gone u.placed (seats w r) u.inside v m,
        k.0,
        ap (owed_in w) (sym f.1) ∙ k.1,
      )

  pub put_next : Next w end t base buffer kinds
  unfolding slot_for
  put_next =
      record {
        frame = u.frame;
        buffer_length_lem = u.buffer_length_lem;
        sits = placed_sits u.placed end (seats w r) u.inside u.alone u.low u.frame.grows (omega (arith, u.frame.fits, (within w r).capacity_most));
        slot_kinds = λ i h v. kinds_of i h v (ℕ_discrete i slot);
        owed_held = every_map (λ e f o. held e f.0 (f.1 o) (f.0.owed_held o).0 (f.0.owed_held o).1 (ℕ_discrete (page_of e) p) (ℕ_discrete (f.0.owed_held o).0 slot))
            (entries_of w) (every_two (entries_of w) r.facts.each (owed_pages (wait_of w) w.state.closed (entries_of w)));
      }
    where
      kinds_of : (i : ℕ) → i < slot_count w → vacant t i ≡ false → Dec (i ≡ slot) → get_or kinds (page_at t i) 0 ≡ 0
      kinds_of i h v (yes z) = ap (λ (j : ℕ). get_or kinds (page_at t j) 0) z ∙ ap (λ (q : ℕ). get_or kinds q 0) u.placed.page_here ∙ u.kind
      kinds_of i h v (no z) =
          let v' = sym (vacant_other u.placed i z) ∙ v in
          ap (λ (q : ℕ). get_or kinds q 0) (u.placed.page_other i z)
          ∙ u.frame.kept (page_at w.state.slots i) ((seats w r).low i h v')
          ∙ r.kinds.slot_kinds i h v'

      held : (e : Entry) → EntryFacts w e → owed_in w (page_of e) ≡ true → (i : ℕ) → slot_for w (page_of e) ≡ some i → Dec (page_of e ≡ p) → Dec (i ≡ slot)
          → (i : ℕ) × (slot_of (slot_count w) t (page_of e) ≡ some i)
      held e f o i h (yes z) d = (slot, ap (slot_of (slot_count w) t) z ∙ found_here)
      held e f o i h (no z) (yes y) = absurd (not_both (owed_in w (page_of e)) o (made_way (page_of e) f.page_below z (h ∙ ap some y)).2)
      held e f o i h (no z) (no y) = (i, slot_kept u.placed (slot_count w) (page_of e) i z y h)

  module _ (meta raw : Counts) where
    pub ruled_put : Ruled (next w end t meta raw base buffer kinds)
    ruled_put = ruled_next w end t meta raw base buffer kinds put_next r

    -- what the pages contain then
    pub contents_put : contents (next w end t meta raw base buffer kinds) p ≡ bs
    unfolding slot_for slot_bytes
    contents_put = contents_slot (next w end t meta raw base buffer kinds) p slot found_here ∙ u.here

  module _ (meta raw : Counts) (q : ℕ) (b : q < w.state.end) (k : kind_of w q ≡ 0) (n : q ≡ p → ⊥) where
    pub contents_other : Good w → contents (next w end t meta raw base buffer kinds) q ≡ contents w q
    unfolding slot_for slot_bytes base_bytes
    contents_other g = go (slot_for w q) refl
      where
        at : (i : ℕ) → slot_for w q ≡ some i → Dec (i ≡ slot) → contents (next w end t meta raw base buffer kinds) q ≡ contents w q
        at i h (yes z) =
            let m = made_way q b n (h ∙ ap some z) in
            contents_base (next w end t meta raw base buffer kinds) q m.0
            ∙ u.frame.pages q b k
            ∙ sym (settled w g q m.2)
            ∙ sym (contents_view w g q b (changed_found (seats w r) q i (omega (arith, end_small w r)) h ∙ ap (changed_at w.state.slots) z ∙ m.1))
        at i h (no z) = contents_slot (next w end t meta raw base buffer kinds) q i (slot_kept u.placed (slot_count w) q i n z h) ∙ u.others i z ∙ sym (contents_slot w q i h)

        go : (o : Option ℕ) → slot_for w q ≡ o → contents (next w end t meta raw base buffer kinds) q ≡ contents w q
        go none h = contents_base (next w end t meta raw base buffer kinds) q (slot_still u.placed (slot_count w) q n h) ∙ u.frame.pages q b k ∙ sym (contents_base w q h)
        go (some i) h = at i h (ℕ_discrete i slot)

module _ (w : World) (g : Good w) {end : ℕ} {t : Slots} {base buffer kinds : List ℕ} {p slot : ℕ} {c : Bool} {bs : List ℕ}
    (u : Put w end t base buffer kinds p slot c bs) where
  -- a slot that is not changed then
  still_read : (i : ℕ) → i < slot_count w → vacant t i ≡ false → changed_at t i ≡ false → (page_at t i < w.state.end) × (page (page_size w) i buffer ≡ view w (page_at t i))
  still_read i h v f = go (ℕ_discrete i slot)
    where
      go : Dec (i ≡ slot) → (page_at t i < w.state.end) × (page (page_size w) i buffer ≡ view w (page_at t i))
      go (yes z) =
          let k = u.unchanged (sym u.placed.changed_here ∙ ap (changed_at t) (sym z) ∙ f) in
          let e : page_at t i ≡ p = ap (page_at t) z ∙ u.placed.page_here in (
            subst (λ (q : ℕ). q < w.state.end) (sym e) k.0,
            ap (λ (j : ℕ). page (page_size w) j buffer) z ∙ u.here ∙ k.1 ∙ contents_view w g p k.0 k.2 ∙ ap (view w) (sym e),
          )
      go (no z) =
          let v' = sym (vacant_other u.placed i z) ∙ v in
          let e = u.placed.page_other i z in (
            subst (λ (q : ℕ). q < w.state.end) (sym e) ((seats w g.ruled).low i h v'),
            u.others i z ∙ g.slots i h v' (sym (u.placed.changed_other i z) ∙ f) ∙ ap (view w) (sym e),
          )

  -- a page that came after the last close
  still_newer : (q : ℕ) → g.ending ≤ q → q < end → get_or kinds q 0 ≡ 0 → (i : ℕ) × ((slot_of (slot_count w) t q ≡ some i) × (changed_at t i ≡ true))
  unfolding slot_for
  still_newer q a b k = go (ℕ_discrete q p) (dec_lt q w.state.end)
    where
      was : (q : ℕ) → g.ending ≤ q → q < w.state.end → get_or kinds q 0 ≡ 0 → (i : ℕ) × ((slot_for w q ≡ some i) × (changed_at w.state.slots i ≡ true))
      was q a b k = g.newer q a b (sym (u.frame.kept q b) ∙ k)

      same : q ≡ p → c ≡ false → ⊥
      same z f =
          let x = u.unchanged f in
          let n = was p (subst (λ (m : ℕ). g.ending ≤ m) z a) x.0 u.kind in
          not_both (changed_page (slot_count w) w.state.slots p) (changed_found (seats w g.ruled) p n.0 (omega (arith, end_small w g.ruled)) n.1.0 ∙ n.1.1) x.2

      at : (q ≡ p → ⊥) → q < w.state.end → (i : ℕ) → slot_for w q ≡ some i → changed_at w.state.slots i ≡ true → Dec (i ≡ slot)
          → (i : ℕ) × ((slot_of (slot_count w) t q ≡ some i) × (changed_at t i ≡ true))
      at n b i h f (yes z) = absurd (not_both (changed_at w.state.slots i) f (ap (changed_at w.state.slots) z ∙ (made_way w g.ruled u q b n (h ∙ ap some z)).1))
      at n b i h f (no z) = (i, (slot_kept u.placed (slot_count w) q i n z h, u.placed.changed_other i z ∙ f))

      go : Dec (q ≡ p) → Dec (q < w.state.end) → (i : ℕ) × ((slot_of (slot_count w) t q ≡ some i) × (changed_at t i ≡ true))
      go (yes z) d = (slot, (ap (slot_of (slot_count w) t) z ∙ found_here w g.ruled u, u.placed.changed_here ∙ true_of c (same z)))
      go (no z) (yes d) = let n = was q a d k in at z d n.0 n.1.0 n.1.1 (ℕ_discrete n.0 slot)
      go (no z) (no d) = absurd (z (u.newest q (omega (arith, d)) b))

  module _ (meta raw : Counts) where
    pub good_put : Good (next w end t meta raw base buffer kinds)
    good_put = good_next w end t meta raw base buffer kinds (put_next w g.ruled u) g still_read still_newer

    pub good_put_ending : good_put.ending ≡ g.ending
    unfolding good_put
    good_put_ending = good_next_ending w end t meta raw base buffer kinds (put_next w g.ruled u) g still_read still_newer
