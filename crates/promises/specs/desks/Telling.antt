-- What the marks of a refresh tell is so: the proof of what Unmarked.antt states. Nothing is assumed.
use Rattle.std.specs.Prelude.{ℕ, ◌+◌, ◌<◌, ◌≤◌, List, ◌≡◌, refl, Bool, true, false, ◌⊎◌, ltb, length}
use Rattle.std.proofs.Common.{◌∙◌, sym, ap, subst, arith}
use Rattle.std.proofs.Math.Logic.{inl, inr}
use Rattle.std.proofs.Math.Option.{Option, some, none}
use Rattle.lists.specs.Bools.{if_then}
use Rattle.lists.specs.laws.Bools.{not_both}
use Rattle.octets.specs.Part.{part}
use Rattle.units.specs.Sizes.{index_end, side_length}
use Rattle.units.specs.declared.Settings.{Settings}
use Rattle.ledger.specs.Entries.{find}
use Rattle.ledger.specs.declared.Entry.{Entry}
use Rattle.slots.specs.laws.Sits.{changed_not}
use Rattle.recorder.specs.Close.{changed_in}
use Rattle.recorder.specs.Runs.{Call, Recording, opening, reached, held_by}
use Rattle.recorder.specs.World.{World, slot_count, entries_of, kind_of}
use Rattle.desk.specs.Take.{Taken, refresh_reply}
use Rattle.promises.specs.alike.AlikeDesk.{refresh_slices}
use Rattle.promises.specs.Demand.{AtClose, later, WithinLag, HoldsIndex, SideNow}
use Rattle.promises.specs.closes.Demanded.{kept_later}
use Rattle.promises.specs.worlds.Fronts.{Front}
use Rattle.promises.specs.worlds.Good.{Kept, contents}
use Rattle.promises.specs.Held.{held_contents}
use Rattle.promises.specs.closes.KeptSelf.{kept_self}
use Rattle.promises.specs.desks.Lagging.{InLag}
use Rattle.promises.specs.worlds.Reached.{run_more, settings_reached}
use Rattle.promises.specs.desks.Refreshed.{mark_by, refreshes, took_refresh, mark_at, mark_one, one_mark}
use Rattle.promises.specs.worlds.Settled.{Settled, settled}
use Rattle.promises.specs.closes.Since.{Since, same, changing, noted, since_run, since_self}
use Rattle.promises.specs.desks.Taken.{Took}
use Rattle.promises.specs.Unmarked.{RefreshTells, Told, further, mark}

-- The proof.

-- further calls go on where the recording stood
pub reached_further : (r : Recording) (more : List Call) → reached (further r more) ≡ later r more
unfolding reached opening
reached_further r more = run_more r.calls more (opening r).world

opening_further : (r : Recording) (more : List Call) → (opening r).number ≡ 0 → (opening (further r more)).number ≡ 0
unfolding opening
opening_further r more h = h

module _ (r : Recording) (h : (opening r).number ≡ 0) (c : AtClose r) (more : List Call) (d : AtClose (further r more)) (lag : WithinLag r more)
    (held : List ℕ) (t : HoldsIndex r held) (marks : List ℕ) (room : (later r more).state.end ≤ length marks) where
  abbrev w₀ : World
  w₀ = reached r

  abbrev w : World
  w = later r more

  abbrev x : Taken
  x = refresh_reply w.side held marks

  then : Settled w₀
  then = settled r h c

  now : Settled w
  now = subst Settled (reached_further r more) (settled (further r more) (opening_further r more h) d)

  kept : Kept w₀ w
  kept = kept_later r h c more lag

  -- the premises by the settings of the world
  near : InLag w₀ w
  near = subst (λ (s : Settings). w.state.closed.0 ≤ w₀.state.closed.0 + s.lag) (sym (settings_reached r h)) lag

  took : Took w₀ held
  took = subst (λ (s : Settings). part held 0 (index_end s) ≡ part w₀.side 0 (index_end s)) (sym (settings_reached r h)) t

  long : now.good.ending ≤ length marks
  long = omega (arith, now.whole, room)

  below : (p : ℕ) → p < w.state.end → p < now.good.ending
  below p b = omega (arith, now.whole)

  -- a metadata page has an entry that tells a later change, or held the same bytes: at a close no page is changed
  marked_or_same : (p : ℕ) → p < w.state.end → kind_of w p ≡ 0 → (mark x p ≡ 1) ⊎ ((p < w₀.state.end) × (contents w p ≡ contents w₀ p))
  unfolding changed_in
  marked_or_same p b m = go (since_run w₀ then.good more w₀ then.good (kept_self w₀) (since_self w₀) near p b m)
    where
      go : Since w₀ p w → (mark x p ≡ 1) ⊎ ((p < w₀.state.end) × (contents w p ≡ contents w₀ p))
      go (same a e) = inr (a, e)
      go (changing f) = absurd (not_both (changed_in w p) f (changed_not (slot_count w) w.state.slots p (λ j k e. now.still j k)))
      go (noted e f k) = inl (one_mark w₀ w then.good now.good kept.same kept.since near held took marks long p e f k)

  holds_then : HoldsIndex (further r more) x.held
  holds_then =
      subst (λ (s : Settings). part x.held 0 (index_end s) ≡ part w.side 0 (index_end s)) (kept.same ∙ settings_reached r h)
      (took_refresh w₀ w then.good now.good kept.same kept.since near held took marks long)
      ∙ ap (λ (v : World). part v.side 0 (index_end r.settings)) (sym (reached_further r more))

  two_marks : (p : ℕ) → p < w.state.end → (mark x p ≡ 0) ⊎ (mark x p ≡ 1)
  two_marks p b =
      subst (λ (n : ℕ). (n ≡ 0) ⊎ (n ≡ 1)) (sym (mark_at w₀ w then.good now.good kept.same kept.since near held took marks long p (below p b)))
      (by_entry (find p (entries_of w)))
    where
      by_test : (b : Bool) → (◌≡◌ {A = ℕ} (if_then b 1 0) 0) ⊎ (◌≡◌ {A = ℕ} (if_then b 1 0) 1)
      by_test true = inr refl
      by_test false = inl refl

      by_entry : (o : Option Entry) → (mark_by w₀.state.closed o ≡ 0) ⊎ (mark_by w₀.state.closed o ≡ 1)
      by_entry none = inl refl
      by_entry (some e) = by_test (ltb w₀.state.closed.0 e.changed.0)

  -- what the recorder has of a page is what the calls made of it
  held_now : (p : ℕ) → p < w.state.end → kind_of w p ≡ 0 → held_by (further r more) p ≡ contents w p
  held_now p =
      subst (λ (v : World). p < v.state.end → kind_of v p ≡ 0 → held_by (further r more) p ≡ contents v p) (reached_further r more)
      (held_contents (further r more) (opening_further r more h) p)

  same_bytes : (p : ℕ) → p < w₀.state.end → kind_of w₀ p ≡ 0 → mark x p ≡ 0 → held_by (further r more) p ≡ held_by r p
  same_bytes p b m z = go (marked_or_same p b' m')
    where
      b' : p < w.state.end
      b' = omega (arith, kept.ends)

      m' : kind_of w p ≡ 0
      m' = kept.kinds p b ∙ m

      go : (mark x p ≡ 1) ⊎ ((p < w₀.state.end) × (contents w p ≡ contents w₀ p)) → held_by (further r more) p ≡ held_by r p
      go (inl k) = absurd (omega arith)
      go (inr e) = held_now p b' m' ∙ e.1 ∙ sym (held_contents r h p b m)

  new_marked : (p : ℕ) → w₀.state.end ≤ p → p < w.state.end → kind_of w p ≡ 0 → mark x p ≡ 1
  new_marked p a b m = go (marked_or_same p b m)
    where
      go : (mark x p ≡ 1) ⊎ ((p < w₀.state.end) × (contents w p ≡ contents w₀ p)) → mark x p ≡ 1
      go (inl k) = k
      go (inr e) = absurd (omega (arith, e.0))

  told : Told r more x
  told =
      record {
        accepted = ap (λ (y : Taken). y.number) (refreshes w₀ w then.good now.good kept.same kept.since near held took marks long);
        holds = holds_then;
        two = two_marks;
        unmarked = same_bytes;
        newer = new_marked;
        marked = λ p b. mark_one w₀ w then.good now.good kept.same kept.since near held took marks long p (below p b);
      }

  -- a desk that is lent the side file as far as a desk looks is told the same
  told_lent : (side : List ℕ) → SideNow r w side → Told r more (refresh_reply side held marks)
  told_lent side s =
      let e : w.state.settings ≡ r.settings = kept.same ∙ settings_reached r h in
      subst (Told r more) (refresh_slices w now.good side (subst (λ (t : Settings). Front (side_length t) w.side side) (sym e) (sym s)) held marks) told

pub refresh_tells : RefreshTells
refresh_tells r h c more d lag held t marks room side s = told_lent r h c more d lag held t marks room side s
