-- A close from any world that follows the state rules, forged ones among them, leaves one that follows them; the side file
-- then begins with the header and index of the tick closed, and says only what the judge accepts. Assumes nothing.
use Rattle.std.specs.Prelude.{ℕ, ◌<◌, ◌≤◌, ◌≡◌, true, false, ◌⊎◌, length}
use Rattle.std.proofs.Common.{◌∙◌, sym, inl, inr, arith}
use Rattle.std.proofs.Math.Path.{ap, subst}
use mathlib.Core.List.{List, ◌++◌, map}
use Rattle.std.proofs.lemmas.List.{length-map}
use Rattle.lists.specs.Scans.{Every}
use Rattle.lists.specs.laws.Scans.{every_map, every_two}
use Rattle.octets.specs.Part.{part, lay}
use Rattle.octets.specs.laws.Part.{part_lay_same}
use Rattle.units.specs.laws.Bounds.{first_image_least}
use Rattle.units.specs.Sizes.{top, places, index_end, first_image}
use Rattle.units.specs.declared.Tick.{Tick}
use Rattle.sidefile.specs.laws.Decode as Decode
use Rattle.sidefile.specs.laws.Decode.{Encodes}
use Rattle.sidefile.specs.Encode.{header_for, index_bytes}
use Rattle.sidefile.specs.Judge.{ascending, apart}
use Rattle.sidefile.specs.laws.Lengths.{length_encoded}
use Rattle.slots.specs.laws.Sits.{sits_back}
use Rattle.ledger.specs.laws.Aged.{owed_before}
use Rattle.ledger.specs.laws.Closing.{IsNew, IsStay, asc_later, apart_later, every_later, later_facts, ages_later}
use Rattle.ledger.specs.Entries.{page_of, place_of}
use Rattle.ledger.specs.laws.Guarded.{unretired_later}
use Rattle.ledger.specs.laws.Laid.{length_lay_each}
use Rattle.ledger.specs.inner.Placed.{closed_since}
use Rattle.ledger.specs.laws.Rowed.{Small}
use Rattle.ledger.specs.View.{indexed, retired, retired_at}
use Rattle.ledger.specs.declared.Entry.{Entry}
use Rattle.recorder.specs.Close.{open_tick, changed_in, changes, free_places, given, fresh_entries, staying, after, ledger_after, closed, suffices}
use Rattle.recorder.specs.World.{World, wait_of, entries_of, kind_of}
use Rattle.recorder.specs.laws.Closed.{base_length_closed, side_length_closed, ledger_length_closed, page_closed, vacant_closed, slot_closed, closing_of, after_later, enough, changed_held, held_kind, sits_closed, small_closed, entries_closed}
use Rattle.promises.specs.worlds.Encoded.{encodes_ruled}
use Rattle.recorder.specs.laws.Facts.{EntryFacts, RuleFacts, Ruled, within, end_small}
use Rattle.promises.specs.worlds.Good.{front_at}
use Rattle.recorder.specs.laws.Stored.{image_start, held_bytes, imaged, front_after, side_stored}

module _ (w : World) (r : Ruled w) (sf : suffices w ≡ true) (lt : w.state.closed.0 < top) where
  -- The entries, one by one.

  after_facts : Every (λ e. IsNew (closing_of w) e ⊎ (IsStay (closing_of w) e × EntryFacts w e)) (after w)
  after_facts = rw (after_later w) (later_facts (closing_of w) r.facts.ascends r.facts.alone r.facts.each)

  ages_after : Every (λ e. (e.entered.0 ≤ e.changed.0) × (e.changed.0 ≤ (open_tick w).0)) (after w)
  ages_after = rw (after_later w) (ages_later (closing_of w) (every_map (λ e f. (f.entered_first, f.changed_before)) (entries_of w) r.facts.each))

  unretired_after : Every (λ e. retired w.state.settings (closed w).ledger (place_of e) ≡ false) (after w)
  unfolding closed ledger_after after fresh_entries given changes free_places staying
  unretired_after =
      unretired_later (closing_of w) r.facts.ledger_long (enough w sf).1 r.facts.ascends r.facts.alone
      (every_map (λ e f. (f.place_below, f.not_retired)) (entries_of w) r.facts.each)

  each_after : Every (EntryFacts (closed w)) (after w)
  unfolding closed
  each_after = every_map one (after w) (every_two (after w) after_facts (every_two (after w) ages_after unretired_after))
    where
      one : (e : Entry)
          → (IsNew (closing_of w) e ⊎ (IsStay (closing_of w) e × EntryFacts w e))
          × (((e.entered.0 ≤ e.changed.0) × (e.changed.0 ≤ (open_tick w).0)) × (retired w.state.settings (closed w).ledger (place_of e) ≡ false))
          → EntryFacts (closed w) e
      one e (inl n, (a, f)) =
          let i = changed_held w r (page_of e) n.is_changed in
          record {
            page_below = n.page_below;
            entered_first = a.0;
            changed_before = a.1;
            owed_held = λ o. (i.0, slot_closed w (page_of e) ∙ i.1);
            place_below = n.place_below;
            not_retired = f;
          }
      one e (inr (s, b), (a, f)) =
          record {
            page_below = b.page_below;
            entered_first = a.0;
            changed_before = a.1;
            owed_held = λ o. let i = b.owed_held (owed_before (wait_of w) e w.state.closed.0 o) in (i.0, slot_closed w (page_of e) ∙ i.1);
            place_below = b.place_below;
            not_retired = f;
          }

  -- The rules.

  rested_after : (q : ℕ) → q < places w.state.settings → retired w.state.settings (closed w).ledger q ≡ true
      → (retired_at w.state.settings (closed w).ledger q).0 ≤ (open_tick w).0
  unfolding closed ledger_after
  rested_after q b h =
      go (closed_since w.state.settings (wait_of w) (open_tick w) (changed_in w) (entries_of w) w.ledger r.facts.ledger_long (after w) (enough w sf).1 q b (omega arith) h)
    where
      go : (retired_at w.state.settings (closed w).ledger q ≡ open_tick w)
          ⊎ ((retired w.state.settings w.ledger q ≡ true) × (retired_at w.state.settings (closed w).ledger q ≡ retired_at w.state.settings w.ledger q))
          → (retired_at w.state.settings (closed w).ledger q).0 ≤ (open_tick w).0
      go (inl e) = omega (arith, ap (λ (t : Tick). t.0) e)
      go (inr e) = omega (arith, ap (λ (t : Tick). t.0) e.1, r.facts.rested q b e.0)

  ascends_after : ascending 0 (map indexed (after w)) ≡ true
  ascends_after = rw (after_later w) (asc_later (closing_of w) r.facts.ascends)

  alone_after : apart (map indexed (after w)) ≡ true
  alone_after = rw (after_later w) (apart_later (closing_of w) r.facts.alone)

  rules_closed : RuleFacts (closed w)
  unfolding closed
  rules_closed =
      record {
        limited = r.facts.limited;
        ledger_long = rw (ledger_length_closed w) r.facts.ledger_long;
        ended = r.facts.ended;
        counted = (enough w sf).1;
        slots = sits_back (sits_closed w r);
        ascends = subst (λ (es : List Entry). ascending 0 (map indexed es) ≡ true) (sym (entries_closed w r sf lt)) ascends_after;
        each = subst (λ (es : List Entry). Every (EntryFacts (closed w)) es) (sym (entries_closed w r sf lt)) each_after;
        alone = subst (λ (es : List Entry). apart (map indexed es) ≡ true) (sym (entries_closed w r sf lt)) alone_after;
        rested = rested_after;
      }

  kinds_after : Every (λ e. kind_of w (page_of e) ≡ 0) (after w)
  kinds_after =
      rw (after_later w)
      (every_later (closing_of w) (λ e n. let i = changed_held w r (page_of e) n.is_changed in held_kind w r (page_of e) i.0 n.page_below i.1) r.kinds.entry_kinds)

  pub ruled_closed : Ruled (closed w)
  unfolding closed
  ruled_closed =
      record {
        whole = (sits_closed w r).whole;
        tick = omega arith;
        small = subst (λ (es : List Entry). Every Small es) (sym (entries_closed w r sf lt)) (small_closed w r sf lt);
        facts = rules_closed;
        lengths =
            record {
              base_long = rw (base_length_closed w) r.lengths.base_long;
              side_long = rw (side_length_closed w) r.lengths.side_long;
              buffer_long = r.lengths.buffer_long;
              kinds_long = r.lengths.kinds_long;
            };
        kinds =
            record {
              slot_kinds = λ i m v. ap (kind_of w) (page_closed w i) ∙ r.kinds.slot_kinds i m (sym (vacant_closed w i) ∙ v);
              entry_kinds = subst (λ (es : List Entry). Every (λ e. kind_of w (page_of e) ≡ 0) es) (sym (entries_closed w r sf lt)) kinds_after;
            };
      }

  -- Header and index.

  pub early_closed : Every (λ e. page_of e < w.state.end) (after w)
  early_closed = rw (after_later w) (every_later (closing_of w) (λ e n. n.page_below) (every_map (λ e f. f.page_below) (entries_of w) r.facts.each))

  length_front_after : length (front_after w) ≡ index_end w.state.settings
  length_front_after =
      length_encoded w.state.settings (open_tick w) w.state.end (map indexed (after w)) (rw (length-map (after w) indexed) (enough w sf).1)

  -- they end before the images begin
  pub front_before : length (front_after w) ≤ first_image w.state.settings
  front_before = omega (arith, length_front_after, first_image_least w.state.settings (within w r))

  pub front_closed : part (closed w).side 0 (index_end w.state.settings) ≡ front_at (closed w) w.state.end
  unfolding closed
  front_closed =
      ap (λ (xs : List ℕ). part xs 0 (index_end w.state.settings)) (side_stored w)
      ∙ ap (λ (n : ℕ). part (lay (imaged w) 0 (front_after w)) 0 n) (sym length_front_after)
      ∙ part_lay_same (imaged w) 0 (front_after w) (omega (arith, front_before, length_lay_each (image_start w) (held_bytes w) (fresh_entries w) w.side, r.lengths.side_long))
      ∙ ap
      (λ (es : List Entry).
      header_for w.state.settings (open_tick w) w.state.end (map indexed es) ++ index_bytes w.state.settings (map indexed es))
      (sym (entries_closed w r sf lt))

  pub encodes_closed : Encodes w.state.settings (closed w).state.closed w.state.end (map indexed (entries_of (closed w)))
  unfolding closed
  encodes_closed =
      encodes_ruled (closed w) ruled_closed w.state.end (end_small w r)
      (subst (λ (es : List Entry). Every (λ e. page_of e < w.state.end) es) (sym (entries_closed w r sf lt)) early_closed)
