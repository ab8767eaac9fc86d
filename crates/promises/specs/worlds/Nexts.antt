-- One record to fill for what a read, a write or a grow does to a world (Next): with it the world after the call passes the
-- rules again, and with two facts more it is good again, with the same `ending`. Assumes nothing.
use Rattle.std.specs.Prelude.{ℕ, ◌<◌, ◌≤◌, ◌≡◌, List, false, length, get_or}
use Rattle.std.proofs.Math.Path.{refl, sym}
use Rattle.std.proofs.Common.{◌∙◌, arith}
use Rattle.std.proofs.Math.Bool.{true}
use Rattle.std.proofs.Math.Option.{Option, some, none}
use Rattle.lists.specs.Scans.{Every}
use Rattle.lists.specs.laws.Scans.{every_map, every_two}
use Rattle.octets.specs.Rows.{page}
use Rattle.slots.specs.laws.Sits.{Sits, sits_back}
use Rattle.slots.specs.Table.{page_at, vacant, changed_at, slot_of}
use Rattle.slots.specs.declared.Slots.{Slots}
use Rattle.ledger.specs.Entries.{page_of, find, is_owed}
use Rattle.ledger.specs.declared.Entry.{Entry}
use Rattle.recorder.specs.World.{World, page_size, slot_count, wait_of, entries_of, kind_of, slot_bytes, base_bytes, image_bytes, slot_for}
use Rattle.recorder.specs.declared.Counts.{Counts}
use Rattle.recorder.specs.laws.Facts.{EntryFacts, Ruled}
use Rattle.promises.specs.worlds.Good.{view_by, view, Good}
use Rattle.promises.specs.worlds.Frames.{Framed, next}

pub record Next (w : World) (end : ℕ) (t : Slots) (base buffer kinds : List ℕ) : Type 0 where
  pub frame : Framed w end base kinds
  pub buffer_length_lem : length buffer ≡ length w.buffer
  pub sits : Sits (slot_count w) end t
  pub slot_kinds : (i : ℕ) → i < slot_count w → vacant t i ≡ false → get_or kinds (page_at t i) 0 ≡ 0
  pub owed_held : Every (λ e. is_owed (wait_of w) w.state.closed e ≡ true → (i : ℕ) × (slot_of (slot_count w) t (page_of e) ≡ some i)) (entries_of w)

module _ (w : World) (end : ℕ) (t : Slots) (meta raw : Counts) (base buffer kinds : List ℕ) (n : Next w end t base buffer kinds) where
  pub ruled_next : Ruled w → Ruled (next w end t meta raw base buffer kinds)
  unfolding entries_of slot_for
  ruled_next r =
      record {
        whole = n.sits.whole;
        tick = r.tick;
        small = r.small;
        facts =
            record {
              limited = r.facts.limited;
              ledger_long = r.facts.ledger_long;
              ended = n.frame.fits;
              counted = r.facts.counted;
              slots = sits_back n.sits;
              ascends = r.facts.ascends;
              each = every_map one (entries_of w) (every_two (entries_of w) r.facts.each n.owed_held);
              alone = r.facts.alone;
              rested = r.facts.rested;
            };
        lengths =
            record {
              base_long = omega (arith, r.lengths.base_long, n.frame.base_length_lem);
              side_long = r.lengths.side_long;
              buffer_long = omega (arith, r.lengths.buffer_long, n.buffer_length_lem);
              kinds_long = omega (arith, r.lengths.kinds_long, n.frame.kinds_length);
            };
        kinds =
            record {
              slot_kinds = n.slot_kinds;
              entry_kinds = every_map (λ e k. n.frame.kept (page_of e) k.0.page_below ∙ k.1) (entries_of w) (every_two (entries_of w) r.facts.each r.kinds.entry_kinds);
            };
      }
    where
      one : (e : Entry) → EntryFacts w e × (is_owed (wait_of w) w.state.closed e ≡ true → (i : ℕ) × (slot_of (slot_count w) t (page_of e) ≡ some i))
          → EntryFacts (next w end t meta raw base buffer kinds) e
      one e f =
          record {
            page_below = omega (arith, f.0.page_below, n.frame.grows);
            entered_first = f.0.entered_first;
            changed_before = f.0.changed_before;
            owed_held = f.1;
            place_below = f.0.place_below;
            not_retired = f.0.not_retired;
          }

  -- a desk reads what it read
  pub view_next : (p : ℕ) → p < w.state.end → kind_of w p ≡ 0 → view (next w end t meta raw base buffer kinds) p ≡ view w p
  unfolding view entries_of base_bytes image_bytes
  view_next p h k = go (find p (entries_of w))
    where
      go : (o : Option Entry) → view_by (next w end t meta raw base buffer kinds) p o ≡ view_by w p o
      go none = n.frame.pages p h k
      go (some e) = refl

  module _ (g : Good w)
      (unchanged : (i : ℕ) → i < slot_count w → vacant t i ≡ false → changed_at t i ≡ false → (page_at t i < w.state.end) × (page (page_size w) i buffer ≡ view w (page_at t i)))
      (newer : (p : ℕ) → g.ending ≤ p → p < end → get_or kinds p 0 ≡ 0 → (i : ℕ) × ((slot_of (slot_count w) t p ≡ some i) × (changed_at t i ≡ true))) where
    pub good_next : Good (next w end t meta raw base buffer kinds)
    unfolding entries_of slot_for slot_bytes base_bytes image_bytes
    good_next =
        record {
          ruled = ruled_next g.ruled;
          two = n.frame.two g.two;
          ending = g.ending;
          ended = omega (arith, g.ended, n.frame.grows);
          front = g.front;
          early = g.early;
          sums = g.sums;
          slots =
              λ i h v c.
              let b = unchanged i h v c in
              b.1 ∙ sym (view_next (page_at t i) b.0 (sym (n.frame.kept (page_at t i) b.0) ∙ n.slot_kinds i h v));
          written =
              every_map (λ e k o. k.1.1 o ∙ sym (n.frame.pages (page_of e) k.0.page_below k.1.0)) (entries_of w)
              (every_two (entries_of w) g.ruled.facts.each (every_two (entries_of w) g.ruled.kinds.entry_kinds g.written));
          newer = newer;
        }

    pub good_next_ending : good_next.ending ≡ g.ending
    unfolding good_next
    good_next_ending = refl
