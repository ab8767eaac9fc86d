-- What a world's side file may say: settings, closed tick and entries of a world that follows the state rules are good numbers
-- to encode, with any end above the entries' pages; in a good world, with e as it was at the last close. Assumes nothing.
use Rattle.std.specs.Prelude.{ℕ, ◌<◌, ◌≤◌, ◌≡◌, map, length}
use Rattle.std.proofs.Common.{arith}
use Rattle.std.proofs.lemmas.List.{length-map}
use Rattle.lists.specs.laws.Below.{every_of_map}
use Rattle.lists.specs.Scans.{Every}
use Rattle.lists.specs.laws.Scans.{every_map}
use Rattle.sidefile.specs.laws.Decode.{Encodes}
use Rattle.ledger.specs.Entries.{page_of}
use Rattle.ledger.specs.laws.Rowed.{length_entries_in}
use Rattle.ledger.specs.View.{indexed}
use Rattle.recorder.specs.World.{World, entries_of}
use Rattle.recorder.specs.laws.Facts.{Ruled, end_small}
use Rattle.promises.specs.worlds.Good.{Good}

-- as many entries as the state counts
pub length_entries : (w : World) → length (entries_of w) ≡ w.state.entries
unfolding entries_of
length_entries w = length_entries_in w.state.entries w.ledger

pub encodes_ruled : (w : World) → Ruled w → (end : ℕ) → end ≤ 65535 → Every (λ e. page_of e < end) (entries_of w)
    → Encodes w.state.settings w.state.closed end (map indexed (entries_of w))
encodes_ruled w r end b early =
    record {
      limited = r.facts.limited;
      tick = r.tick;
      ended = b;
      few = rw (length-map (entries_of w) indexed, length_entries w) r.facts.counted;
      small = every_of_map indexed (entries_of w) (every_map (λ e s. record { page = s.page; place = s.place; changed = s.changed; sum = s.sum }) (entries_of w) r.small);
      ascends = r.facts.ascends;
      pages = every_of_map indexed (entries_of w) early;
      placed = every_of_map indexed (entries_of w) (every_map (λ e f. f.place_below) (entries_of w) r.facts.each);
      alone = r.facts.alone;
      earlier = every_of_map indexed (entries_of w) (every_map (λ e f. f.changed_before) (entries_of w) r.facts.each);
    }

pub encodes_good : (w : World) (g : Good w) → Encodes w.state.settings w.state.closed g.ending (map indexed (entries_of w))
encodes_good w g = encodes_ruled w g.ruled g.ending (omega (arith, g.ended, end_small w g.ruled)) g.early
