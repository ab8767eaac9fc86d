-- What the recorder closes is listed (document 01, "Listing"): at every close of a recording, what sidelist prints of the side
-- file are the closed tick, e and the entries that the recorder has. The example's listing is computed beside the rows (Rows,
-- proofs/Computed: listing_holds). Assumes nothing.
use Rattle.std.specs.Prelude.{ℕ, ◌≡◌, ◌++◌, length}
use Rattle.std.proofs.Common.{◌∙◌, ap}
use Rattle.recorder.specs.Runs.{Recording, opening, reached}
use Rattle.recorder.specs.World.{World}
use Rattle.listing.specs.laws.Encoded.{listing_encoded}
use Rattle.listing.specs.Text.{head_line, entry_lines, listing}
use Rattle.promises.specs.Demand.{AtClose}
use Rattle.promises.specs.worlds.Encoded.{encodes_good}
use Rattle.promises.specs.worlds.Good.{Good}
use Rattle.promises.specs.worlds.Settled.{settled}
use Rattle.promises.specs.desks.Taken.{index_in, header_in, side_long}

-- in between, those of the last close
pub good_listed : (w : World) (g : Good w) → listing (length w.side) w.side ≡ head_line (header_in w g.ending) ++ entry_lines (index_in w)
good_listed w g =
    listing_encoded w.state.settings w.state.closed g.ending (index_in w) (encodes_good w g) w.side g.front (length w.side) (side_long w g)

pub closed_listed : (r : Recording) → (opening r).number ≡ 0 → AtClose r
    → listing (length (reached r).side) (reached r).side ≡ head_line (header_in (reached r) (reached r).state.end) ++ entry_lines (index_in (reached r))
closed_listed r h c =
    let s = settled r h c in
    good_listed (reached r) s.good ∙ ap (λ (e : ℕ). head_line (header_in (reached r) e) ++ entry_lines (index_in (reached r))) s.whole
