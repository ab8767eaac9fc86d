-- What is encoded is listed: the listing of a side file that begins with the header and index of good numbers says them, and
-- document 01's example is the one printed there. Assumes nothing.
use Rattle.std.specs.Prelude.{ℕ, ◌≤◌, ◌≡◌, List, [], ◌∷◌, ◌++◌}
use Rattle.std.proofs.Common.{◌∙◌}
use Rattle.octets.specs.Part.{part}
use Rattle.octets.specs.Rows.{join}
use Rattle.units.specs.Ages.{tick}
use Rattle.units.specs.Sizes.{index_end, side_length}
use Rattle.units.specs.declared.Settings.{Settings}
use Rattle.units.specs.declared.Tick.{Tick}
use Rattle.sidefile.specs.laws.Accept.{file_header, file_index, whole_passes}
use Rattle.sidefile.specs.laws.Decode.{Encodes}
use Rattle.sidefile.specs.Encode.{named, header_of_close, header_for, index_bytes}
use Rattle.sidefile.specs.declared.IndexEntry.{IndexEntry}
use Rattle.listing.specs.Decimal.{digits, decimal}
use Rattle.listing.specs.laws.Judged.{listing_accepted}
use Rattle.listing.specs.Text.{ascii, head_line, entry_line, entry_lines, listing}

-- a file of n bytes that begins with the encoding
module _ (s : Settings) (closed : Tick) (end : ℕ) (xs : List IndexEntry) (e : Encodes s closed end xs) (file : List ℕ)
    (front : part file 0 (index_end s) ≡ header_for s closed end xs ++ index_bytes s xs) (n : ℕ) (long : side_length s ≤ n) where
  pub listing_encoded : listing n file ≡ head_line (header_of_close (named s) closed end xs) ++ entry_lines xs
  listing_encoded =
      listing_accepted n file (whole_passes s closed end xs e file front n long)
      ∙ (λ i. head_line (file_header s closed end xs e file front i) ++ entry_lines (file_index s closed end xs e file front i))

-- page 2 in place 0, changed in tick 1, with e = 4
abbrev entry : ℕ → IndexEntry
entry sum = record { page = record { 0 = 2 }; place = record { 0 = 0 }; changed = tick 1; sum = sum }

pub example : (s : Settings) (sum : ℕ) → Encodes s (tick 1) 4 (entry sum ∷ []) → (file : List ℕ)
    → part file 0 (index_end s) ≡ header_for s (tick 1) 4 (entry sum ∷ []) ++ index_bytes s (entry sum ∷ [])
    → (n : ℕ)
    → side_length s ≤ n
    → listing n file ≡ ascii "tick 1 end 4 entries 1\n2 0 1\n"
unfolding head_line entry_line entry_lines join ascii decimal digits
example s sum e file front n long = listing_encoded s (tick 1) 4 (entry sum ∷ []) e file front n long
