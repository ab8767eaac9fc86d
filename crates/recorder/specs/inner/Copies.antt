-- What a close copies from the page buffer: the images of its changed pages into the side file, the pages of due entries into the
-- base. A page that is in no slot has no bytes, and nothing is laid for it. Assumes nothing.
use Rattle.std.specs.Prelude.{ℕ, ◌*◌, List, [], map, get_or}
use Rattle.lists.specs.Below.{below}
use Rattle.lists.specs.Scans.{keep}
use Rattle.units.specs.Sizes.{image_at}
use Rattle.units.specs.declared.Page.{Page}
use Rattle.units.specs.declared.Place.{Place}
use Rattle.units.specs.declared.Settings.{Settings}
use Rattle.units.specs.declared.Tick.{Tick}
use Rattle.sidefile.specs.Encode.{image_sum}
use Rattle.slots.specs.Table.{to_page}
use Rattle.ledger.specs.Entries.{page_of}
use Rattle.ledger.specs.laws.Laid.{lay_each}
use Rattle.ledger.specs.inner.Renewed.{is_due_now}
use Rattle.ledger.specs.declared.Entry.{Entry}
use Rattle.recorder.specs.inner.Handed.{handed}
use Rattle.recorder.specs.Outcome.{lent}
use Rattle.recorder.specs.World.{World, page_size, wait_of, bytes_in, zero_state}

-- the copies look at the settings, the pages in the slots and the page buffer alone
abbrev pub shown : Settings → List Page → List ℕ → World
shown settings pages buffer = handed settings 0 0 pages [] (lent zero_state [] [] [] buffer [])

-- the image of page j laid at place j, for each j below k; and the checksums of some pages' images
unfoldable pub images_laid : World → List Page → List Place → ℕ → List ℕ → List ℕ
images_laid w pages places k xs =
    lay_each (λ j. image_at w.state.settings (get_or places j (record { 0 = 0 }))) (λ j. bytes_in w (get_or pages j (to_page 0)).0) (below k) xs

unfoldable pub image_sums : World → List ℕ → List ℕ
image_sums w cs = map (λ p. image_sum (to_page p) (bytes_in w p)) cs

-- the pages of those entries that are due at the close of N, laid over the base
unfoldable pub due_laid : World → Tick → List Entry → List ℕ → List ℕ
due_laid w N es xs = lay_each (λ e. page_of e * page_size w) (λ e. bytes_in w (page_of e)) (keep (is_due_now (wait_of w) N) es) xs
