-- The clause of the letter that failed: two load tables declared identical because page and place were compared and the
-- change tick was not. Page 2 is written and tick 1 closed, and a desk takes; a new open at B = 2 over the same files, page 2
-- written, tick 3 closed, and the desk refreshes. Its entry has the page and the place of the held one; yet page 2 is marked.
use Rattle.std.specs.Prelude.{ℕ, List, [], ◌∷◌}
use Rattle.sidefile.specs.Encode.{index_of}
use Rattle.sidefile.specs.declared.IndexEntry.{IndexEntry}
use Rattle.recorder.specs.World.{World}
use Rattle.recorder.specs.Calls.{open_reply}
use Rattle.recorder.specs.Runs.{close, run}
use Rattle.desk.specs.Take.{Taken, refresh_reply}
use Rattle.promises.specs.examples.Rows.{Fact, fact, Holds, zeros, settings, start, writes, held}

unfoldable pub before : World
before = run (writes 2 7 ∷ close ∷ []) (start 2 4)

unfoldable pub later : World
later = run (writes 2 8 ∷ close ∷ []) (open_reply (settings 2) 4 2 before).world

unfoldable pub refreshed : Taken
refreshed = refresh_reply later.side (held before) (zeros 4)

-- entries as page, place, last change
unfoldable pub shown : List IndexEntry → List ℕ
shown [] = []
shown (x ∷ xs) = x.page.0 ∷ x.place.0 ∷ x.changed.0 ∷ shown xs

unfoldable pub clause : List Fact
clause =
    fact (shown (index_of (held before))) (2 ∷ 0 ∷ 1 ∷ [])
    ∷ fact (refreshed.number ∷ []) (0 ∷ [])
    ∷ fact (shown (index_of refreshed.held)) (2 ∷ 0 ∷ 3 ∷ [])
    ∷ fact refreshed.marks (0 ∷ 0 ∷ 1 ∷ 0 ∷ [])
    ∷ []

abbrev pub ClauseHolds : Type 0
ClauseHolds = Holds clause
