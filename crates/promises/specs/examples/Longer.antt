-- A longer recording: entries that enter, reach the base and leave, a page evicted for another, a place given again, and a
-- desk that took at close 8 and reads after L further closes, in two futures. It shows that what the theorems ask for occurs.
use Rattle.std.specs.Prelude.{ℕ, List, [], ◌∷◌, ◌++◌, get_or}
use Rattle.recorder.specs.World.{World}
use Rattle.recorder.specs.Runs.{Call, read, close, run}
use Rattle.desk.specs.Read.{Answer, desk_read}
use Rattle.promises.specs.examples.Rows.{Fact, fact, Holds, after, closes, writes, index, counted, held}

-- closes 1 to 4 and 5 to 7; pages 0 and 1 are written in tick 1, page 2 is read and written in tick 5, page 3 written in 8
unfoldable pub to_four : List Call
to_four = writes 0 5 ∷ (writes 1 6 ∷ closes 4)

unfoldable pub to_seven : List Call
to_seven = to_four ++ (read 2 0 (0 ∷ []) ∷ (writes 2 7 ∷ closes 3))

unfoldable pub to_eight : List Call
to_eight = to_seven ++ (writes 3 8 ∷ close ∷ [])

-- two futures of close 8, with L further closes each
unfoldable pub still : World
still = run (closes 3) (after to_eight)

unfoldable pub busy : World
busy = run (writes 2 9 ∷ (close ∷ (writes 3 10 ∷ closes 2))) (after to_eight)

-- number, source, offset and first byte of a page, as the desk of close 8 reads it
unfoldable pub shows : Answer → List ℕ
shows a = a.number ∷ a.source ∷ a.offset ∷ get_or a.bytes 0 0 ∷ []

unfoldable pub asked : World → ℕ → List ℕ
asked w p = shows (desk_read (held (after to_eight)) w.side w.base p 0 1)

unfoldable pub course : List Fact
course =
    fact (index (after to_four)) (0 ∷ 0 ∷ 1 ∷ 1 ∷ 1 ∷ 1 ∷ 1 ∷ 1 ∷ [])
    ∷ fact (get_or (after to_four).base 0 0 ∷ get_or (after to_four).base 512 0 ∷ []) (5 ∷ 6 ∷ [])
    ∷ fact (index (after to_seven)) (2 ∷ 2 ∷ 5 ∷ 5 ∷ [])
    ∷ fact (counted (after to_seven).state.meta) (4 ∷ 1 ∷ 3 ∷ 1 ∷ 0 ∷ [])
    ∷ fact (index (after to_eight)) (2 ∷ 2 ∷ 5 ∷ 5 ∷ 3 ∷ 0 ∷ 8 ∷ 8 ∷ [])
    ∷ []

unfoldable pub futures : List Fact
futures =
    fact (index still) (3 ∷ 0 ∷ 8 ∷ 8 ∷ [])
    ∷ fact (index busy) (2 ∷ 1 ∷ 9 ∷ 5 ∷ 3 ∷ 3 ∷ 10 ∷ 8 ∷ [])
    ∷ []

unfoldable pub desks : List Fact
desks =
    fact (asked still 1) (0 ∷ 0 ∷ 512 ∷ 6 ∷ [])
    ∷ fact (asked busy 1) (0 ∷ 0 ∷ 512 ∷ 6 ∷ [])
    ∷ fact (asked still 2) (0 ∷ 1 ∷ 1536 ∷ 7 ∷ [])
    ∷ fact (asked busy 2) (0 ∷ 1 ∷ 1536 ∷ 7 ∷ [])
    ∷ fact (asked still 3) (0 ∷ 1 ∷ 512 ∷ 8 ∷ [])
    ∷ fact (asked busy 3) (0 ∷ 1 ∷ 512 ∷ 8 ∷ [])
    ∷ []

abbrev pub LongerHolds : Type 0
LongerHolds = Holds course × Holds futures × Holds desks
