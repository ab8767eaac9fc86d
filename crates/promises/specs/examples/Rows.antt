-- The rows a to j of document 01 ("What the contracts pin"), as one table: what the definitions give, and what it is to be.
-- The recordings are those of its example: P = 512, L = 3, four pages, all metadata, files and buffers of zeros.
use Rattle.std.specs.Prelude.{ℕ, zero, suc, List, [], ◌∷◌, ◌++◌, ◌≡◌, length, get_or, replicate}
use Rattle.std.proofs.Math.Option.{Option, some, none}
use Rattle.lists.specs.Scans.{Every}
use Rattle.units.specs.Sizes.{side_length, ledger_length, buffer_length}
use Rattle.units.specs.declared.Settings.{Settings}
use Rattle.sidefile.specs.Encode.{checksum}
use Rattle.slots.specs.Table.{slot_of}
use Rattle.ledger.specs.declared.Entry.{Entry}
use Rattle.recorder.specs.World.{World, entries_of, zero_state}
use Rattle.recorder.specs.Calls.{open_reply}
use Rattle.recorder.specs.Runs.{Call, read, write, grow, close, reply, run}
use Rattle.recorder.specs.declared.Counts.{Counts}
use Rattle.desk.specs.Take.{take_reply}
use Rattle.desk.specs.Read.{Answer, desk_read}
use Rattle.listing.specs.Text.{ascii, listing}

-- one fact of a row: what comes out, and what is to come out
pub record Fact : Type 0 where
  pub gives : List ℕ
  pub wanted : List ℕ

abbrev pub fact : List ℕ → List ℕ → Fact
fact gives wanted = record { gives = gives; wanted = wanted }

unfoldable pub zeros : ℕ → List ℕ
zeros n = replicate n 0

unfoldable pub settings : ℕ → Settings
settings S = record { size = 512; slots = S; lag = 3; capacity = 4 }

unfoldable pub lent : Settings → World
lent s =
    record {
      state = zero_state;
      ledger = zeros (ledger_length s);
      base = zeros 2048;
      side = zeros (side_length s);
      buffer = zeros (buffer_length s);
      kinds = zeros 4;
    }

-- a recording with S slots and e pages, its calls one after the other
unfoldable pub start : ℕ → ℕ → World
start S e = (open_reply (settings S) e 0 (lent (settings S))).world

unfoldable pub after : List Call → World
after calls = run calls (start 2 4)

unfoldable pub closes : ℕ → List Call
closes zero = []
closes (suc n) = close ∷ closes n

-- page p is written at its first byte
unfoldable pub writes : ℕ → ℕ → Call
writes p byte = write p 0 (byte ∷ [])

-- the example: page 2 is written in tick 1; in the second variant in tick 2 as well
unfoldable pub example : ℕ → List Call
example n = writes 2 7 ∷ closes n

unfoldable pub variant : ℕ → List Call
variant n = writes 2 7 ∷ (close ∷ (writes 2 8 ∷ closes n))

-- reads of pages 0, 1, 0 and 2
unfoldable pub four_reads : List Call
four_reads = read 0 0 (0 ∷ []) ∷ read 1 0 (0 ∷ []) ∷ read 0 0 (0 ∷ []) ∷ read 2 0 (0 ∷ []) ∷ []

-- entries as page, place, last change, entry tick; the first byte of page 2 in the base
unfoldable pub listed : List Entry → List ℕ
listed [] = []
listed (e ∷ es) = e.page.0 ∷ e.place.0 ∷ e.changed.0 ∷ e.entered.0 ∷ listed es

unfoldable pub index : World → List ℕ
index w = listed (entries_of w)

unfoldable pub in_base : World → List ℕ
in_base w = get_or w.base 1024 0 ∷ []

-- the number that a call answers
unfoldable pub number : Call → World → List ℕ
number c w = (reply c w).number ∷ []

unfoldable pub counted : Counts → List ℕ
counted c = c.accesses ∷ c.hits ∷ c.misses ∷ c.evictions ∷ c.bypasses ∷ []

unfoldable pub slot_number : Option ℕ → List ℕ
slot_number none = []
slot_number (some i) = i ∷ []

-- a desk: what it took at one world, and what it reads of page 2 at another
unfoldable pub held : World → List ℕ
held w = (take_reply w.side (zeros 164)).held

unfoldable pub answer : Answer → List ℕ
answer a = a.number ∷ a.source ∷ a.offset ∷ []

unfoldable pub reads : World → World → ℕ → ℕ → List ℕ
reads taken w offset n = answer (desk_read (held taken) w.side w.base 2 offset n)

-- a: enters at 1 in place 0; not in the base at close 3, there at 4; leaves at 5; place 0 is not given at 7, and is at 8
unfoldable pub row_a : List Fact
row_a =
    fact (index (after (example 1))) (2 ∷ 0 ∷ 1 ∷ 1 ∷ [])
    ∷ fact (in_base (after (example 3))) (0 ∷ [])
    ∷ fact (in_base (after (example 4))) (7 ∷ [])
    ∷ fact (index (after (example 4))) (2 ∷ 0 ∷ 1 ∷ 1 ∷ [])
    ∷ fact (index (after (example 5))) []
    ∷ fact (index (after (example 6 ++ (writes 1 9 ∷ close ∷ [])))) (1 ∷ 1 ∷ 7 ∷ 7 ∷ [])
    ∷ fact (index (after (example 7 ++ (writes 1 9 ∷ close ∷ [])))) (1 ∷ 0 ∷ 8 ∷ 8 ∷ [])
    ∷ []

-- b: place 1 at close 2; the base at 4, with the later byte; place 0 again from 5, not at 4; leaves at 6
unfoldable pub row_b : List Fact
row_b =
    fact (index (after (variant 1))) (2 ∷ 1 ∷ 2 ∷ 1 ∷ [])
    ∷ fact (in_base (after (variant 2))) (0 ∷ [])
    ∷ fact (in_base (after (variant 3))) (8 ∷ [])
    ∷ fact (index (after (variant 2 ++ (writes 1 9 ∷ close ∷ [])))) (1 ∷ 2 ∷ 4 ∷ 4 ∷ 2 ∷ 1 ∷ 2 ∷ 1 ∷ [])
    ∷ fact (index (after (variant 3 ++ (writes 1 9 ∷ close ∷ [])))) (1 ∷ 0 ∷ 5 ∷ 5 ∷ 2 ∷ 1 ∷ 2 ∷ 1 ∷ [])
    ∷ fact (index (after (variant 4))) (2 ∷ 1 ∷ 2 ∷ 1 ∷ [])
    ∷ fact (index (after (variant 5))) []
    ∷ []

-- c: held tick 0, read at closed tick 3 and at 4
unfoldable pub row_c : List Fact
row_c =
    fact (reads (after []) (after (closes 3)) 0 1) (0 ∷ 0 ∷ 1024 ∷ [])
    ∷ fact (reads (after []) (after (closes 4)) 0 1) (13 ∷ 0 ∷ 0 ∷ [])
    ∷ []

-- d: held tick 4, closed tick 7: place 0, which begins at byte 512 of the side file
unfoldable pub row_d : List Fact
row_d =
    fact (reads (after (example 4)) (after (example 7)) 0 1) (0 ∷ 1 ∷ 512 ∷ [])
    ∷ []

-- e: two slots, reads of 0, 1, 0, 2: the counts, and page 1 has no slot any more
unfoldable pub row_e : List Fact
row_e =
    fact (counted (after four_reads).state.meta) (4 ∷ 1 ∷ 3 ∷ 1 ∷ 0 ∷ [])
    ∷ fact (slot_number (slot_of 2 (after four_reads).state.slots 1)) []
    ∷ fact (slot_number (slot_of 2 (after four_reads).state.slots 0)) (0 ∷ [])
    ∷ []

-- f and g: one slot, page 0 changed: a write of page 1 finds none, a read of it is a bypass
unfoldable pub rows_fg : List Fact
rows_fg =
    fact (number (writes 1 9) (run (writes 0 7 ∷ []) (start 1 4))) (7 ∷ [])
    ∷ fact (number (read 1 0 (0 ∷ [])) (run (writes 0 7 ∷ []) (start 1 4))) (0 ∷ [])
    ∷ fact (counted (run (writes 0 7 ∷ read 1 0 (0 ∷ []) ∷ []) (start 1 4)).state.meta) (1 ∷ 0 ∷ 1 ∷ 0 ∷ 1 ∷ [])
    ∷ []

-- h: a span of 512 bytes at offset 0 and at offset 1, of read, write and the desk's read
unfoldable pub row_h : List Fact
row_h =
    fact (number (read 2 0 (zeros 512)) (start 2 4)) (0 ∷ [])
    ∷ fact (number (read 2 1 (zeros 512)) (start 2 4)) (6 ∷ [])
    ∷ fact (number (write 2 0 (zeros 512)) (start 2 4)) (0 ∷ [])
    ∷ fact (number (write 2 1 (zeros 512)) (start 2 4)) (6 ∷ [])
    ∷ fact (reads (after []) (after []) 0 512) (0 ∷ 0 ∷ 1024 ∷ [])
    ∷ fact (reads (after []) (after []) 1 512) (6 ∷ 0 ∷ 0 ∷ [])
    ∷ []

-- i: the checksum of nothing
unfoldable pub row_i : List Fact
row_i =
    fact (checksum [] ∷ []) (3735928559 ∷ [])
    ∷ []

-- j: e at E and no slot to be had: 8, of kind 0
unfoldable pub row_j : List Fact
row_j =
    fact (number (grow 0) (run (writes 0 7 ∷ []) (start 1 4))) (8 ∷ [])
    ∷ []

unfoldable pub table : List (List Fact)
table = row_a ∷ row_b ∷ row_c ∷ row_d ∷ row_e ∷ rows_fg ∷ row_h ∷ row_i ∷ row_j ∷ []

-- the statement, which RowsHold proves by computing
abbrev pub Holds : List Fact → Type 0
Holds facts = Every (λ f. f.gives ≡ f.wanted) facts

abbrev pub RowsHold : Type 0
RowsHold = Every Holds table

-- beside the rows, the listing that document 01 shows ("Listing"): what sidelist prints of the side file after close 1
unfoldable pub prints : World → List ℕ
prints w = listing (length w.side) w.side

unfoldable pub row_listing : List Fact
row_listing =
    fact (prints (after (example 1))) (ascii "tick 1 end 4 entries 1\n2 0 1\n")
    ∷ []

abbrev pub ListingHolds : Type 0
ListingHolds = Holds row_listing
