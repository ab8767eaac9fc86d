-- What a side file or a held buffer says of itself: its header, and the entries of its index one by one. Both begin alike, so
-- both are read here: the tests are those of 11 and those of 12 that concern the header, with room for the index that it
-- names. The index itself goes unjudged. E is in neither, so the capacity told is the largest one (`header_of`).
use Rattle.std.specs.Prelude.{ℕ, ◌&&◌, List, ◌++◌, ltb, length}
use Rattle.lists.specs.Bools.{if_then}
use Rattle.octets.specs.Rows.{row}
use Rattle.units.specs.Ages.{tick}
use Rattle.units.specs.Sizes.{header_length, index_row}
use Rattle.units.specs.Tests.{Test, passes, tested}
use Rattle.sidefile.specs.Encode.{header_of, index_entry_of}
use Rattle.sidefile.specs.Judge.{mark_tests, header_tests, holds}
use Rattle.sidefile.specs.declared.Header.{Header}
use Rattle.sidefile.specs.declared.IndexEntry.{IndexEntry}
use Rattle.sidefile.specs.declared.told.EntryTold.{EntryTold}
use Rattle.sidefile.specs.declared.told.Told.{Told}

abbrev pub told_tests : List ℕ → List Test
told_tests xs = mark_tests xs ++ header_tests (holds (length xs)) xs

-- a refusal: its number, and zeros
abbrev pub untold : ℕ → Told
untold n =
    record {
      number = n;
      tick = tick 0;
      end = 0;
      entries = 0;
      settings = record { size = 0; slots = 0; lag = 0; capacity = 0 };
    }

abbrev pub told_of : Header → Told
told_of h = record { number = 0; tick = h.closed; end = h.end; entries = h.entries; settings = h.settings }

unfoldable pub told : List ℕ → Told
told xs = tested (told_tests xs) untold (told_of (header_of xs))

-- no entry: zeros
abbrev pub no_entry : EntryTold
no_entry = record { found = 0; page = record { 0 = 0 }; place = record { 0 = 0 }; changed = tick 0; sum = 0 }

abbrev pub entry_of : IndexEntry → EntryTold
entry_of x = record { found = 1; page = x.page; place = x.place; changed = x.changed; sum = x.sum }

-- row i of the index, if the header passes and counts it
unfoldable pub entry_told : List ℕ → ℕ → EntryTold
entry_told xs i =
    if_then (passes (told_tests xs) && ltb i (header_of xs).entries) (entry_of (index_entry_of (row header_length index_row i xs))) no_entry
