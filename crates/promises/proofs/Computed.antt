-- The rows of document 01, the clause that failed and a longer recording hold: all is computed from the definitions. The
-- checksum stays shut where nothing looks at it. A proof here says only which definitions are opened.
use Rattle.std.specs.Prelude.{refl}
use Rattle.lists.specs.Scans.{done, more}
use Rattle.octets.specs.Rows as InBytes
use Rattle.lists.specs.Below.{from, zip}
use Rattle.lists.specs.Scans.{keep, any_of, all_of, first}
use Rattle.octets.specs.Number.{le, bytes}
use Rattle.octets.specs.Part.{part, lay}
use Rattle.octets.specs.Rows.{rows, join}
use Rattle.lookup3.specs.Hash.{sub_xor, xor_sub, half, mix, final, add_block, begin, blocks, hashlittle}
use Rattle.units.specs.Ages.{owed, due, leaves, reusable}
use Rattle.units.specs.Sizes.{limits, wait, entries, places, index_end, first_image, image_at, side_length, base_length, buffer_length, places_at, ledger_length}
use Rattle.units.specs.Tests.{passes, tested}
use Rattle.sidefile.specs.Encode.{checksum, image_sum, header_front, header_bytes, index_row_of, index_rows, index_bytes, header_for, header_of, index_entry_of, index_of}
use Rattle.sidefile.specs.Judge.{ascending, apart, mark_tests, header_tests, index_tests, whole_tests, front_tests, held_tests}
use Rattle.slots.specs.Rules.{slot_rules}
use Rattle.slots.specs.Table.{page_at, vacant, changed_at, slot_of, lowest_empty, changed_page, uses, without, times, victim_in, victim, touched, loaded, evicted, marked, unmarked, seat_in, seated, no_slots, zero_slots}
use Rattle.ledger.specs.Entries.{has, at, find, is_owed, owed_page, is_leaving, retires, is_due, is_reusable, place_after, insert, put_all, fresh}
use Rattle.ledger.specs.Rules.{entry_rules, ledger_rules}
use Rattle.ledger.specs.View.{entry_row_of, entry_of, entries_in, entry_bytes, place_row_at, retired, retired_at, retired_row}
use Rattle.recorder.specs.Calls.{open_state, open_tests, opened, open_reply, unclean, found_in, found, hit_world, miss_world, meta_bypass, raw_bypass, read_found, read_reply, written, write_found, write_reply, grow_tests, grown, grow_seated, grow_reply}
use Rattle.recorder.specs.Calls as Calls
use Rattle.recorder.specs.Close.{changed_in, changes, free_places, given, fresh_entries, staying, after, due_entries, image_stores, base_stores, front_stores, stores, to_side, to_base, ledger_after, closed, suffices, close_tests, close_reply}
use Rattle.recorder.specs.Rules.{rules, long_enough, kind_rules, standing}
use Rattle.recorder.specs.Runs.{reply, run}
use Rattle.recorder.specs.World.{entries_of, slot_bytes, base_bytes, slot_for, bytes_in, zero_state}
use Rattle.desk.specs.Read.{read_tests, held_entry, located, desk_read}
use Rattle.desk.specs.Read as Read
use Rattle.desk.specs.Take.{taken, take_tests, take_reply, same_settings, within_lag, mark_of, marks_after, refresh_tests, refresh_reply}
use Rattle.listing.specs.Decimal.{digits, decimal}
use Rattle.listing.specs.Text.{ascii, head_line, entry_line, entry_lines, refused_line, listing}
use Rattle.promises.specs.examples.Clause as Clause
use Rattle.promises.specs.examples.Longer as Longer
use Rattle.promises.specs.examples.Rows as Rows

-- What is opened, crate by crate: to unfold one of these is to unfold all that its line names.
abbrev Opened : Type 0
Opened = Unit

octets_open : Opened
unfolding from zip keep any_of all_of first le bytes part lay rows join InBytes.row
octets_open = tt

units_open : Opened
unfolding owed due leaves reusable limits wait entries places index_end first_image image_at side_length base_length buffer_length places_at ledger_length passes tested
units_open = tt

sidefile_open : Opened
unfolding checksum image_sum header_front header_bytes index_row_of index_rows index_bytes header_for header_of index_entry_of index_of ascending apart mark_tests header_tests index_tests whole_tests front_tests held_tests
sidefile_open = tt

slots_open : Opened
unfolding slot_rules page_at vacant changed_at slot_of lowest_empty changed_page uses without times victim_in victim touched loaded evicted marked unmarked seat_in seated no_slots zero_slots
slots_open = tt

ledger_open : Opened
unfolding has at find is_owed owed_page is_leaving retires is_due is_reusable place_after insert put_all fresh entry_row_of entry_of entries_in entry_bytes place_row_at retired retired_at retired_row entry_rules ledger_rules
ledger_open = tt

recorder_open : Opened
unfolding open_state open_tests opened open_reply unclean found_in found hit_world miss_world meta_bypass raw_bypass read_found read_reply written write_found write_reply grow_tests grown grow_seated grow_reply Calls.span_tests changed_in changes free_places given fresh_entries staying after due_entries image_stores base_stores front_stores stores to_side to_base ledger_after closed suffices close_tests close_reply rules long_enough kind_rules standing reply run entries_of slot_bytes base_bytes slot_for bytes_in zero_state
recorder_open = tt

desk_open : Opened
unfolding read_tests held_entry located desk_read Read.span_tests taken take_tests take_reply same_settings within_lag mark_of marks_after refresh_tests refresh_reply
desk_open = tt

rows_open : Opened
unfolding Rows.zeros Rows.settings Rows.lent Rows.start Rows.after Rows.closes Rows.writes Rows.example Rows.variant Rows.four_reads Rows.listed Rows.index Rows.in_base Rows.number Rows.counted Rows.slot_number Rows.held Rows.answer Rows.reads
rows_open = tt

computing : Opened
unfolding octets_open units_open sidefile_open slots_open ledger_open recorder_open desk_open rows_open
computing = tt

-- and the checksum
summing : Opened
unfolding computing sub_xor xor_sub half mix final add_block begin blocks hashlittle
summing = tt

longer_open : Opened
unfolding Longer.to_four Longer.to_seven Longer.to_eight Longer.still Longer.busy Longer.shows Longer.asked
longer_open = tt

unsummed : Rows.Holds Rows.row_a × Rows.Holds Rows.row_b × Rows.Holds Rows.row_e × Rows.Holds Rows.rows_fg × Rows.Holds Rows.row_j
unfolding computing Rows.row_a Rows.row_b Rows.row_e Rows.rows_fg Rows.row_j
unsummed = (
  more refl (more refl (more refl (more refl (more refl (more refl (more refl (done))))))),
  more refl (more refl (more refl (more refl (more refl (more refl (more refl (done))))))),
  more refl (more refl (more refl (done))),
  more refl (more refl (more refl (done))),
  more refl (done),
)

summed : Rows.Holds Rows.row_c × Rows.Holds Rows.row_d × Rows.Holds Rows.row_h × Rows.Holds Rows.row_i
unfolding summing Rows.row_c Rows.row_d Rows.row_h Rows.row_i
summed = (
  more refl (more refl (done)),
  more refl (done),
  more refl (more refl (more refl (more refl (more refl (more refl (done)))))),
  more refl (done),
)

pub rows_hold : Rows.RowsHold
unfolding Rows.table
rows_hold =
    more unsummed.0 (more unsummed.1 (more summed.0 (more summed.1 (more unsummed.2 (more unsummed.3 (more summed.2 (more summed.3 (more unsummed.4 done))))))))

pub listing_holds : Rows.ListingHolds
unfolding summing ascii digits decimal head_line entry_line entry_lines refused_line listing Rows.prints Rows.row_listing
listing_holds = more refl done

pub clause_holds : Clause.ClauseHolds
unfolding summing Clause.before Clause.later Clause.refreshed Clause.shown Clause.clause
clause_holds =
    more refl (more refl (more refl (more refl (done))))

course_holds : Rows.Holds Longer.course
unfolding computing longer_open Longer.course
course_holds =
    more refl (more refl (more refl (more refl (more refl (done)))))

futures_hold : Rows.Holds Longer.futures
unfolding computing longer_open Longer.futures
futures_hold =
    more refl (more refl (done))

desks_hold : Rows.Holds Longer.desks
unfolding summing longer_open Longer.desks
desks_hold =
    more refl (more refl (more refl (more refl (more refl (more refl (done))))))

pub longer_holds : Longer.LongerHolds
longer_holds = (course_holds, futures_hold, desks_hold)
