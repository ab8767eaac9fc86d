use Rattle.std.proofs.Common.{ℕ, ◌+◌, ◌*◌, ◌≤◌, ◌≡◌, refl, List, ◌++◌, length, arith}
use Rattle.units.specs.Sizes.{header_length, index_row}
use Rattle.sidefile.specs.Encode.{header_of, index_of}
use Rattle.sidefile.specs.inner.Table.{index_entries}
use Rattle.sidefile.specs.inner.Tables.{IndexAt, entries_in, entries_of_index}
use Rattle.sidefile.specs.declared.Header.{Header}
use Rattle.sidefile.specs.declared.table.Table.{Table}
use Rattle.listing.specs.Text.{head_line, entry_lines}
use Rattle.listing.specs.inner.Written.{adds_next, adds_within, adds_as}
use Rattle.listing.proofs.text.Text.file.Goals as goal
use Rattle.listing.proofs.text.Text.file.Goals.{After-header_of-header}

-- the header that was read, and the table of as many entries as it says
lines : (s : List ℕ) (h : Header) (t : Table) → h ≡ header_of s → IndexAt s h.entries t
    → head_line h ++ entry_lines (entries_in t) ≡ head_line (header_of s) ++ entry_lines (index_of s)
lines s h t e at = rw (entries_of_index s h.entries t at, index_entries s, e)

few : (c : After-header_of-header) → c.header_of-header.result.entries ≤ 144
few c = rw c.header_of-header.ensures c.requires.1.few

pub header_of-header-requires : goal.header_of-header-requires
header_of-header-requires c = omega (arith, c.requires.1.reached)

pub index-requires : goal.index-requires
index-requires c =
    let reached : header_length + c.header_of-header.result.entries * index_row ≤ length c.args.s.now
    = rw c.header_of-header.ensures (omega (arith, c.requires.1.reached)) in
    reached

pub entries-requires : goal.entries-requires
entries-requires c =
    let few = few (goal.at.entries-requires c).After-header_of-header in
    (omega (arith, c.requires.0, c.head.ensures.short, c.head.ensures.long, few, c.index.ensures.rows), omega (arith, c.index.ensures.width))

pub returns : goal.returns
returns c =
    let few = few (goal.at.returns c).After-header_of-header in
    let d = adds_next c.head.ensures c.entries.ensures in
    adds_within (omega (arith, c.index.ensures.rows)) (adds_as (lines c.args.s.now c.header_of-header.result _ c.header_of-header.ensures c.index.ensures) refl d)
