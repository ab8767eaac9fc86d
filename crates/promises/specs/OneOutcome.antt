-- One outcome (document 01, "What the contracts pin"): two answers that an export's contract allows for the same input are
-- equal. Here those that answer a number or a struct and write nothing: the checksum, the lengths and what a state says (cabi:
-- lib, lengths, fields). The recorder's five calls have it in Performed (one_outcome), the desk's calls in desk/laws/OneOutcome.
-- Assumes nothing.
use Rattle.std.specs.Prelude.{ℕ, ◌≡◌, List}
use Rattle.std.proofs.Common.{◌∙◌, sym}
use Rattle.lists.specs.Bools.{if_then}
use Rattle.lookup3.specs.Hash.{hashlittle}
use Rattle.units.specs.Sizes.{limits, ledger_length, base_length, side_length, buffer_length, held_length}
use Rattle.units.specs.declared.Settings.{Settings}
use Rattle.recorder.specs.declared.State.{State}

-- a contract says that the answer is this; then it is the only one
abbrev pub One : {A : Type 0} → A → Type 0
One {A} this = (r s : A) → r ≡ this → s ≡ this → r ≡ s

pub one : {A : Type 0} (this : A) → One this
one this r s p q = p ∙ sym q

pub lookup3_one : (bytes : List ℕ) (start : ℕ) → One (hashlittle bytes start)
lookup3_one bytes start = one (hashlittle bytes start)

-- a length that settings ask for: 0 outside their limits
abbrev asked : (Settings → ℕ) → Settings → ℕ
asked length s = if_then (limits s) (length s) 0

module _ (s : Settings) where
  pub ledger_length_one : One (asked ledger_length s)
  ledger_length_one = one (asked ledger_length s)

  pub base_length_one : One (asked base_length s)
  base_length_one = one (asked base_length s)

  pub side_length_one : One (asked side_length s)
  side_length_one = one (asked side_length s)

  pub buffer_length_one : One (asked buffer_length s)
  buffer_length_one = one (asked buffer_length s)

  pub held_length_one : One (asked held_length s)
  held_length_one = one (asked held_length s)

-- what a state says
module _ (state : State) where
  pub closed_tick_one : One state.closed.0
  closed_tick_one = one state.closed.0

  pub end_one : One state.end
  end_one = one state.end

  pub entries_one : One state.entries
  entries_one = one state.entries

  pub settings_of_one : One state.settings
  settings_of_one = one state.settings

  pub metadata_counts_one : One state.meta
  metadata_counts_one = one state.meta

  pub raw_counts_one : One state.raw
  raw_counts_one = one state.raw
