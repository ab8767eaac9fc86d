-- What holds of any world, forged ones included: after an accepted call the state rules hold, those that look into the kind
-- table as well; what an accepted open or close leaves, a desk takes, and its held index is the recorder's entries. A world
-- may be anything that the code's types allow. (That a refused call changes nothing is Refused.antt.) Assumes nothing.
use Rattle.std.specs.Prelude.{ℕ, ◌≤◌, ◌≡◌, refl, true, List, [], ◌++◌, map, length}
use Rattle.std.proofs.Common.{sym, ap, subst, arith}
use Rattle.octets.specs.Number.{Octets}
use Rattle.units.specs.Sizes.{top, index_end, side_length}
use Rattle.units.specs.Tests.{passes}
use Rattle.units.specs.laws.Tests.{passes_both, tested_accepted}
use Rattle.units.specs.declared.Settings.{Settings}
use Rattle.sidefile.specs.Encode.{index_of}
use Rattle.slots.specs.laws.Sits.{Whole}
use Rattle.ledger.specs.laws.Rowed.{small_entries_in}
use Rattle.ledger.specs.View.{indexed}
use Rattle.recorder.specs.laws.Asked.{numbered_span, numbered_grow}
use Rattle.recorder.specs.World.{World, refuse, entries_of}
use Rattle.recorder.specs.Rules.{rules, kind_rules, standing}
use Rattle.recorder.specs.Calls.{span_tests, grow_tests, open_reply, read_reply, write_reply, grow_reply}
use Rattle.recorder.specs.Close.{closed, close_tests, close_reply}
use Rattle.recorder.specs.Runs.{Call, read, write, grow, close, reply}
use Rattle.desk.specs.Take.{Taken, take_reply}
use Rattle.promises.specs.closes.CloseWay.{Closes, close_accepted}
use Rattle.recorder.specs.laws.Closed.{side_length_closed}
use Rattle.promises.specs.closes.ClosedRules.{front_closed, encodes_closed}
use Rattle.recorder.specs.laws.Facts.{Ruled, passes_ruled, rule_back, kind_back}
use Rattle.promises.specs.worlds.Opened.{good_open}
use Rattle.promises.specs.worlds.Reached.{ruled_reply}
use Rattle.promises.specs.desks.Taken.{take_accepts, taken_index, takes, took_take, held_index}

-- what the code's types say of a world: arrays of 16, a tick of 32 bits, a ledger of bytes
pub record Typed (w : World) : Type 0 where
  pub whole : Whole w.state.slots
  pub tick : w.state.closed.0 ≤ top
  pub octets : Octets w.ledger

pub ruled : (w : World) → Typed w → passes (standing w) ≡ true → Ruled w
unfolding entries_of
ruled w t h = passes_ruled w t.whole t.tick (small_entries_in w.state.entries w.ledger t.octets) h

-- an accepted call has passed the tests that every call begins with
pub accepted_standing : (c : Call) (w : World) → (reply c w).number ≡ 0 → passes (standing w) ≡ true
unfolding reply read_reply write_reply grow_reply close_reply
accepted_standing (read p offset into) w h =
    (passes_both (standing w) (span_tests w p offset (length into)) (tested_accepted (refuse w into) _ (λ r. r.number) (λ n. refl) (standing w ++ span_tests w p offset (length into)) (numbered_span w p offset (length into)) h)).0
accepted_standing (write p offset bs) w h =
    (passes_both (standing w) (span_tests w p offset (length bs)) (tested_accepted (refuse w bs) _ (λ r. r.number) (λ n. refl) (standing w ++ span_tests w p offset (length bs)) (numbered_span w p offset (length bs)) h)).0
accepted_standing (grow kind) w h =
    (passes_both (standing w) (grow_tests w kind) (tested_accepted (refuse w []) _ (λ r. r.number) (λ n. refl) (standing w ++ grow_tests w kind) (numbered_grow w kind) h)).0
accepted_standing close w h = (passes_both (standing w) (close_tests w) (close_accepted w h).passed).0

-- the state rules after it
pub rules_after : (c : Call) (w : World) → Typed w → (reply c w).number ≡ 0
    → (rules (reply c w).world ≡ true) × (kind_rules (reply c w).world ≡ true)
rules_after c w t h =
    let r = ruled_reply c w (ruled w t (accepted_standing c w h)) in
    (rule_back (reply c w).world r.facts, kind_back (reply c w).world r.kinds)

-- What the recorder closes, the reader takes.
abbrev pub Takeable : World → Type 0
Takeable w =
    (held : List ℕ) → index_end w.state.settings ≤ length held
    → ((take_reply w.side held).number ≡ 0) × (index_of (take_reply w.side held).held ≡ map indexed (entries_of w))

pub open_taken : (s : Settings) (end B : ℕ) (w : World) → (open_reply s end B w).number ≡ 0 → Takeable (open_reply s end B w).world
open_taken s end B w h held room =
    let v = (open_reply s end B w).world in
    let g = good_open s end B w h in
    (ap (λ (t : Taken). t.number) (takes v g held room), held_index v g (take_reply v.side held).held (took_take v g held room))

pub close_taken : (w : World) → Typed w → (close_reply w).number ≡ 0 → Takeable (close_reply w).world
unfolding side_length closed
close_taken w t h = let c = close_accepted w h in subst Takeable (sym c.is) (go c)
  where
    go : Closes w → Takeable (closed w)
    go c held room =
        let r = ruled w t ((passes_both (standing w) (close_tests w) c.passed).0) in
        let s = w.state.settings in
        let e = encodes_closed w r c.enough c.early in
        let f = front_closed w r c.enough c.early in
        let l : side_length s ≤ length (closed w).side = omega (arith, side_length_closed w, r.lengths.side_long) in (
          ap (λ (t : Taken). t.number) (take_accepts s (closed w).state.closed w.state.end _ e (closed w).side f held room l),
          taken_index s (closed w).state.closed w.state.end _ e (closed w).side f held room l,
        )
