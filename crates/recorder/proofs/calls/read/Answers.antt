use Rattle.std.proofs.Common.{rules, ◌≡◌, length}
use Rattle.std.specs.Prelude.{Err}
use Rattle.recorder.specs.Outcome.{lent}
use Rattle.recorder.specs.declared.kinds.Kind.TheVariants.{Metadata, Raw}
use Rattle.recorder.proofs.Accepted.{Access, access, access_asks, access_page, access_base, access_buffer, slotted}
use Rattle.recorder.proofs.Replied.{read_refused, read_raw, read_nowhere, read_used}
use Rattle.recorder.proofs.calls.read.Goals as goal
use Rattle.recorder.proofs.calls.read.Goals.{In_ok-kind}

-- what the world that is lent has once the tests have passed
passed : (c : In_ok-kind)
    → Access (lent c.args.state.now c.args.ledger.now c.args.base.now c.args.side.now c.args.buffer.now c.args.kinds.now) c.args.page.0 c.args.offset (length c.args.into.now)
passed c = access _ _ _ _ c.in_ok-kind.ensures.number

pub returns-in_err-kind : goal.returns-in_err-kind
returns-in_err-kind c =
    let refused : c.from_residual.result ≡ Err c.in_err-kind.field-0.0 = search rules in
    rw refused (read_refused _ _ _ c.args.into.now _ c.in_err-kind.ensures.number)

pub read_span-requires : goal.read_span-requires
read_span-requires c = access_base _ _ _ _ (passed (goal.at.read_span-requires c).In_ok-kind)

pub returns-then-eq : goal.returns-then-eq
returns-then-eq c =
    let raw : c.in_ok-kind.kind ≡ Raw = search rules in
    read_raw _ _ _ _ (passed (goal.at.returns-then-eq c).In_ok-kind) (rw raw at c.in_ok-kind.ensures.kind) _ c.raw_bypass.ensures _ c.read_span.ensures

pub slot_for-requires : goal.slot_for-requires
slot_for-requires c = access_asks _ _ _ _ (passed (goal.at.slot_for-requires c).In_ok-kind)

pub read_span-requires-in_default : goal.read_span-requires-in_default
read_span-requires-in_default c = access_base _ _ _ _ (passed (goal.at.read_span-requires-in_default c).In_ok-kind)

pub returns-in_default : goal.returns-in_default
returns-in_default c =
    let metadata : c.in_ok-kind.kind ≡ Metadata = search rules in
    read_nowhere _ _ _ _ (passed (goal.at.returns-in_default c).In_ok-kind) (rw metadata at c.in_ok-kind.ensures.kind) c.in_default.ensures _ c.meta_bypass.ensures _ c.read_span-in_default.ensures

pub bring-requires : goal.bring-requires
bring-requires c =
    let a = passed (goal.at.bring-requires c).In_ok-kind in
    (access_page _ _ _ _ a, (slotted _ a.stands _ _ c.in-Some.ensures).1)

pub read_span-requires-2 : goal.read_span-requires-2
read_span-requires-2 c = rw c.slot.ensures (access_buffer _ _ _ _ (passed (goal.at.read_span-requires-2 c).In_ok-kind) _ c.in-Some.ensures _ _ c.bring.ensures)

pub returns : goal.returns
returns c =
    let metadata : c.in_ok-kind.kind ≡ Metadata = search rules in
    read_used _ _ _ _ (passed (goal.at.returns c).In_ok-kind) (rw metadata at c.in_ok-kind.ensures.kind) _ c.in-Some.ensures _ c.used.ensures _ c.bring.ensures _ c.slot.ensures _ c.read_span-2.ensures
