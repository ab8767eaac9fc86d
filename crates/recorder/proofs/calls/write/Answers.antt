use Rattle.std.proofs.Common.{rules, ◌≡◌, ◌∙◌, length, ap}
use Rattle.std.specs.Prelude.{[], Some, None, Err}
use Rattle.units.specs.declared.refusal.Refusal.TheVariants.{NoSlot}
use Rattle.recorder.specs.Outcome.{lent}
use Rattle.recorder.specs.inner.Using.{Chosen, changed_state}
use Rattle.recorder.specs.declared.kinds.Kind.TheVariants.{Metadata, Raw}
use Rattle.recorder.proofs.Accepted.{Access, access, access_asks, access_page, access_base, access_buffer, slotted}
use Rattle.recorder.proofs.Replied.{write_refused, write_raw, write_nowhere, write_used}
use Rattle.recorder.proofs.calls.write.Goals as goal
use Rattle.recorder.proofs.calls.write.Goals.{In_ok-kind, In_ok-used}

-- what the world that is lent has once the tests have passed
passed : (c : In_ok-kind)
    → Access (lent c.args.state.now c.args.ledger.now c.args.base.now c.args.side.now c.args.buffer.now c.args.kinds.now) c.args.page.0 c.args.offset (length c.args.bytes.now)
passed c = access _ _ _ _ c.in_ok-kind.ensures.number

pub returns-in_err-kind : goal.returns-in_err-kind
returns-in_err-kind c =
    let refused : c.from_residual.result ≡ Err c.in_err-kind.field-0.0 = search rules in
    rw refused (write_refused _ _ _ c.args.bytes.now _ c.in_err-kind.ensures.number)

pub write_span-requires : goal.write_span-requires
write_span-requires c = access_base _ _ _ _ (passed (goal.at.write_span-requires c).In_ok-kind)

pub returns-then-eq : goal.returns-then-eq
returns-then-eq c =
    let raw : c.in_ok-kind.kind ≡ Raw = search rules in
    write_raw _ _ _ _ (passed (goal.at.returns-then-eq c).In_ok-kind) (rw raw at c.in_ok-kind.ensures.kind) _ c.raw_bypass.ensures _ c.write_span.ensures

-- where the page is used
chosen : (c : In_ok-used) → Chosen (lent c.args.state.now c.args.ledger.now [] [] [] []) c.args.page.0 (Some c.in_ok-used.used)
chosen c = rw c.in_ok-used.ensures.ok_part at c.slot_for.ensures

pub slot_for-requires : goal.slot_for-requires
slot_for-requires c = access_asks _ _ _ _ (passed (goal.at.slot_for-requires c).In_ok-kind)

pub returns-in_err-used : goal.returns-in_err-used
returns-in_err-used c =
    let metadata : c.in_ok-kind.kind ≡ Metadata = search rules in
    let none : c.slot_for.result ≡ None = c.in_err-used.ensures.ok_part in
    let refused : c.from_residual-in_err-used.result ≡ Err c.in_err-used.field-0.0 = search rules in
    let why : c.in_err-used.field-0.0 ≡ NoSlot = cc (rw none at c.in_err-used.ensures.value) in
    rw (refused, why)
    (write_nowhere _ _ _ _ (passed (goal.at.returns-in_err-used c).In_ok-kind) (rw metadata at c.in_ok-kind.ensures.kind) (rw none at c.slot_for.ensures))

pub bring-requires : goal.bring-requires
bring-requires c =
    let a = passed (goal.at.bring-requires c).In_ok-kind in
    (access_page _ _ _ _ a, (slotted _ a.stands _ _ (chosen (goal.at.bring-requires c).In_ok-used)).1)

pub write_span-requires-2 : goal.write_span-requires-2
write_span-requires-2 c =
    rw c.slot-slot.ensures
    (access_buffer _ _ _ _ (passed (goal.at.write_span-requires-2 c).In_ok-kind) _ (chosen (goal.at.write_span-requires-2 c).In_ok-used) _ _ c.bring.ensures)

pub changed-requires : goal.changed-requires
changed-requires c =
    let a = passed (goal.at.changed-requires c).In_ok-kind in
    rw c.slot-slot.ensures (slotted _ a.stands _ _ (chosen (goal.at.changed-requires c).In_ok-used)).0

pub returns : goal.returns
returns c =
    let metadata : c.in_ok-kind.kind ≡ Metadata = search rules in
    write_used _ _ _ _ (passed (goal.at.returns c).In_ok-kind) (rw metadata at c.in_ok-kind.ensures.kind)
    _ (chosen (goal.at.returns c).In_ok-used) _ c.slot-slot.ensures _ (c.changed.ensures ∙ ap (changed_state _) c.used.ensures)
    _ c.bring.ensures _ c.write_span-2.ensures
