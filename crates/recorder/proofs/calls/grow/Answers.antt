use Rattle.std.proofs.Common.{rules, ◌≡◌, arith}
use Rattle.std.specs.Prelude.{[], Some, None, Err}
use Rattle.units.specs.declared.refusal.Refusal.TheVariants.{NoSlot}
use Rattle.recorder.specs.Outcome.{lent}
use Rattle.recorder.specs.inner.Using.{Seated}
use Rattle.recorder.specs.declared.kinds.Kind.TheVariants.{Metadata, Raw}
use Rattle.recorder.proofs.Accepted.{Growth, growth, growth_end, growth_asks, growth_kinds, growth_base, seated}
use Rattle.recorder.proofs.Replied.{grow_refused, grow_raw, grow_nowhere, grow_taken}
use Rattle.recorder.proofs.calls.grow.Goals as goal
use Rattle.recorder.proofs.calls.grow.Goals.{In_ok-kind, In_ok-seat}

-- what the world that is lent has once the tests have passed
passed : (c : In_ok-kind) → Growth (lent c.args.state.now c.args.ledger.now c.args.base.now c.args.side.now c.args.buffer.now c.args.kinds.now) c.args.kind
passed c = growth _ _ c.in_ok-kind.ensures.number

pub returns-in_err-kind : goal.returns-in_err-kind
returns-in_err-kind c =
    let refused : c.from_residual.result ≡ Err c.in_err-kind.field-0.0 = search rules in
    rw refused (grow_refused _ _ _ c.in_err-kind.ensures.number)

pub clear_page-requires : goal.clear_page-requires
clear_page-requires c = growth_base _ _ (passed (goal.at.clear_page-requires c).In_ok-kind)

pub bounds-kinds-k : goal.bounds-kinds-k
bounds-kinds-k c = growth_kinds _ _ (passed (goal.at.bounds-kinds-k c).In_ok-kind)

pub grown-requires : goal.grown-requires
grown-requires c = omega (arith, growth_end _ _ (passed (goal.at.grown-requires c).In_ok-kind))

pub returns-then-eq : goal.returns-then-eq
returns-then-eq c =
    let raw : c.in_ok-kind.kind ≡ Raw = search rules in
    grow_raw _ _ (passed (goal.at.returns-then-eq c).In_ok-kind) (rw raw at c.in_ok-kind.ensures.kind) _ c.grown.ensures _ c.clear_page.ensures

-- the seat of the page
taken : (c : In_ok-seat) → Seated (lent c.args.state.now c.args.ledger.now [] [] [] []) c.args.state.now.end (Some c.in_ok-seat.seat)
taken c = rw c.in_ok-seat.ensures.ok_part at (c.seat_for.ensures c.args.state.now.end (omega arith))

pub seat_for-requires : goal.seat_for-requires
seat_for-requires c = growth_asks _ _ (passed (goal.at.seat_for-requires c).In_ok-kind)

pub returns-in_err-seat : goal.returns-in_err-seat
returns-in_err-seat c =
    let metadata : c.in_ok-kind.kind ≡ Metadata = search rules in
    let none : c.seat_for.result ≡ None = c.in_err-seat.ensures.ok_part in
    let refused : c.from_residual-in_err-seat.result ≡ Err c.in_err-seat.field-0.0 = search rules in
    let why : c.in_err-seat.field-0.0 ≡ NoSlot = cc (rw none at c.in_err-seat.ensures.value) in
    rw (refused, why)
    (grow_nowhere _ _ (passed (goal.at.returns-in_err-seat c).In_ok-kind) (rw metadata at c.in_ok-kind.ensures.kind)
    (rw none at (c.seat_for.ensures c.args.state.now.end (omega arith))))

pub clear_page-requires-2 : goal.clear_page-requires-2
clear_page-requires-2 c =
    let g = passed (goal.at.clear_page-requires-2 c).In_ok-kind in
    (seated _ g.stands _ _ (taken (goal.at.clear_page-requires-2 c).In_ok-seat)).1

pub bounds-kinds-k-2 : goal.bounds-kinds-k-2
bounds-kinds-k-2 c = growth_kinds _ _ (passed (goal.at.bounds-kinds-k-2 c).In_ok-kind)

pub seated-requires : goal.seated-requires
seated-requires c =
    (omega (arith, growth_end _ _ (passed (goal.at.seated-requires c).In_ok-kind)), (taken (goal.at.seated-requires c).In_ok-seat).fits.1)

pub returns : goal.returns
returns c =
    let metadata : c.in_ok-kind.kind ≡ Metadata = search rules in
    grow_taken _ _ (passed (goal.at.returns c).In_ok-kind) (rw metadata at c.in_ok-kind.ensures.kind)
    _ (taken (goal.at.returns c).In_ok-seat) _ c.seated.ensures _ c.clear_page-2.ensures
