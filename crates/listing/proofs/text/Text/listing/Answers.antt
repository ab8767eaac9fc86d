use Rattle.std.proofs.Common.{◌≡◌, sym, refl, true, arith}
use Rattle.units.specs.Tests.{passes}
use Rattle.sidefile.specs.Judge.{whole_tests}
use Rattle.sidefile.specs.inner.Passed.{numbered, whole_accepted}
use Rattle.listing.specs.laws.Judged.{listing_accepted, listing_refused, accepted_few, accepted_reached}
use Rattle.listing.specs.inner.Written.{adds_as, adds_within}
use Rattle.listing.proofs.text.Text.listing.Goals as goal
use Rattle.listing.proofs.text.Text.listing.Goals.{In-Ok}

-- the side file passed, so its header says how many entries there are, and they are there
accepted : (c : In-Ok) → passes (whole_tests c.args.n c.args.s.now) ≡ true
accepted c = whole_accepted _ _ (sym c.in-Ok.ensures)

pub file-requires : goal.file-requires
file-requires c =
    let passed = accepted (goal.at.file-requires c).In-Ok in
    (c.requires.0, record { few = accepted_few _ _ passed c.requires.1; reached = accepted_reached _ _ passed c.requires.1 })

pub returns-in-Ok : goal.returns-in-Ok
returns-in-Ok c =
    let passed = accepted (goal.at.returns-in-Ok c).In-Ok in
    adds_as (sym (listing_accepted c.args.n c.args.s.now passed)) refl c.file.ensures

pub returns-in-Err : goal.returns-in-Err
returns-in-Err c =
    let e = listing_refused c.args.n c.args.s.now _ c.in-Err.ensures (λ z. omega (arith, numbered c.in-Err.refusal)) in
    adds_within (omega arith) (adds_as (sym e) refl (rw c.from.ensures at c.refused.ensures))
