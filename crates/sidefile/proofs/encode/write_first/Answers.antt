use Rattle.std.proofs.Common.{refl}
use Rattle.octets.specs.Number.{bytes}
use Rattle.octets.specs.Part.{part}
use Rattle.sidefile.specs.inner.Sealed.{first_bytes}
use Rattle.sidefile.proofs.Laying.{next}
use Rattle.sidefile.proofs.encode.write_first.Goals as goal

pub returns : goal.returns
unfolding first_bytes bytes part
returns c =
    let two = next _ _ _ _ _ 0 4 c.copy.ensures c.store16.ensures refl in
    let three = next _ _ _ _ _ 0 6 two c.store16-2.ensures refl in
    let four = next _ _ _ _ _ 0 8 three c.store32.ensures refl in
    next _ _ _ _ _ 0 12 four c.store32-2.ensures refl
