use mathlib.Core.Path.{refl}
use Rattle.octets.specs.Number.{bytes}
use Rattle.sidefile.specs.inner.Sealed.{second_bytes}
use Rattle.sidefile.proofs.Laying.{next}
use Rattle.sidefile.proofs.encode.write_second.Goals as goal

pub returns : goal.returns
unfolding second_bytes bytes
returns c =
    let two = next _ _ _ _ _ 16 20 c.store32.ensures c.store32-2.ensures refl in
    let three = next _ _ _ _ _ 16 24 two c.store16.ensures refl in
    let four = next _ _ _ _ _ 16 26 three c.store16-2.ensures refl in
    next _ _ _ _ _ 16 28 four c.store32-3.ensures refl
