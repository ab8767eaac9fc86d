use Rattle.std.proofs.Common.{◌≡◌, length, take}
use Rattle.units.specs.inner.Pages.{numbers_of}
use Rattle.recorder.specs.inner.Copies.{shown, images_laid, image_sums}
use Rattle.recorder.proofs.stores.write_images.Given as goal

abbrev pub invariant-loop-j : goal.invariant-loop-j
invariant-loop-j l =
    (length l.sums ≡ 16)
    × (take l.j l.sums ≡ image_sums (shown l.state.settings l.state.slots.pages l.buffer) (numbers_of l.j l.plan.pages))
    × (l.side ≡ images_laid (shown l.state.settings l.state.slots.pages l.buffer) l.plan.pages l.plan.places l.j l.initial.side)
