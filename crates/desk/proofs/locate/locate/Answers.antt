use mathlib.Core.Path.{sym}
use Rattle.desk.proofs.Spans.{image_fits, locate_image, locate_base}
use Rattle.desk.proofs.locate.locate.Goals as goal

pub in_image-requires : goal.in_image-requires
in_image-requires c = image_fits _ _ _ _ _ _ c.in_ok-readable.ensures _ c.header_of-header.ensures _ c.index-index.ensures _ (sym c.in-Some.ensures) _ c.entry.ensures

pub returns-in-Some : goal.returns-in-Some
returns-in-Some c =
    locate_image _ _ _ _ _ _ c.in_ok-readable.ensures _ c.header_of-header.ensures _ c.index-index.ensures _ (sym c.in-Some.ensures) _ c.entry.ensures
    _ c.in_image.ensures

pub returns-in-None : goal.returns-in-None
returns-in-None c =
    locate_base _ _ _ _ _ _ c.in_ok-readable.ensures _ c.header_of-header.ensures _ c.index-index.ensures (sym c.in-None.ensures) _ c.in_base.ensures
