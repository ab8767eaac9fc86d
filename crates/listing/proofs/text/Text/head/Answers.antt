use Rattle.listing.specs.Text.{ascii, head_line}
use Rattle.listing.specs.inner.Written.{adds_next}
use Rattle.listing.proofs.text.Text.head.Goals as goal

pub returns : goal.returns
unfolding head_line ascii
returns c = adds_next c.after.ensures (adds_next c.after-2.ensures (adds_next c.after-3.ensures c.byte.ensures))
