use Rattle.listing.specs.Text.{ascii, refused_line}
use Rattle.listing.specs.inner.Written.{adds_next}
use Rattle.listing.proofs.text.Text.refused.Goals as goal

pub returns : goal.returns
unfolding refused_line ascii
returns c = adds_next c.after.ensures c.byte.ensures
