use Rattle.listing.specs.Text.{ascii, entry_line}
use Rattle.listing.specs.inner.Written.{adds_next}
use Rattle.listing.proofs.text.Text.entry.Goals as goal

pub returns : goal.returns
unfolding entry_line ascii
returns c = adds_next c.number.ensures (adds_next c.after.ensures (adds_next c.after-2.ensures c.byte.ensures))
