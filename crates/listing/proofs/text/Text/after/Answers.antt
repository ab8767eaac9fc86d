use Rattle.listing.specs.inner.Written.{adds_next}
use Rattle.listing.proofs.text.Text.after.Goals as goal

pub returns : goal.returns
returns c = adds_next c.word.ensures c.number.ensures
