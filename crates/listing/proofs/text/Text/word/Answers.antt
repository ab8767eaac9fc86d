use Rattle.std.proofs.Common.{refl, arith}
use Rattle.listing.specs.inner.Written.{written_word, adds}
use Rattle.listing.proofs.text.Text.word.Goals as goal

pub returns : goal.returns
returns c = adds _ (written_word _ _ _ _ c.copy.ensures) (omega arith) refl
