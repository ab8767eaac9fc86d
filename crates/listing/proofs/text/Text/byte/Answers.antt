use Rattle.std.proofs.Common.{refl, arith}
use Rattle.listing.specs.inner.Written.{written_byte, adds}
use Rattle.listing.proofs.text.Text.byte.Goals as goal

pub returns : goal.returns
returns c = adds 1 (written_byte _ _ _) (omega arith) refl
