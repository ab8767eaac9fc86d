-- The measure is the number: those before its last digit are a smaller one.
use Rattle.listing.proofs.text.Text.+number.Given as goal

abbrev pub decreases-number : goal.decreases-number
decreases-number l = l.v
