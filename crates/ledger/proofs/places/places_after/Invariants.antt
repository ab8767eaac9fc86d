use mathlib.Core.Path.{◌≡◌}
use Rattle.octets.specs.inner.Flags.{flags}
use Rattle.ledger.proofs.Placing.{after_up_to}
use Rattle.ledger.proofs.places.places_after.Given as goal

abbrev pub invariant-loop-q : goal.invariant-loop-q
invariant-loop-q l = l.s ≡ after_up_to l.settings l.tick (flags l.retiring) l.initial.s l.q
