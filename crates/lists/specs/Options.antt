-- What the code answers where there may be nothing, in the terms of the definitions.
use Rattle.std.specs.Prelude.{Option, Some, None}
use Rattle.std.proofs.Math.Option as Maybe

abbrev pub to_option : {A : Type 0} → Option A → Maybe.Option A
to_option (Some x) = Maybe.some x
to_option None = Maybe.none
