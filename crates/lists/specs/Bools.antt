-- A choice by a truth value.
use Rattle.std.specs.Prelude.{Bool, true, false}

abbrev pub if_then : {X : Type 0} → Bool → X → X → X
if_then true a b = a
if_then false a b = b
