use mathlib.Core.Path.{◌≡◌}
use mathlib.Core.List.{map}
use lib.ListN.{length, take}
use Rattle.octets.specs.inner.Flags.{flags}
use Rattle.units.specs.inner.Pages.{numbers_of}
use Rattle.ledger.specs.inner.Changed.{entry_ticks}
use Rattle.ledger.specs.View.{entries_in}
use Rattle.ledger.proofs.Flagging.{goes}
use Rattle.ledger.proofs.retiring.retiring_rows.Given as goal

abbrev pub invariant-loop-j : goal.invariant-loop-j
invariant-loop-j l =
    (take l.n (flags l.going) ≡ map (goes l.wait l.tick (entries_in l.n l.s) (take l.j (numbers_of l.k l.pages))) (entries_in l.n l.s))
    × (take l.j l.entered ≡ entry_ticks l.tick (entries_in l.n l.s) (take l.j (numbers_of l.k l.pages)))
    × (length l.entered ≡ 16)
