use mathlib.Core.Path.{◌∙◌, sym, ap}
use mathlib.Core.Bool.{Bool}
use mathlib.Core.List.{List}
use Rattle.octets.specs.laws.Flagging.{flags_clear}
use Rattle.units.specs.Sizes.{entry_row}
use Rattle.sidefile.specs.inner.Table.{entries_at, places_fit}
use Rattle.sidefile.proofs.Scans.{fresh, fresh_first}
use Rattle.ledger.specs.laws.Read.{entries_indexed}
use Rattle.ledger.proofs.Placing.{held_none}
use borrow.Author.Rules.{rules}
use Rattle.ledger.proofs.places.held_places.Goals as goal

pub loop-i-init : goal.loop-i-init
loop-i-init c =
    let a = c.args in
    let empty = c.requires.2 in
    let es = entries_at 0 entry_row a.n a.s.now in (
      ap (places_fit a.most) (sym (entries_indexed a.n a.s.now)) ∙ fresh_first a.most es (search rules) ∙ ap (λ (l : List Bool). fresh a.most l es) (flags_clear 34 ∙ sym empty),
      empty ∙ held_none,
    )
