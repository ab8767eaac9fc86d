use Rattle.std.proofs.Common.{◌∙◌, sym, rules}
use Rattle.octets.specs.laws.Part.{part_zero}
use Rattle.listing.specs.laws.Kept.{lay_past, lay_room}
use Rattle.listing.proofs.input.keep.Goals as goal
use Rattle.listing.proofs.input.keep.Goals.{then-total-kept, else-total-kept}

pub returns : goal.returns
returns c =
    let a = c.args in (
      elim c.if-total-kept.branch [
        | then-total-kept w ↦ w.kept-is ∙ w.copy.ensures ∙ rw (part_zero a.next.now) (lay_room a.kept.now a.total a.next.now _ w.min.ensures)
        | else-total-kept w ↦ w.kept-is ∙ sym (lay_past _ _ _ w.if-total-kept.false)
      ],
      search rules,
    )
