-- The text is the listing of what was kept, and so of what came.
use Rattle.std.proofs.Common.{refl, arith}
use Rattle.sidelist.proofs.Keeping.{listed, listed_known}
use Rattle.sidelist.proofs.list_input.Goals as goal

pub returns : goal.returns
returns g c =
    let w = c.list_kept.ensures.0 in
    record {
      lists = listed _ _ _ refl c.in_ok-total.ensures.read _ _ _ w (omega arith);
      known = listed_known _ _ _ _ refl c.in_ok-total.ensures.known _ _ _ w (omega arith);
    }
