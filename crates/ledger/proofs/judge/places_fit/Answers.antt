use Prim.Native.Nat.{ℕ}
use mathlib.Core.Path.{refl, ◌∙◌}
use mathlib.Core.Bool.{Bool, false}
use native.Mathlib.Omega.{arith}
use lib.ListN.{get_or}
use Rattle.std.proofs.Common.{rules, tests}
use Rattle.std.proofs.lemmas.Iterator.{YieldsList-from_range}
use Rattle.std.proofs.lemmas.Iterator.Search.{all_from_yields_List}
use Rattle.octets.specs.inner.Flags.{flags}
use Rattle.ledger.specs.inner.Fits.{place_fits}
use Rattle.std.specs.List.{range_with_len}
use Rattle.ledger.proofs.Ranges.{range_below, all_pass}
use Rattle.ledger.proofs.judge.places_fit.Goals as goal

pub returns : goal.returns
returns c =
    let a = c.args in
    let t : ℕ → Bool = λ q. place_fits a.settings a.closed a.s.now (get_or (flags a.held.now) q false) q in
    all_from_yields_List t _ _ c.all.result c.all.ensures.ran (YieldsList-from_range 0 c.places.result c.places.result refl (omega arith)) (λ x b q k. search (rules, tests))
    ∙ all_pass t (range_with_len 0 c.places.result) ∙ rw (range_below c.places.result, c.places.ensures.0)
