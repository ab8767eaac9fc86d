-- The world right after a close, or after the open: it is good, its header's e is e, and no page is changed. Assumes nothing.
use Rattle.std.specs.Prelude.{◌≡◌, List, [], ◌∷◌}
use Rattle.std.proofs.Common.{◌∙◌, sym, ap, subst}
use Rattle.recorder.specs.World.{World}
use Rattle.recorder.specs.Calls.{open_state}
use Rattle.recorder.specs.Close.{close_reply}
use Rattle.recorder.specs.Runs.{Call, close, reply, run, Recording, opening, reached}
use Rattle.recorder.specs.declared.State.{State}
use Rattle.promises.specs.closes.CloseWay.{close_accepted}
use Rattle.recorder.specs.laws.Closed.{still_closed, end_closed}
use Rattle.promises.specs.closes.ClosedGood.{good_closed, ending_closed}
use Rattle.promises.specs.Demand.{AtClose, just_opened, just_closed}
use Rattle.promises.specs.worlds.Good.{Good}
use Rattle.promises.specs.worlds.Opened.{good_open, open_ending, open_unchanged, open_state_lem}
use Rattle.promises.specs.worlds.Reached.{good_opening, good_run, run_more}
use Rattle.promises.specs.desks.Snapshot.{Unchanged}

pub record Settled (w : World) : Type 0 where
  pub good : Good w
  pub whole : good.ending ≡ w.state.end
  pub still : Unchanged w

settled_open : (r : Recording) → (opening r).number ≡ 0 → Settled (opening r).world
unfolding opening open_state
settled_open r h =
    let s = r.settings in
    record {
      good = good_open s r.end r.tick r.lent h;
      whole = open_ending s r.end r.tick r.lent h ∙ ap (λ (t : State). t.end) (sym (open_state_lem s r.end r.tick r.lent h));
      still = λ i b. open_unchanged s r.end r.tick r.lent h i;
    }

settled_close : (w : World) → Good w → (close_reply w).number ≡ 0 → Settled (close_reply w).world
settled_close w g h =
    let c = close_accepted w h in
    subst Settled (sym c.is)
    (record {
      good = good_closed w g c.enough c.early;
      whole = ending_closed w g c.enough c.early ∙ sym (end_closed w);
      still = λ i b. still_closed w i;
    })

pub settled : (r : Recording) → (opening r).number ≡ 0 → AtClose r → Settled (reached r)
unfolding reached run reply
settled r h (just_opened e) = subst (λ (cs : List Call). Settled (run cs (opening r).world)) (sym e) (settled_open r h)
settled r h (just_closed before e a) =
    subst (λ (cs : List Call). Settled (run cs (opening r).world)) (sym e)
    (subst Settled (sym (run_more before (close ∷ []) (opening r).world))
    (settled_close (run before (opening r).world) (good_run before (opening r).world (good_opening r h)) a))
