-- Two recordings that demand 3 calls the same up to a close reach alike worlds there: they differ in no byte that a call looks
-- at, and what stood in the target of a read leads to no other world. Assumes nothing.
use Rattle.std.specs.Prelude.{ℕ, ◌≡◌, refl, length, replicate}
use Rattle.std.proofs.Common.{◌∙◌, ap}
use Rattle.std.proofs.Math.Path.{sym, subst}
use mathlib.Core.List.{List, [], ◌∷◌, ◌++◌, map}
use Rattle.std.proofs.lemmas.List.{length-replicate}
use Rattle.lists.specs.Bools.{if_then}
use Rattle.units.specs.Tests.{tested}
use Rattle.recorder.specs.Calls.{span_tests, found, read_found, raw_bypass, span_in, read_reply}
use Rattle.recorder.specs.Rules.{standing}
use Rattle.recorder.specs.Runs.{Call, read, write, grow, close, reply, run, Recording, opening, reached}
use Rattle.recorder.specs.World.{World, Reply, refuse, accept, page_size, metadata}
use Rattle.promises.specs.alike.Agree.{agree_same, agree_tested}
use Rattle.promises.specs.alike.Alike.{Alike}
use Rattle.promises.specs.alike.AlikeRuns.{alike_reached}
use Rattle.promises.specs.Demand.{asks, SameUpToClose}
use Rattle.recorder.specs.laws.Facts.{Ruled}

-- a read into n bytes, of which a refusal hands back those that stood there
abbrev read_into : World → ℕ → ℕ → List ℕ → ℕ → Reply
read_into w p offset into n =
    tested (standing w ++ span_tests w p offset n) (refuse w into)
    (if_then (metadata w p) (read_found w p offset n (found w p)) (accept (raw_bypass w) (span_in (page_size w) w.base p offset n)))

world_asks : (c : Call) (w : World) → (reply c w).world ≡ (reply (asks c) w).world
unfolding reply read_reply
world_asks (read p offset into) w =
    let zeros : List ℕ = replicate (length into) 0 in
    agree_tested (λ r q. r.world ≡ q.world) (refuse w into) (refuse w zeros) _ _ (λ n. refl) (agree_same (standing w ++ span_tests w p offset (length into))) (λ h. refl)
    ∙ ap (λ (n : ℕ). (read_into w p offset zeros n).world) (sym (length-replicate (length into) 0))
world_asks (write p offset bs) w = refl
world_asks (grow kind) w = refl
world_asks close w = refl

pub run_asks : (cs : List Call) (w : World) → run cs w ≡ run (map asks cs) w
unfolding run
run_asks [] w = refl
run_asks (c ∷ cs) w = run_asks cs (reply c w).world ∙ ap (run (map asks cs)) (world_asks c w)

module _ (keeps : (c : Call) (u : World) → Ruled u → Ruled (reply c u).world) (a b : Recording) (same : SameUpToClose a b) where
  -- a, lent what b was lent
  abbrev relent : Recording
  relent = record { settings = a.settings; end = a.end; tick = a.tick; lent = b.lent; calls = a.calls }

  opens_same : opening b ≡ opening relent
  unfolding opening
  opens_same = λ i. opening (record { settings = same.settings i; end = same.end i; tick = same.tick i; lent = b.lent; calls = [] })

  is_relent : reached b ≡ reached relent
  unfolding reached
  is_relent =
      run_asks b.calls (opening b).world
      ∙ (λ i. run (same.calls i) (opens_same i).world)
      ∙ sym (run_asks a.calls (opening relent).world)

  pub recordings_alike : Alike (reached a) (reached b)
  unfolding opening
  recordings_alike =
      subst (Alike (reached a)) (sym is_relent)
      (alike_reached a.settings a.end a.tick a.lent b.lent (sym same.base) (sym same.side) (sym same.kinds) keeps same.a_opens
      (ap (λ (r : Reply). r.number) (sym opens_same) ∙ same.b_opens) a.calls)
