-- A close still has itself. Assumes nothing.
use Rattle.std.specs.Prelude.{refl}
use Rattle.std.proofs.Common.{inl, arith}
use Rattle.std.proofs.lemmas.Bool.{eqb-false}
use Rattle.lists.specs.laws.Scans.{every_map, any_none}
use Rattle.ledger.specs.Entries.{page_of, has}
use Rattle.recorder.specs.World.{World, entries_of}
use Rattle.promises.specs.worlds.Good.{Kept}

pub kept_self : (w : World) → Kept w w
unfolding has
kept_self w =
    record {
      same = refl;
      since = omega arith;
      ends = omega arith;
      kinds = λ p b. refl;
      images = λ q a. refl;
      places = λ q a. inl a;
      pages = λ p b m n. refl;
      entered = λ p b m n. every_map (λ e k z. absurd (eqb-false (page_of e) p k z)) (entries_of w) (any_none (has p) (entries_of w) n);
      base_length_lem = refl;
      side_length_lem = refl;
    }
