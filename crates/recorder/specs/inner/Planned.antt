-- What the plan of a close says: the changed pages with their places and entry ticks, and flags of the rows that give up their
-- places. Of the arrays of 16 the first `count` elements count; where there are not places and rows enough, the places do not.
use Rattle.std.specs.Prelude.{◌≤◌, ◌≡◌, true, false, map, length, take, Result, Ok, Err}
use Rattle.octets.specs.inner.Flags.{flags}
use Rattle.units.specs.inner.Pages.{numbers_of}
use Rattle.units.specs.declared.Tick.{Tick}
use Rattle.ledger.specs.inner.Changed.{entry_ticks}
use Rattle.ledger.specs.inner.Numbers.{place_numbers}
use Rattle.ledger.specs.Entries.{retires}
use Rattle.recorder.specs.Close.{open_tick, changed_in, changes, free_places, suffices}
use Rattle.recorder.specs.Rules.{rules}
use Rattle.recorder.specs.World.{World, wait_of, entries_of}
use Rattle.units.specs.declared.refusal.Refusal.{Refusal}
use Rattle.units.specs.declared.refusal.Refusal.TheVariants as Reason
use Rattle.recorder.specs.declared.plan.Plan.{Plan}

-- what a plan asks: the state rules, and that the tick is the open one
abbrev pub Plans : World → Tick → Type 0
Plans w N = (rules w ≡ true) × (N ≡ open_tick w)

pub record Planned (w : World) (p : Plan) : Type 0 where
  pub most : p.count ≤ 16
  pub counted : p.count ≡ length (changes w)
  pub changed : numbers_of p.count p.pages ≡ changes w
  pub placed : suffices w ≡ true → place_numbers p.count p.places ≡ take p.count (free_places w)
  pub came : take p.count p.entered ≡ entry_ticks (open_tick w) (entries_of w) (changes w)
  pub gone : take w.state.entries (flags p.going) ≡ map (retires (wait_of w) (open_tick w) (changed_in w)) (entries_of w)

-- 10 or not, by whether there is enough of everything
abbrev pub Judged : {A : Type 0} → World → Result A Refusal → Type 0
Judged w (Ok _) = suffices w ≡ true
Judged w (Err refusal) = (suffices w ≡ false) × (refusal ≡ Reason.NoPlace)

-- what the filling of a plan answers, and the plan then
abbrev pub PlansTo : World → Result Unit Refusal → Plan → Type 0
PlansTo w r p = Judged w r × Planned w p
