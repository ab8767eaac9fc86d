-- The ages of a close (document 01, "Slots" and "Close"), over ticks and one number `wait`. The only place that says how
-- many ticks anything lasts: everything above goes by these names and by laws/Ages, and looks no further.
use Rattle.std.specs.Prelude.{ℕ, ◌+◌, Bool, not, ◌&&◌, ◌||◌, eqb, ltb, leb}
use Rattle.units.specs.declared.Tick.{Tick}

-- tick n
abbrev pub tick : ℕ → Tick
tick n = record { 0 = n }

-- a page that entered then is owed while this tick is the closed one
unfoldable pub owed : ℕ → Tick → Tick → Bool
owed wait entered closed = ltb closed.0 (entered.0 + wait)

-- rule 4: an entry that entered then is written to the base at close N
unfoldable pub due : ℕ → Tick → Bool → Tick → Bool
due wait entered changed_now N = eqb (entered.0 + wait) N.0 || ltb (entered.0 + wait) N.0 && changed_now

-- rule 1: an entry whose last change was then leaves at close N
unfoldable pub leaves : ℕ → Tick → Bool → Tick → Bool
leaves wait changed changed_now N = not changed_now && eqb (changed.0 + wait + 1) N.0

-- rule 3: a place retired then may be given again at close N
unfoldable pub reusable : ℕ → Tick → Tick → Bool
reusable wait retired N = leb (retired.0 + wait) N.0
