-- What a page held. For a metadata page in the file, what the calls made of it, the starting base with each accepted write
-- laid over and each grown page zero, is what the recorder has of it: its slot's bytes, else the base's. And that is what
-- the recorder's own read gives. Assumes nothing.
use Rattle.std.specs.Prelude.{ℕ, ◌<◌, ◌≡◌, List, length}
use Rattle.std.proofs.Common.{◌∙◌, sym, ap}
use Rattle.octets.specs.Part.{part}
use Rattle.octets.specs.Rows.{page}
use Rattle.units.specs.declared.Settings.{Settings}
use Rattle.recorder.specs.World.{kind_of}
use Rattle.recorder.specs.Calls.{read_reply}
use Rattle.recorder.specs.Runs.{Recording, opening, reached, made_by, held_by}
use Rattle.promises.specs.worlds.Good.{contents}
use Rattle.promises.specs.worlds.Reading.{read_contents, read_span}
use Rattle.promises.specs.worlds.Reached.{good_opening, good_reached, settings_reached}
use Rattle.promises.specs.worlds.Holds.{holds_opening, holds_run}

-- what the calls made of a page is what the recorder has of it
pub held_contents : (r : Recording) → (opening r).number ≡ 0 → (p : ℕ) → p < (reached r).state.end → kind_of (reached r) p ≡ 0
    → held_by r p ≡ contents (reached r) p
unfolding held_by reached
held_contents r a p b m =
    let h = holds_run r.calls (opening r).world (good_opening r a) r.lent.base (holds_opening r a) in
    ap (λ (t : Settings). page t.size p (made_by r.calls (opening r).world r.lent.base)) (sym (settings_reached r a)) ∙ sym (h.pages p b m)

-- and what its own read gives
pub read_held : (r : Recording) → (opening r).number ≡ 0 → (p offset : ℕ) (into : List ℕ)
    → (read_reply p offset into (reached r)).number ≡ 0 → kind_of (reached r) p ≡ 0
    → (read_reply p offset into (reached r)).bytes ≡ part (held_by r p) offset (length into)
read_held r a p offset into n m =
    read_contents (reached r) (good_reached r a).ruled p offset into n m
    ∙ ap (λ (xs : List ℕ). part xs offset (length into)) (sym (held_contents r a p (read_span (reached r) p offset into n).low m))
