-- Recordings: an accepted open, and then any calls, accepted or refused. And what a page held, told from the calls alone.
use Rattle.std.specs.Prelude.{ℕ, ◌+◌, ◌*◌, ◌&&◌, List, [], ◌∷◌, eqb, replicate}
use Rattle.lists.specs.Bools.{if_then}
use Rattle.octets.specs.Part.{lay}
use Rattle.octets.specs.Rows.{page}
use Rattle.units.specs.declared.Settings.{Settings}
use Rattle.recorder.specs.World.{World, Reply, page_size, metadata}
use Rattle.recorder.specs.Calls.{open_reply, read_reply, write_reply, grow_reply}
use Rattle.recorder.specs.Close.{close_reply}

pub data Call : Type 0 where
  read : ℕ → ℕ → List ℕ → Call
  write : ℕ → ℕ → List ℕ → Call
  grow : ℕ → Call
  close : Call

unfoldable pub reply : Call → World → Reply
reply (read p offset into) w = read_reply p offset into w
reply (write p offset bs) w = write_reply p offset bs w
reply (grow kind) w = grow_reply kind w
reply close w = close_reply w

-- each call is given what the last one left
unfoldable pub run : List Call → World → World
run [] w = w
run (c ∷ cs) w = run cs (reply c w).world

-- a recording: what open was given, and the calls after it
pub record Recording : Type 0 where
  pub settings : Settings
  pub end : ℕ
  pub tick : ℕ
  pub lent : World
  pub calls : List Call

unfoldable pub opening : Recording → Reply
opening r = open_reply r.settings r.end r.tick r.lent

unfoldable pub reached : Recording → World
reached r = run r.calls (opening r).world

-- The contents of the metadata pages, one after the other as in a file: the starting base, with each accepted metadata write
-- laid over and each grown metadata page zero.
unfoldable pub made : Call → World → List ℕ → List ℕ
made (read p offset into) w xs = xs
made (write p offset bs) w xs =
    if_then (eqb (write_reply p offset bs w).number 0 && metadata w p) (lay xs (p * page_size w + offset) bs) xs
made (grow kind) w xs =
    if_then (eqb (grow_reply kind w).number 0 && eqb kind 0) (lay xs (w.state.end * page_size w) (replicate (page_size w) 0)) xs
made close w xs = xs

unfoldable pub made_by : List Call → World → List ℕ → List ℕ
made_by [] w xs = xs
made_by (c ∷ cs) w xs = made_by cs (reply c w).world (made c w xs)

unfoldable pub held_by : Recording → ℕ → List ℕ
held_by r p = page r.settings.size p (made_by r.calls (opening r).world r.lent.base)
