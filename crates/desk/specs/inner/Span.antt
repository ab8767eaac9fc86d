-- The span of a read as the code finds it: a refusal, or the slice, where the bytes begin in it, and how many they are.
use Rattle.std.specs.Prelude.{ℕ, ◌+◌, ◌*◌, ◌≤◌, List, ◌≡◌, eqb, length, Result, Ok, Err}
use Rattle.std.specs.Result.{result_unwrap_or}
use Rattle.lists.specs.Bools.{if_then}
use Rattle.octets.specs.Part.{part}
use Rattle.units.specs.declared.refusal.Refusal.{Refusal}
use Rattle.units.specs.declared.refusal.Refusal.TheVariants as Reason
use Rattle.units.specs.Refusals as Refusals
use Rattle.units.specs.Sizes.{image_at}
use Rattle.units.specs.declared.Settings.{Settings}
use Rattle.sidefile.specs.Encode.{image_sum}
use Rattle.sidefile.specs.declared.IndexEntry.{IndexEntry}
use Rattle.desk.specs.Outcome.{from}
use Rattle.desk.specs.Read.{Answer}
use Rattle.desk.specs.Source as Sources
use Rattle.desk.specs.declared.Source.TheVariants as Slice
use Rattle.desk.specs.declared.locate.Span.{Span}

-- the span that is handed out: a refusal's is the empty one at the base's start
abbrev pub none : Span
none = record { source = Slice.Base; start = 0; size = 0 }

abbrev pub handed : Result Span Refusal → Span
handed r = result_unwrap_or r none

-- a page's span in the base, and in the image of an entry, whose checksum is judged
unfoldable pub base_span : Settings → ℕ → ℕ → ℕ → Span
base_span s p offset n = record { source = Slice.Base; start = p * s.size + offset; size = n }

unfoldable pub image_span : Settings → List ℕ → IndexEntry → ℕ → ℕ → Result Span Refusal
image_span s side x offset n =
    if_then (eqb (image_sum x.page (part side (image_at s x.place) s.size)) x.sum)
    (Ok (record { source = Slice.Side; start = image_at s x.place + offset; size = n }))
    (Err Reason.Image)

-- r is where an answer's bytes lie, or why there are none
pub record Locates (a : Answer) (side base : List ℕ) (r : Result Span Refusal) : Type 0 where
  pub number : Refusals.number r ≡ a.number
  pub source : Sources.number (handed r).source ≡ a.source
  pub start : (handed r).start ≡ a.offset
  pub bytes : part (from (Sources.number (handed r).source) side base) (handed r).start (handed r).size ≡ a.bytes
  pub within : (handed r).start + (handed r).size ≤ length (from (Sources.number (handed r).source) side base)
