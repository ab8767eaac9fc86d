-- What reading and listing an input leave. No contract can say which bytes the system hands over, so the input is a list that
-- stands in the fact itself: whatever came, all of it is counted, its first bytes are kept, and its listing is the text.
use Rattle.std.specs.Prelude.{ℕ, ◌≤◌, List, ◌≡◌, length, take, Result, Ok, Err}
use Rattle.octets.specs.Part.{lay}
use Rattle.listing.specs.Text.{listing}

-- an input of `total` bytes was laid over a buffer from its front on, and cut off at its end
pub record Kept (before after : List ℕ) (total : ℕ) : Type 0 where
  pub input : List ℕ
  pub laid : after ≡ lay before 0 input
  pub counted : total ≡ length input

-- the first n bytes of a buffer are the listing of an input
pub record Listed (out : List ℕ) (n : ℕ) : Type 0 where
  pub input : List ℕ
  pub text : take n out ≡ listing (length input) input
  pub within : n ≤ length out

-- unless a read failed: what one read brings into a buffer, what reading all keeps of an input, its listing
abbrev pub Came : {E : Type 0} → List ℕ → Result ℕ E → Type 0
Came chunk (Ok n) = (n ≤ length chunk) × (n ≡ length (take n chunk))
Came chunk (Err e) = Unit

abbrev pub Read : {E : Type 0} → List ℕ → List ℕ → Result ℕ E → Type 0
Read before after (Ok total) = Kept before after total
Read before after (Err e) = Unit

abbrev pub Lists : {E : Type 0} → List ℕ → Result ℕ E → Type 0
Lists out (Ok n) = Listed out n
Lists out (Err e) = Unit
