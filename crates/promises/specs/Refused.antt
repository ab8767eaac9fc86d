-- A refused call changes no byte and no count, whatever it is given: forged states and damaged files among it. And what an
-- accepted call says of its tests. Assumes nothing.
use Rattle.std.specs.Prelude.{ℕ, ◌≡◌, List, [], ◌++◌, ◌⊎◌, eqb, length}
use Rattle.std.proofs.Math.Path.{refl}
use Rattle.std.proofs.Math.Logic.{inl, inr}
use Rattle.std.proofs.Math.Option.{Option, some, none}
use Rattle.lists.specs.laws.Bools.{if_has}
use Rattle.octets.specs.Part.{part}
use Rattle.units.specs.Sizes.{image_at}
use Rattle.units.specs.Tests.{Test, tested}
use Rattle.units.specs.laws.Tests.{tested_has}
use Rattle.units.specs.declared.Settings.{Settings}
use Rattle.sidefile.specs.Encode.{image_sum, header_of, index_of}
use Rattle.sidefile.specs.declared.IndexEntry.{IndexEntry}
use Rattle.slots.specs.Table.{Seat}
use Rattle.recorder.specs.World.{World, Reply, refuse, accept, set_state, zero_state, metadata}
use Rattle.recorder.specs.Rules.{standing}
use Rattle.recorder.specs.Calls.{Found, hit, miss, nowhere, found, span_tests, open_tests, opened, open_reply, read_found, read_reply, write_found, write_reply, grow_tests, grow_seated, grow_reply, seat_for}
use Rattle.recorder.specs.Close.{close_tests, close_reply}
use Rattle.recorder.specs.Runs.{Call, read, write, grow, close, reply}
use Rattle.desk.specs.Take.{Taken, untaken, take_tests, take_reply, refresh_tests, refresh_reply}
use Rattle.desk.specs.Read.{Answer, refused, read_tests, held_entry, located, desk_read}

-- The recorder's calls: accepted, or with the world and the caller's slice that were given.

abbrev pub Fair : World → List ℕ → Reply → Type 0
Fair w bs r = (r.number ≡ 0) ⊎ ((r.world ≡ w) × (r.bytes ≡ bs))

-- the slice that a call is lent
abbrev pub lent_to : Call → List ℕ
lent_to (read p offset into) = into
lent_to (write p offset bs) = bs
lent_to (grow kind) = []
lent_to close = []

module _ (w : World) (bs : List ℕ) where
  fair_tested : (r : Reply) → Fair w bs r → (ts : List Test) → Fair w bs (tested ts (refuse w bs) r)
  fair_tested r h ts = tested_has (refuse w bs) r (Fair w bs) (λ n. inr (refl, refl)) h ts

  fair_read : (p offset n : ℕ) (f : Found) → Fair w bs (read_found w p offset n f)
  unfolding read_found
  fair_read p offset n (hit i) = inl refl
  fair_read p offset n (miss seat) = inl refl
  fair_read p offset n nowhere = inl refl

  fair_write : (p offset : ℕ) (f : Found) → Fair w bs (write_found w p offset bs f)
  unfolding write_found
  fair_write p offset (hit i) = inl refl
  fair_write p offset (miss seat) = inl refl
  fair_write p offset nowhere = inr (refl, refl)

fair_grow : (w : World) (o : Option Seat) → Fair w [] (grow_seated w o)
unfolding grow_seated
fair_grow w none = inr (refl, refl)
fair_grow w (some seat) = inl refl

pub fair : (c : Call) (w : World) → Fair w (lent_to c) (reply c w)
unfolding reply read_reply write_reply grow_reply close_reply
fair (read p offset into) w =
    fair_tested w into _
    (if_has (Fair w into) (metadata w p) _ _ (fair_read w into p offset (length into) (found w p)) (inl refl))
    (standing w ++ span_tests w p offset (length into))
fair (write p offset bs) w =
    fair_tested w bs _
    (if_has (Fair w bs) (metadata w p) _ _ (fair_write w bs p offset (found w p)) (inl refl))
    (standing w ++ span_tests w p offset (length bs))
fair (grow kind) w =
    fair_tested w [] _
    (if_has (Fair w []) (eqb kind 0) _ _ (fair_grow w (seat_for w w.state.end)) (inl refl))
    (standing w ++ grow_tests w kind)
fair close w = fair_tested w [] _ (inl refl) (standing w ++ close_tests w)

refusal : {A B : Type 0} → A ⊎ B → (A → ⊥) → B
refusal (inl a) n = absurd (n a)
refusal (inr b) n = b

pub refused_same : (c : Call) (w : World) → ((reply c w).number ≡ 0 → ⊥) → ((reply c w).world ≡ w) × ((reply c w).bytes ≡ lent_to c)
refused_same c w n = refusal (fair c w) n

-- a refused open answers the all-zero state, and changes nothing else
pub refused_open : (s : Settings) (end B : ℕ) (w : World) → ((open_reply s end B w).number ≡ 0 → ⊥)
    → (open_reply s end B w).world ≡ set_state zero_state w
unfolding open_reply
refused_open s end B w n =
    refusal
    (tested_has (refuse (set_state zero_state w) []) (accept (opened s end B w) [])
    (λ r. (r.number ≡ 0) ⊎ (r.world ≡ set_state zero_state w))
    (λ n. inr refl) (inl refl) (open_tests s end B w))
    n

-- The desk's: the held buffer and the mark bytes as they were given; the empty part at the base's start.

abbrev Untouched : List ℕ → List ℕ → Taken → Type 0
Untouched held marks r = (r.number ≡ 0) ⊎ ((r.held ≡ held) × (r.marks ≡ marks))

pub refused_take : (side held : List ℕ) → ((take_reply side held).number ≡ 0 → ⊥)
    → ((take_reply side held).held ≡ held) × ((take_reply side held).marks ≡ [])
unfolding take_reply
refused_take side held n =
    refusal (tested_has (untaken held []) _ (Untouched held []) (λ n. inr (refl, refl)) (inl refl) (take_tests side held)) n

pub refused_refresh : (side held marks : List ℕ) → ((refresh_reply side held marks).number ≡ 0 → ⊥)
    → ((refresh_reply side held marks).held ≡ held) × ((refresh_reply side held marks).marks ≡ marks)
unfolding refresh_reply
refused_refresh side held marks n =
    refusal (tested_has (untaken held marks) _ (Untouched held marks) (λ n. inr (refl, refl)) (inl refl) (refresh_tests side held marks)) n

abbrev pub Empty : Answer → Type 0
Empty a = (a.source ≡ 0) × (a.offset ≡ 0) × (a.bytes ≡ [])

abbrev Answered : Answer → Type 0
Answered a = (a.number ≡ 0) ⊎ Empty a

pub refused_read : (held side base : List ℕ) (p offset n : ℕ) → ((desk_read held side base p offset n).number ≡ 0 → ⊥)
    → Empty (desk_read held side base p offset n)
unfolding desk_read located
refused_read held side base p offset n h =
    refusal
    (tested_has refused _ Answered (λ k. inr (refl, refl, refl)) (located_has (held_entry (index_of held) p)) (read_tests held side base p offset n))
    h
  where
    located_has : (o : Option IndexEntry) → Answered (located (header_of held) side base p offset n o)
    located_has none = inl refl
    located_has (some x) =
        let image = part side (image_at (header_of held).settings x.place) (header_of held).settings.size in
        if_has Answered (eqb (image_sum x.page image) x.sum) _ _ (inl refl) (inr (refl, refl, refl))
