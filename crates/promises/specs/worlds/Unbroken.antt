-- From a world that passes the rules no call answers 2 or 3: what it answers is 0 or a number from 4 on. Assumes nothing.
use Rattle.std.specs.Prelude.{ℕ, ◌≤◌, ◌≡◌, Bool, true, List, [], ◌++◌, ◌⊎◌, eqb, leb, length}
use Rattle.std.proofs.Math.Path.{refl}
use Rattle.std.proofs.Common.{sym, subst, arith, leb-true}
use Rattle.std.proofs.Math.Logic.{inl, inr}
use Rattle.std.proofs.Math.Option.{Option, some, none}
use Rattle.lists.specs.laws.Bools.{if_has}
use Rattle.lists.specs.Scans.{all_of}
use Rattle.units.specs.Tests.{Test, tested}
use Rattle.units.specs.laws.Tests.{tested_behind, tested_by}
use Rattle.slots.specs.Table.{Seat}
use Rattle.recorder.specs.World.{World, Reply, refuse, metadata}
use Rattle.recorder.specs.Rules.{standing}
use Rattle.recorder.specs.Calls.{span_tests, Found, hit, miss, nowhere, found, read_found, read_reply, write_found, write_reply, grow_tests, grow_seated, grow_reply, seat_for}
use Rattle.recorder.specs.Close.{close_tests, close_reply}
use Rattle.recorder.specs.Runs.{Call, read, write, grow, close, reply}
use Rattle.recorder.specs.laws.Facts.{Ruled, ruled_passes}

-- a number other than 2 and 3
abbrev Fine : Reply → Type 0
Fine r = (r.number ≡ 0) ⊎ (4 ≤ r.number)

-- a test that refuses by such a number
abbrev high : Test → Bool
high t = leb 4 t.0

-- what is answered is one of the refusals, or what is answered if all tests pass
listed : (w : World) (bs : List ℕ) (r : Reply) (ts : List Test) → all_of high ts ≡ true → Fine r → Fine (tested ts (refuse w bs) r)
listed w bs r ts e h = tested_by (refuse w bs) r Fine (leb 4) ts e (λ n k. inr (leb-true 4 n k)) (λ p. h)

module _ (w : World) where
  high_span : (p offset n : ℕ) → all_of high (span_tests w p offset n) ≡ true
  unfolding all_of span_tests
  high_span p offset n = refl

  high_grow : (kind : ℕ) → all_of high (grow_tests w kind) ≡ true
  unfolding all_of grow_tests
  high_grow kind = refl

  high_close : all_of high (close_tests w) ≡ true
  unfolding all_of close_tests
  high_close = refl

  read_found_lem : (p offset n : ℕ) (f : Found) → Fine (read_found w p offset n f)
  unfolding read_found
  read_found_lem p offset n (hit i) = inl refl
  read_found_lem p offset n (miss seat) = inl refl
  read_found_lem p offset n nowhere = inl refl

  write_found_lem : (p offset : ℕ) (bs : List ℕ) (f : Found) → Fine (write_found w p offset bs f)
  unfolding write_found
  write_found_lem p offset bs (hit i) = inl refl
  write_found_lem p offset bs (miss seat) = inl refl
  write_found_lem p offset bs nowhere = inr (omega arith)

  grow_seated_lem : (o : Option Seat) → Fine (grow_seated w o)
  unfolding grow_seated
  grow_seated_lem none = inr (omega arith)
  grow_seated_lem (some seat) = inl refl

-- the tests that every call begins with, which pass, then others
behind : (w : World) → Ruled w → (bs : List ℕ) (r : Reply) (us : List Test) → all_of high us ≡ true → Fine r → Fine (tested (standing w ++ us) (refuse w bs) r)
behind w d bs r us e h = subst Fine (sym (tested_behind (refuse w bs) r (standing w) us (ruled_passes w d))) (listed w bs r us e h)

pub never_broken : (c : Call) (w : World) → Ruled w → ((reply c w).number ≡ 0) ⊎ (4 ≤ (reply c w).number)
unfolding reply read_reply write_reply grow_reply close_reply
never_broken (read p offset into) w d =
    behind w d into _ (span_tests w p offset (length into)) (high_span w p offset (length into))
    (if_has Fine (metadata w p) _ _ (read_found_lem w p offset (length into) (found w p)) (inl refl))
never_broken (write p offset bs) w d =
    behind w d bs _ (span_tests w p offset (length bs)) (high_span w p offset (length bs))
    (if_has Fine (metadata w p) _ _ (write_found_lem w p offset bs (found w p)) (inl refl))
never_broken (grow kind) w d =
    behind w d [] _ (grow_tests w kind) (high_grow w kind)
    (if_has Fine (eqb kind 0) _ _ (grow_seated_lem w (seat_for w w.state.end)) (inl refl))
never_broken close w d = behind w d [] _ (close_tests w) (high_close w) (inl refl)
