-- A number has at most ten digits, so those before the last are at most nine.
use Rattle.std.proofs.Common.{ℕ, ◌≡◌, ◌∷◌, [], ◌/◌, ◌%◌, ◌<◌, ◌≤◌, ◌∙◌, sym, arith}
use Rattle.listing.specs.Decimal.{decimal, digit}
use Rattle.listing.specs.laws.Decimal.{decimal_one, decimal_more, decimal_longer, decimal_ten}
use Rattle.listing.specs.inner.Written.{Adds, Room, written_next, written_as, adds}
use Rattle.listing.specs.declared.text.Text.{Text}
use Rattle.listing.proofs.text.Text.+number.Goals as goal
use Rattle.listing.proofs.text.Text.+number.Goals.{then-not-one_digit, else-not-one_digit}

-- a is the text before the number, b that before its last digit
room_last : (a b : Text) (v : ℕ) → v < 4294967296 → 10 ≤ v → Room a 10 → Adds a (decimal (v / 10)) 10 b → Room b 1
room_last a b v f h r d = omega (arith, r, d.written.ended, d.long, decimal_longer v h, decimal_ten v f)

last : (a b c : Text) (v : ℕ) → v < 4294967296 → 10 ≤ v → Adds a (decimal (v / 10)) 10 b → Adds b (digit (v % 10) ∷ []) 1 c → Adds a (decimal v) 10 c
last a b c v f h d e = adds 10 (written_as (sym (decimal_more v h)) (written_next d.written e.written)) (decimal_ten v f) (e.same ∙ d.same)

only : (a c : Text) (v : ℕ) → v < 10 → Adds a (digit (v % 10) ∷ []) 1 c → Adds a (decimal v) 10 c
only a c v h e =
    let d : v ≡ v % 10 = omega arith in
    adds 10 (rw (decimal_one v h, d) e.written) (decimal_ten v (omega arith)) e.same

pub byte-requires : goal.byte-requires
byte-requires t c =
    elim c.if-not-one_digit.branch [
      | then-not-one_digit w ↦ rw w.self-is (room_last _ _ c.args.v c.ranges.v.fits w.if-not-one_digit.true c.requires w.number.ensures)
      | else-not-one_digit w ↦ rw w.self-is (omega arith)
    ]

pub returns : goal.returns
returns t c =
    elim c.if-not-one_digit.branch [
      | then-not-one_digit w ↦ last _ _ _ c.args.v c.ranges.v.fits w.if-not-one_digit.true w.number.ensures (rw w.self-is at c.byte.ensures)
      | else-not-one_digit w ↦ only _ _ c.args.v w.if-not-one_digit.false (rw w.self-is at c.byte.ensures)
    ]
