-- Laws of truth values and of specs/Bools' choice by one. Assumes nothing.
use Rattle.std.specs.Prelude.{◌≡◌, refl, Bool, true, false, ◌&&◌, ◌||◌}
use Rattle.std.proofs.Common.{◌∙◌, sym, true≢false}
use Rattle.std.proofs.lemmas.Bool.{false≢true}
use Rattle.lists.specs.Bools.{if_then}

-- what holds of both sides of a choice holds of the one that is chosen
pub if_has : {X : Type 0} (P : X → Type 0) (b : Bool) (x y : X) → P x → P y → P (if_then b x y)
if_has P true x y h k = h
if_has P false x y h k = k

pub not_both : (b : Bool) → b ≡ true → b ≡ false → ⊥
not_both b p q = true≢false (sym p ∙ q)

pub false_of : (b : Bool) → (b ≡ true → ⊥) → b ≡ false
false_of true h = absurd (h refl)
false_of false h = refl

pub true_of : (b : Bool) → (b ≡ false → ⊥) → b ≡ true
true_of true h = refl
true_of false h = absurd (h refl)

pub both : (a b : Bool) → (a && b) ≡ true → (a ≡ true) × (b ≡ true)
both true b e = (refl, e)
both false b e = absurd (false≢true e)

pub and_make : (a b : Bool) → a ≡ true → b ≡ true → (a && b) ≡ true
and_make a b p q = rw (p, q)

pub and_left : (a b : Bool) → a ≡ false → (a && b) ≡ false
and_left a b p = rw p

pub and_right : (a b : Bool) → b ≡ false → (a && b) ≡ false
and_right true b q = q
and_right false b q = refl

pub and_true : {a b : Bool} → a ≡ true → (a && b) ≡ b
and_true p = rw p

pub or_false : (a b : Bool) → (a || b) ≡ false → (a ≡ false) × (b ≡ false)
or_false true b e = absurd (true≢false e)
or_false false b e = (refl, e)

pub or_none : (a b : Bool) → a ≡ false → b ≡ false → (a || b) ≡ false
or_none a b p q = rw (p, q)

pub or_left : (a b : Bool) → a ≡ true → (a || b) ≡ true
or_left a b p = rw p

pub or_right : (a b : Bool) → b ≡ true → (a || b) ≡ true
or_right true b q = refl
or_right false b q = q

pub or_drop : (a b : Bool) → (a || b) ≡ true → a ≡ false → b ≡ true
or_drop true b e p = absurd (true≢false p)
or_drop false b e p = e

-- a part that does not count, and three parts
pub and_yes : (b : Bool) → (b && true) ≡ b
and_yes true = refl
and_yes false = refl

pub or_no : (b : Bool) → (b || false) ≡ b
or_no true = refl
or_no false = refl

pub and_assoc : (a b c : Bool) → (a && (b && c)) ≡ ((a && b) && c)
and_assoc true b c = refl
and_assoc false b c = refl

pub or_assoc : (a b c : Bool) → (a || (b || c)) ≡ ((a || b) || c)
or_assoc true b c = refl
or_assoc false b c = refl
