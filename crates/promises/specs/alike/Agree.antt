-- Two rows of tests that answer alike: each test of one as that of the other, as far as the first that fails, but for tests
-- that pass, which either may have alone. Behind the first that fails they may differ: nothing there is looked at. Assumes
-- nothing.
use Rattle.std.specs.Prelude.{ℕ, ◌≡◌, refl, Bool, true, false, List, [], ◌∷◌, ◌++◌}
use Rattle.std.proofs.Common.{true≢false}
use Rattle.std.proofs.lemmas.Bool.{false≢true}
use Rattle.lists.specs.laws.Bools.{both}
use Rattle.units.specs.Tests.{Test, passes, tested}

pub data Agree : List Test → List Test → Type 0 where
  last : Agree [] []
  next : {n : ℕ} {b c : Bool} {ts us : List Test} → b ≡ c → (b ≡ true → Agree ts us) → Agree ((n, b) ∷ ts) ((n, c) ∷ us)
  left : {n : ℕ} {b : Bool} {ts us : List Test} → b ≡ true → Agree ts us → Agree ((n, b) ∷ ts) us
  right : {n : ℕ} {c : Bool} {ts us : List Test} → c ≡ true → Agree ts us → Agree ts ((n, c) ∷ us)

pub agree_same : (ts : List Test) → Agree ts ts
agree_same [] = last
agree_same (t ∷ ts) = next refl (λ b. agree_same ts)

pub agree_append : {ts us ts₁ us₁ : List Test} → Agree ts us → Agree ts₁ us₁ → Agree (ts ++ ts₁) (us ++ us₁)
agree_append last g = g
agree_append (next e f) g = next e (λ b. agree_append (f b) g)
agree_append (left e f) g = left e (agree_append f g)
agree_append (right e f) g = right e (agree_append f g)

-- tests that all pass
pub agree_passes : (ts us : List Test) → passes ts ≡ true → passes us ≡ true → Agree ts us
unfolding passes
agree_passes [] [] p q = last
agree_passes [] (u ∷ us) p q = let b = both u.1 (passes us) q in right b.0 (agree_passes [] us p b.1)
agree_passes (t ∷ ts) us p q = let b = both t.1 (passes ts) p in left b.0 (agree_passes ts us b.1 q)

-- both refuse by the same number, or both go on
pub agree_tested : {R : Type 0} (P : R → R → Type 0) (f g : ℕ → R) (x y : R) → ((n : ℕ) → P (f n) (g n)) → {ts us : List Test} → Agree ts us
    → (passes ts ≡ true → P x y)
    → P (tested ts f x) (tested us g y)
unfolding tested passes
agree_tested P f g x y refuse last go = go refl
agree_tested P f g x y refuse (next {n = n} {b = true} {c = true} e h) go = agree_tested P f g x y refuse (h refl) go
agree_tested P f g x y refuse (next {n = n} {b = true} {c = false} e h) go = absurd (true≢false e)
agree_tested P f g x y refuse (next {n = n} {b = false} {c = true} e h) go = absurd (false≢true e)
agree_tested P f g x y refuse (next {n = n} {b = false} {c = false} e h) go = refuse n
agree_tested P f g x y refuse (left {b = true} e h) go = agree_tested P f g x y refuse h go
agree_tested P f g x y refuse (left {b = false} e h) go = absurd (false≢true e)
agree_tested P f g x y refuse (right {c = true} e h) go = agree_tested P f g x y refuse h go
agree_tested P f g x y refuse (right {c = false} e h) go = absurd (false≢true e)
