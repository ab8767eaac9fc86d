-- Which slots may not be chosen: the slot that a page gets depends on no other flags than those of the slots. Assumes nothing.
use Prim.Native.Nat.{ℕ, ◌<◌}
use mathlib.Core.Path.{◌≡◌, refl}
use mathlib.Core.Bool.{Bool}
use mathlib.Core.List.{List, [], ◌∷◌}
use mathlib.Core.Option.{Option, some, none}
use Rattle.slots.specs.laws.Sits.{slot_found}
use Rattle.slots.specs.Table.{slot_of, uses, or_else, victim_in, victim, seated}
use Rattle.slots.specs.declared.Slots.{Slots}

-- two masks that agree on the slots
module _ (S : ℕ) (t : Slots) (f g : ℕ → Bool) (same : (i : ℕ) → i < S → f i ≡ g i) where
  victim_mask : (l : List ℕ) → victim_in S f t l ≡ victim_in S g t l
  unfolding victim_in
  victim_mask [] = refl
  victim_mask (p ∷ ps) = go (slot_of S t p) refl (victim_mask ps)
    where
      go : (o : Option ℕ) → slot_of S t p ≡ o → victim_in S f t ps ≡ victim_in S g t ps → or_else o f (victim_in S f t ps) ≡ or_else o g (victim_in S g t ps)
      go none e ih = ih
      go (some i) e ih = rw (same i (slot_found S t p i e).0, ih)

  pub seat_mask : (p : ℕ) → seated S f p t ≡ seated S g p t
  unfolding seated victim
  seat_mask p = rw (victim_mask (uses t))
