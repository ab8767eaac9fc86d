-- The limits as facts, and how large the numbers that follow from the settings get. Assumes nothing.
use Rattle.std.specs.Prelude.{ℕ, ◌+◌, ◌-◌, ◌*◌, ◌≤◌, ◌≡◌, refl, Bool, true, false, ◌&&◌, ◌||◌, ◌⊎◌, eqb, leb}
use Rattle.std.proofs.Common.{◌∙◌, inl, inr, eqb-true, leb-true, le-leb}
use Rattle.std.proofs.lemmas.Bool.{false≢true}
use Rattle.std.proofs.Math.Nat.{mul-le-mul, div-mul-le_self, lt-div-mul-add}
use native.Mathlib.Omega.{arith}
use Rattle.lists.specs.laws.Bools.{both, and_left, and_right, and_make, and_true}
use Rattle.units.specs.declared.Settings.{Settings}
use Rattle.units.specs.Sizes.{between, page_size, limits, wait, entries, places, index_end, first_image, side_length}

-- the settings are within their limits
pub record Within (s : Settings) : Type 0 where
  pub size : page_size s.size ≡ true
  pub size_least : 512 ≤ s.size
  pub size_most : s.size ≤ 4096
  pub slots_least : 1 ≤ s.slots
  pub slots_most : s.slots ≤ 16
  pub lag_least : 3 ≤ s.lag
  pub lag_most : s.lag ≤ 8
  pub capacity_least : 1 ≤ s.capacity
  pub capacity_most : s.capacity ≤ 65535

between_facts : (a b n : ℕ) → between a b n ≡ true → (a ≤ n) × (n ≤ b)
between_facts a b n h = let f = both (leb a n) (leb n b) h in (leb-true a n f.0, leb-true n b f.1)

between_make : (a b n : ℕ) → a ≤ n → n ≤ b → between a b n ≡ true
between_make a b n h k = and_make (leb a n) (leb n b) (le-leb a n h) (le-leb n b k)

-- one of the four sizes
pub size_cases : (P : ℕ) → page_size P ≡ true → (P ≡ 512) ⊎ ((P ≡ 1024) ⊎ ((P ≡ 2048) ⊎ (P ≡ 4096)))
size_cases P h = go (eqb P 512) (eqb P 1024) (eqb P 2048) (eqb P 4096) refl refl refl refl h
  where
    go : (a b c d : Bool) → eqb P 512 ≡ a → eqb P 1024 ≡ b → eqb P 2048 ≡ c → eqb P 4096 ≡ d → (a || b || c || d) ≡ true
        → (P ≡ 512) ⊎ ((P ≡ 1024) ⊎ ((P ≡ 2048) ⊎ (P ≡ 4096)))
    go true b c d p q r t h = inl (eqb-true P 512 p)
    go false true c d p q r t h = inr (inl (eqb-true P 1024 q))
    go false false true d p q r t h = inr (inr (inl (eqb-true P 2048 r)))
    go false false false true p q r t h = inr (inr (inr (eqb-true P 4096 t)))
    go false false false false p q r t h = absurd (false≢true h)

size_range : {P : ℕ} → (P ≡ 512) ⊎ ((P ≡ 1024) ⊎ ((P ≡ 2048) ⊎ (P ≡ 4096))) → (512 ≤ P) × (P ≤ 4096)
size_range (inl e) = omega arith
size_range (inr (inl e)) = omega arith
size_range (inr (inr (inl e))) = omega arith
size_range (inr (inr (inr e))) = omega arith

-- the judge, one setting at a time
module _ (s : Settings) where
  abbrev A : Bool
  A = page_size s.size

  abbrev B : Bool
  B = between 1 16 s.slots

  abbrev C : Bool
  C = between 3 8 s.lag

  abbrev D : Bool
  D = between 1 65535 s.capacity

  pub limits_size : A ≡ false → limits s ≡ false
  unfolding limits
  limits_size e = and_left (A && B && C) D (and_left (A && B) C (and_left A B e))

  pub limits_slots : B ≡ false → limits s ≡ false
  unfolding limits
  limits_slots e = and_left (A && B && C) D (and_left (A && B) C (and_right A B e))

  pub limits_lag : C ≡ false → limits s ≡ false
  unfolding limits
  limits_lag e = and_left (A && B && C) D (and_right (A && B) C e)

  pub limits_capacity : A ≡ true → B ≡ true → C ≡ true → limits s ≡ D
  unfolding limits
  limits_capacity a b c = and_true (and_make (A && B) C (and_make A B a b) c)

  pub limits_within : limits s ≡ true → Within s
  unfolding limits
  limits_within h =
      let d = both (A && B && C) D h in
      let c = both (A && B) C d.0 in
      let b = both A B c.0 in
      let size = size_range (size_cases s.size b.0) in
      let slots = between_facts 1 16 s.slots b.1 in
      let lag = between_facts 3 8 s.lag c.1 in
      let capacity = between_facts 1 65535 s.capacity d.1 in
      record {
        size = b.0;
        size_least = size.0;
        size_most = size.1;
        slots_least = slots.0;
        slots_most = slots.1;
        lag_least = lag.0;
        lag_most = lag.1;
        capacity_least = capacity.0;
        capacity_most = capacity.1;
      }

  pub within_limits : Within s → limits s ≡ true
  within_limits w =
      limits_capacity w.size
      (between_make 1 16 s.slots w.slots_least w.slots_most)
      (between_make 3 8 s.lag w.lag_least w.lag_most)
      ∙ between_make 1 65535 s.capacity w.capacity_least w.capacity_most

  pub size_some : limits s ≡ true → 1 ≤ s.size
  size_some h = omega (arith, (limits_within h).size_least)

-- how large the numbers get
module _ (s : Settings) (w : Within s) where
  pub entries_most : entries s ≤ 144
  unfolding entries wait
  entries_most = mul-le-mul {n₁ = s.lag + 1} {m₁ = s.slots} {n₂ = 9} {m₂ = 16} (omega (arith, w.lag_most)) w.slots_most

  pub places_most : places s ≤ 272
  unfolding places wait
  places_most = mul-le-mul {n₁ = 2 * s.lag + 1} {m₁ = s.slots} {n₂ = 17} {m₂ = 16} (omega (arith, w.lag_most)) w.slots_most

  pub index_end_most : index_end s ≤ 2340
  unfolding index_end
  index_end_most = omega (arith, entries_most)

  pub first_image_least : index_end s ≤ first_image s
  unfolding first_image
  first_image_least =
      omega (
        arith,
        lt-div-mul-add {a = index_end s + (s.size - 1)} {b = s.size} (omega (arith, w.size_least)),
        w.size_least,
      )

  pub first_image_most : first_image s ≤ 6435
  unfolding first_image
  first_image_most =
      omega (
        arith,
        div-mul-le_self (index_end s + (s.size - 1)) s.size,
        index_end_most,
        w.size_least,
        w.size_most,
      )

  -- a number of pages, in bytes
  pub pages_most : (n most : ℕ) → n ≤ most → n * s.size ≤ most * 4096
  pages_most n most h = mul-le-mul {n₁ = n} {m₁ = s.size} {n₂ = most} {m₂ = 4096} h w.size_most

  pub side_length_most : side_length s ≤ 1120547
  unfolding side_length
  side_length_most = omega (arith, first_image_most, pages_most (places s) 272 places_most)
