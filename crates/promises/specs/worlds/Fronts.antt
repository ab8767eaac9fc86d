-- Two lists that begin alike: equal in their first n elements, free to differ behind them, in length too. They have the same
-- parts, rows and elements inside those n, and what is laid over both leaves them so. Assumes nothing.
use Rattle.std.specs.Prelude.{ℕ, ◌+◌, ◌*◌, ◌<◌, ◌≤◌, ◌≡◌, List, [], ◌∷◌, length, take, get_or, set}
use Rattle.std.proofs.Common.{◌∙◌, sym, ap, zero-add, arith, length-take, take-take, get_or-take}
use Rattle.octets.specs.Part.{part, lay}
use Rattle.octets.specs.laws.Part.{part_part, part_zero, take_lay_in, lay_one}
use Rattle.octets.specs.Rows.{row}
use Rattle.octets.specs.laws.Rows.{row_in}

module _ {A : Type 0} where
  abbrev pub Front : ℕ → List A → List A → Type 0
  Front n xs ys = take n xs ≡ take n ys

module _ {A : Type 0} (n : ℕ) (xs ys : List A) (same : Front n xs ys) where
  pub front_take : (k : ℕ) → k ≤ n → Front k xs ys
  front_take k h = sym (take-take k n xs h) ∙ ap (take k) same ∙ take-take k n ys h

  -- as many are in both
  pub front_long : n ≤ length xs → n ≤ length ys
  front_long h = omega (arith, sym (length-take n xs) ∙ ap length same ∙ length-take n ys)

  pub front_part : (a k : ℕ) → a + k ≤ n → part xs a k ≡ part ys a k
  front_part a k h = sym (inside xs) ∙ ap (λ (zs : List A). part zs a k) same ∙ inside ys
    where
      inside : (zs : List A) → part (take n zs) a k ≡ part zs a k
      inside zs =
          ap (λ (us : List A). part us a k) (sym (part_zero zs n))
          ∙ part_part zs 0 n a k h
          ∙ ap (λ (b : ℕ). part zs b k) (zero-add a)

  pub front_row : (s w m i : ℕ) → s + m * w ≤ n → i < m → row s w i xs ≡ row s w i ys
  unfolding row
  front_row s w m i h k = let e = row_in w i m k in front_part (s + i * w) w (omega arith)

  pub front_get : (i : ℕ) (d : A) → i < n → get_or xs i d ≡ get_or ys i d
  front_get i d h = sym (get_or-take n xs i d h) ∙ ap (λ (zs : List A). get_or zs i d) same ∙ get_or-take n ys i d h

  pub front_lay : (a : ℕ) (zs : List A) → Front n (lay xs a zs) (lay ys a zs)
  front_lay a zs = take_lay_in xs n a zs ∙ ap (λ (us : List A). lay us a zs) same ∙ sym (take_lay_in ys n a zs)

  pub front_set : (i : ℕ) (z : A) → Front n (set xs i z) (set ys i z)
  front_set i z = rw (lay_one xs i z, lay_one ys i z) (front_lay i (z ∷ []))
