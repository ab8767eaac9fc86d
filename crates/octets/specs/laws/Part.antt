-- Laws of specs/Part: what was laid is read back, what lies beside it is as before, and nothing changes its length. Assumes
-- nothing.
use Prim.Native.Nat.{ℕ, zero, suc, ◌+◌, ◌-◌, ◌<◌, ◌≤◌}
use Rattle.std.specs.Prelude.{◌≡◌, drop, get_or, set}
use Rattle.std.proofs.Math.Path.{refl, sym, ap}
use Rattle.std.proofs.Common.{◌∙◌, le_of_suc-le-suc, not-suc-le-zero, add-one, length-take, length-drop, take-suc, drop-cons, take_all}
use mathlib.Core.List.{List, [], ◌∷◌, ◌++◌, append_assoc}
use native.Mathlib.Omega.{arith}
use Rattle.std.proofs.Math.ListN.{length, take}
use Rattle.std.proofs.Math.Seq.{take-nil, drop-nil, get_or-drop, drop-drop, take-take}
use Rattle.std.specs.List.{copy_within}
use borrow.Rule.Slice.PartMut.{put_mid}
use Rattle.octets.specs.Part.{lay, part}

module _ {A : Type 0} where
  -- lengths
  pub length_lay : (xs : List A) (a : ℕ) (ys : List A) → length (lay xs a ys) ≡ length xs
  unfolding lay
  length_lay [] a ys = refl
  length_lay (x ∷ xs) zero [] = refl
  length_lay (x ∷ xs) zero (y ∷ ys) = ap suc (length_lay xs zero ys)
  length_lay (x ∷ xs) (suc a) ys = ap suc (length_lay xs a ys)

  pub length_part : (xs : List A) (a n : ℕ) → a + n ≤ length xs → length (part xs a n) ≡ n
  unfolding part
  length_part xs a n h = simp (length-take, length-drop) (omega arith)

  pub lay_nil : (xs : List A) (a : ℕ) → lay xs a [] ≡ xs
  unfolding lay
  lay_nil [] a = refl
  lay_nil (x ∷ xs) zero = refl
  lay_nil (x ∷ xs) (suc a) = ap (λ (r : List A). x ∷ r) (lay_nil xs a)

  -- at the front, and behind a front
  pub lay_zero : (xs ys : List A) → length ys ≤ length xs → lay xs 0 ys ≡ ys ++ drop (length ys) xs
  unfolding lay
  lay_zero [] [] h = refl
  lay_zero [] (y ∷ ys) h = absurd (not-suc-le-zero h)
  lay_zero (x ∷ xs) [] h = refl
  lay_zero (x ∷ xs) (y ∷ ys) h = ap (λ (r : List A). y ∷ r) (lay_zero xs ys (le_of_suc-le-suc h))

  pub lay_eq : (xs : List A) (a : ℕ) (ys : List A) (k : ℕ) → k ≡ a + length ys → k ≤ length xs → lay xs a ys ≡ take a xs ++ (ys ++ drop k xs)
  unfolding lay
  lay_eq [] zero [] k e h = rw (drop-nil k)
  lay_eq [] zero (y ∷ ys) k e h = absurd (omega arith)
  lay_eq [] (suc a) ys k e h = absurd (omega arith)
  lay_eq (x ∷ xs) zero ys k e h =
      let e' : k ≡ length ys = omega arith in
      rw e' (lay_zero (x ∷ xs) ys (omega arith))
  lay_eq (x ∷ xs) (suc a) ys zero e h = absurd (omega arith)
  lay_eq (x ∷ xs) (suc a) ys (suc k) e h = ap (λ (r : List A). x ∷ r) (lay_eq xs a ys k (omega arith) (le_of_suc-le-suc h))

  -- one element more, behind and in front
  pub lay_snoc : (xs : List A) (a : ℕ) (ys : List A) (v : A) (k : ℕ) → k ≡ a + length ys → set (lay xs a ys) k v ≡ lay xs a (ys ++ (v ∷ []))
  unfolding lay
  lay_snoc [] a ys v k e = refl
  lay_snoc (x ∷ xs) zero [] v zero e = rw (lay_nil xs 0)
  lay_snoc (x ∷ xs) zero [] v (suc k) e = absurd (omega arith)
  lay_snoc (x ∷ xs) zero (y ∷ ys) v zero e = absurd (omega arith)
  lay_snoc (x ∷ xs) zero (y ∷ ys) v (suc k) e = ap (λ (r : List A). y ∷ r) (lay_snoc xs zero ys v k (omega arith))
  lay_snoc (x ∷ xs) (suc a) ys v zero e = absurd (omega arith)
  lay_snoc (x ∷ xs) (suc a) ys v (suc k) e = ap (λ (r : List A). x ∷ r) (lay_snoc xs a ys v k (omega arith))

  pub lay_cons : (xs : List A) (a : ℕ) (ys : List A) (v : A) → set (lay xs (suc a) ys) a v ≡ lay xs a (v ∷ ys)
  unfolding lay
  lay_cons [] a ys v = refl
  lay_cons (x ∷ xs) zero ys v = refl
  lay_cons (x ∷ xs) (suc a) ys v = ap (λ (r : List A). x ∷ r) (lay_cons xs a ys v)

  pub lay_one : (xs : List A) (a : ℕ) (v : A) → set xs a v ≡ lay xs a (v ∷ [])
  unfolding lay
  lay_one [] a v = refl
  lay_one (x ∷ xs) zero v = rw (lay_nil xs 0)
  lay_one (x ∷ xs) (suc a) v = ap (λ (r : List A). x ∷ r) (lay_one xs a v)

  -- an element beside what was laid
  pub get_d_lay_before : (xs : List A) (a : ℕ) (ys : List A) (i : ℕ) (d : A) → i < a → get_or (lay xs a ys) i d ≡ get_or xs i d
  unfolding lay
  get_d_lay_before [] a ys i d h = refl
  get_d_lay_before (x ∷ xs) zero ys i d h = absurd (not-suc-le-zero h)
  get_d_lay_before (x ∷ xs) (suc a) ys zero d h = refl
  get_d_lay_before (x ∷ xs) (suc a) ys (suc i) d h = get_d_lay_before xs a ys i d (le_of_suc-le-suc h)

  pub drop_lay : (xs : List A) (a : ℕ) (ys : List A) (k : ℕ) → a + length ys ≤ k → drop k (lay xs a ys) ≡ drop k xs
  unfolding lay
  drop_lay [] a ys k h = refl
  drop_lay (x ∷ xs) zero [] k h = refl
  drop_lay (x ∷ xs) zero (y ∷ ys) zero h = absurd (omega arith)
  drop_lay (x ∷ xs) zero (y ∷ ys) (suc k) h = drop_lay xs zero ys k (omega arith)
  drop_lay (x ∷ xs) (suc a) ys zero h = absurd (omega arith)
  drop_lay (x ∷ xs) (suc a) ys (suc k) h = drop_lay xs a ys k (omega arith)

  pub take_lay : (xs : List A) (a : ℕ) (ys : List A) (k : ℕ) → k ≤ a → take k (lay xs a ys) ≡ take k xs
  unfolding lay
  take_lay [] a ys k h = refl
  take_lay (x ∷ xs) a ys zero h = refl
  take_lay (x ∷ xs) zero ys (suc k) h = absurd (not-suc-le-zero h)
  take_lay (x ∷ xs) (suc a) ys (suc k) h = ap (λ (r : List A). x ∷ r) (take_lay xs a ys k (le_of_suc-le-suc h))

  pub get_d_lay_after : (xs : List A) (a : ℕ) (ys : List A) (i : ℕ) (d : A) → a + length ys ≤ i → get_or (lay xs a ys) i d ≡ get_or xs i d
  unfolding lay
  get_d_lay_after [] a ys i d h = refl
  get_d_lay_after (x ∷ xs) zero [] i d h = refl
  get_d_lay_after (x ∷ xs) zero (y ∷ ys) zero d h = absurd (omega arith)
  get_d_lay_after (x ∷ xs) zero (y ∷ ys) (suc i) d h = get_d_lay_after xs zero ys i d (omega arith)
  get_d_lay_after (x ∷ xs) (suc a) ys zero d h = absurd (omega arith)
  get_d_lay_after (x ∷ xs) (suc a) ys (suc i) d h = get_d_lay_after xs a ys i d (omega arith)

  -- read what was laid; read beside it
  pub part_lay_same : (xs : List A) (a : ℕ) (ys : List A) → a + length ys ≤ length xs → part (lay xs a ys) a (length ys) ≡ ys
  unfolding part lay
  part_lay_same [] zero [] h = refl
  part_lay_same [] zero (y ∷ ys) h = absurd (omega arith)
  part_lay_same [] (suc a) ys h = absurd (omega arith)
  part_lay_same (x ∷ xs) zero [] h = refl
  part_lay_same (x ∷ xs) zero (y ∷ ys) h = ap (λ (r : List A). y ∷ r) (part_lay_same xs zero ys (omega arith))
  part_lay_same (x ∷ xs) (suc a) ys h = part_lay_same xs a ys (omega arith)

  pub part_lay_after : (xs : List A) (a : ℕ) (ys : List A) (b n : ℕ) → a + length ys ≤ b → part (lay xs a ys) b n ≡ part xs b n
  unfolding part
  part_lay_after xs a ys b n h = rw (drop_lay xs a ys b h)

  pub part_lay_before : (xs : List A) (a : ℕ) (ys : List A) (b n : ℕ) → b + n ≤ a → part (lay xs a ys) b n ≡ part xs b n
  unfolding part lay
  part_lay_before [] a ys b n h = refl
  part_lay_before (x ∷ xs) a ys zero n h = take_lay (x ∷ xs) a ys n (omega arith)
  part_lay_before (x ∷ xs) zero ys (suc b) n h = absurd (omega arith)
  part_lay_before (x ∷ xs) (suc a) ys (suc b) n h = part_lay_before xs a ys b n (omega arith)

  -- lay twice; lay in either order when apart; lay what stands there
  pub lay_over : (xs : List A) (a : ℕ) (ys zs : List A) → length ys ≤ length zs → lay (lay xs a ys) a zs ≡ lay xs a zs
  unfolding lay
  lay_over [] a ys zs h = refl
  lay_over (x ∷ xs) zero [] zs h = refl
  lay_over (x ∷ xs) zero (y ∷ ys) [] h = absurd (not-suc-le-zero h)
  lay_over (x ∷ xs) zero (y ∷ ys) (z ∷ zs) h = ap (λ (r : List A). z ∷ r) (lay_over xs zero ys zs (le_of_suc-le-suc h))
  lay_over (x ∷ xs) (suc a) ys zs h = ap (λ (r : List A). x ∷ r) (lay_over xs a ys zs h)

  pub lay_next : (xs : List A) (a : ℕ) (ys zs : List A) (k : ℕ) → k ≡ a + length ys → lay (lay xs a ys) k zs ≡ lay xs a (ys ++ zs)
  unfolding lay
  lay_next [] a ys zs k e = refl
  lay_next (x ∷ xs) zero [] zs zero e = refl
  lay_next (x ∷ xs) zero [] zs (suc k) e = absurd (omega arith)
  lay_next (x ∷ xs) zero (y ∷ ys) zs zero e = absurd (omega arith)
  lay_next (x ∷ xs) zero (y ∷ ys) zs (suc k) e = ap (λ (r : List A). y ∷ r) (lay_next xs zero ys zs k (omega arith))
  lay_next (x ∷ xs) (suc a) ys zs zero e = absurd (omega arith)
  lay_next (x ∷ xs) (suc a) ys zs (suc k) e = ap (λ (r : List A). x ∷ r) (lay_next xs a ys zs k (omega arith))

  pub lay_comm : (xs : List A) (a : ℕ) (ys : List A) (b : ℕ) (zs : List A) → a + length ys ≤ b → lay (lay xs a ys) b zs ≡ lay (lay xs b zs) a ys
  unfolding lay
  lay_comm [] a ys b zs h = refl
  lay_comm (x ∷ xs) zero [] b zs h = sym (lay_nil (lay (x ∷ xs) b zs) 0)
  lay_comm (x ∷ xs) zero (y ∷ ys) zero zs h = absurd (omega arith)
  lay_comm (x ∷ xs) zero (y ∷ ys) (suc b) zs h = ap (λ (r : List A). y ∷ r) (lay_comm xs zero ys b zs (omega arith))
  lay_comm (x ∷ xs) (suc a) ys zero zs h = absurd (omega arith)
  lay_comm (x ∷ xs) (suc a) ys (suc b) zs h = ap (λ (r : List A). x ∷ r) (lay_comm xs a ys b zs (omega arith))

  pub lay_part : (xs : List A) (a n : ℕ) → lay xs a (part xs a n) ≡ xs
  unfolding lay part
  lay_part [] a n = refl
  lay_part (x ∷ xs) zero zero = refl
  lay_part (x ∷ xs) zero (suc n) = ap (λ (r : List A). x ∷ r) (lay_part xs zero n)
  lay_part (x ∷ xs) (suc a) n = ap (λ (r : List A). x ∷ r) (lay_part xs a n)

  -- a part, one element longer at its end or at its front; an element of it
  pub part_snoc : (xs : List A) (a n k : ℕ) (d : A) → k ≡ a + n → k < length xs → part xs a (n + 1) ≡ part xs a n ++ (get_or xs k d ∷ [])
  unfolding part
  part_snoc xs a n k d e h =
      rw (add-one n, e, ← get_or-drop a xs n d) (take-suc (drop a xs) n d (rw (length-drop a xs) (omega arith)))

  pub part_first : (xs : List A) (a n : ℕ) (d : A) → a < length xs → part xs a (suc n) ≡ get_or xs a d ∷ part xs (suc a) n
  unfolding part
  part_first xs a n d h = rw (drop-cons xs a d h)

  pub part_none : (xs : List A) (a : ℕ) → part xs a 0 ≡ []
  unfolding part
  part_none xs a = refl

  -- what the code's `&s[a..b]` is, what a write of it leaves, and what `copy_within` leaves
  pub part_range : (xs : List A) (a b n : ℕ) → b ≡ a + n → take (b - a) (drop a xs) ≡ part xs a n
  unfolding part
  part_range xs a b n e = ap (λ (k : ℕ). take k (drop a xs)) (omega arith)

  pub put_mid_lay : (xs : List A) (a b n : ℕ) (ys : List A) → b ≡ a + n → b ≤ length xs → length ys ≡ n → put_mid a (b - a) xs ys ≡ lay xs a ys
  put_mid_lay xs a b n ys e h l =
      let k : a + (b - a) ≡ b = omega arith in
      rw (drop-drop (b - a) a xs, k) (sym (lay_eq xs a ys b (omega arith) h))

  pub copy_within_lay : (xs : List A) (from b to n : ℕ) → b ≡ from + n → b ≤ length xs → to + n ≤ length xs → copy_within xs from b to ≡ lay xs to (part xs from n)
  unfolding part
  copy_within_lay xs from b to n e h k =
      let m : b - from ≡ n = omega arith in
      let l : length (part xs from n) ≡ n = length_part xs from n (omega arith) in
      rw m
      (append_assoc (take to xs) (take n (drop from xs)) (drop (to + n) xs)
      ∙ sym (lay_eq xs to (part xs from n) (to + n) (omega arith) k))

  -- what the code's `&s[a..]` is
  pub rest : (xs : List A) (a : ℕ) → take (length xs - a) (drop a xs) ≡ drop a xs
  rest xs a = take_all (length xs - a) (drop a xs) (rw (length-drop a xs) (omega arith))

  -- laying behind a front; what stands from there on, and up to there
  pub lay_under : (xs : List A) (a b k : ℕ) (ys : List A) → k ≡ a + b → a ≤ length xs → lay xs k ys ≡ take a xs ++ lay (drop a xs) b ys
  unfolding lay
  lay_under xs zero b k ys e h = let f : k ≡ b = omega arith in rw f
  lay_under [] (suc a) b k ys e h = absurd (not-suc-le-zero h)
  lay_under (x ∷ xs) (suc a) b zero ys e h = absurd (omega arith)
  lay_under (x ∷ xs) (suc a) b (suc k) ys e h = ap (λ (r : List A). x ∷ r) (lay_under xs a b k ys (omega arith) (le_of_suc-le-suc h))

  pub drop_lay_in : (xs : List A) (a b k : ℕ) (ys : List A) → k ≡ a + b → drop a (lay xs k ys) ≡ lay (drop a xs) b ys
  unfolding lay
  drop_lay_in xs zero b k ys e = let f : k ≡ b = omega arith in rw f
  drop_lay_in [] (suc a) b k ys e = refl
  drop_lay_in (x ∷ xs) (suc a) b zero ys e = absurd (omega arith)
  drop_lay_in (x ∷ xs) (suc a) b (suc k) ys e = drop_lay_in xs a b k ys (omega arith)

  pub take_lay_in : (xs : List A) (n a : ℕ) (ys : List A) → take n (lay xs a ys) ≡ lay (take n xs) a ys
  unfolding lay
  take_lay_in xs zero a ys = refl
  take_lay_in [] (suc n) a ys = refl
  take_lay_in (x ∷ xs) (suc n) zero [] = refl
  take_lay_in (x ∷ xs) (suc n) zero (y ∷ ys) = ap (λ (r : List A). y ∷ r) (take_lay_in xs n zero ys)
  take_lay_in (x ∷ xs) (suc n) (suc a) ys = ap (λ (r : List A). x ∷ r) (take_lay_in xs n a ys)

  -- laid inside a part: the part with it laid over
  pub part_lay_in : (xs : List A) (a n b k : ℕ) (ys : List A) → k ≡ a + b → part (lay xs k ys) a n ≡ lay (part xs a n) b ys
  unfolding part
  part_lay_in xs a n b k ys e = ap (take n) (drop_lay_in xs a b k ys e) ∙ take_lay_in (drop a xs) n b ys

  -- the rest of a front, and a part of a part
  pub drop_take : (k n : ℕ) (xs : List A) → drop k (take (k + n) xs) ≡ take n (drop k xs)
  drop_take zero n xs = let e : 0 + n ≡ n = omega arith in rw e
  drop_take (suc k) n [] = rw (take-nil {A = A} (suc k + n), take-nil {A = A} n)
  drop_take (suc k) n (x ∷ xs) = let e : suc k + n ≡ suc (k + n) = omega arith in rw e (drop_take k n xs)

  pub part_part : (xs : List A) (a m b n : ℕ) → b + n ≤ m → part (part xs a m) b n ≡ part xs (a + b) n
  unfolding part
  part_part xs a m b n h =
      let e : m ≡ b + (m - b) = omega arith in
      ap (λ (k : ℕ). take n (drop b (take k (drop a xs)))) e
      ∙ rw (drop_take b (m - b) (drop a xs), take-take n (m - b) (drop b (drop a xs)) (omega arith), drop-drop b a xs)

  -- the whole, and the part at the front
  pub part_zero : (xs : List A) (n : ℕ) → part xs 0 n ≡ take n xs
  unfolding part
  part_zero xs n = refl

  pub lay_whole : (xs ys : List A) → length ys ≡ length xs → lay xs 0 ys ≡ ys
  unfolding lay
  lay_whole [] [] h = refl
  lay_whole [] (y ∷ ys) h = absurd (omega arith)
  lay_whole (x ∷ xs) [] h = absurd (omega arith)
  lay_whole (x ∷ xs) (y ∷ ys) h = ap (λ (r : List A). y ∷ r) (lay_whole xs ys (omega arith))
