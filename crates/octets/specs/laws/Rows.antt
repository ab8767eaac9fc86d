-- Laws of specs/Rows: a row that is laid is read back and every other is as before; rows slid by one. Assumes nothing.
use Prim.Native.Nat.{ℕ, zero, suc, ◌+◌, ◌-◌, ◌*◌, ◌<◌, ◌≤◌}
use Rattle.std.specs.Prelude.{◌≡◌, length, drop, set, get_or}
use Rattle.std.proofs.Math.Path.{refl, sym, ap}
use Rattle.std.proofs.Common.{◌∙◌, le_of_suc-le-suc, not-suc-le-zero, zero-mul, add-mul, mul-le-mul_right, add-one, length-append, length-drop, take-take, take-add, drop-cons, length-take-le}
use mathlib.Core.List.{List, [], ◌∷◌, ◌++◌, append_assoc}
use Rattle.std.proofs.Math.Decide.{dec_lt}
use Rattle.std.proofs.Math.Nat.{suc-mul}
use native.Mathlib.Omega.{arith}
use Rattle.std.proofs.Math.ListN.{take}
use Rattle.std.proofs.lemmas.List.{set_split}
use Rattle.std.proofs.Math.Seq.{drop-drop, take_at, drop_at}
use Rattle.octets.specs.Part.{part, lay}
use Rattle.octets.specs.laws.Part.{lay_zero, length_part, take_lay, lay_next, lay_part, lay_under, drop_lay_in, part_lay_same, part_lay_before, part_lay_after, drop_take}
use Rattle.octets.specs.Rows.{Even, join, row, rows}

-- a row below n ends at or below the end of n rows
pub row_in : (w i n : ℕ) → i < n → i * w + w ≤ n * w
row_in w i n h = omega (arith, suc-mul i w, mul-le-mul_right w h)

pub row_end : (w i : ℕ) → (i + 1) * w ≡ i * w + w
row_end w i = rw (add-one i) (suc-mul i w)

-- n rows are the first k and the others
pub rows_split : (w k n : ℕ) → k ≤ n → n * w ≡ k * w + (n - k) * w
rows_split w k n h = ap (λ (j : ℕ). j * w) {x = n} {y = k + (n - k)} (omega arith) ∙ add-mul k (n - k) w

-- and, for a row i, those before it, itself and those behind it
pub rows_around : (w i n : ℕ) → i < n → n * w ≡ i * w + w + (n - i - 1) * w
rows_around w i n h =
    let e : n ≡ suc i + (n - i - 1) = omega arith in
    ap (λ (j : ℕ). j * w) e ∙ add-mul (suc i) (n - i - 1) w ∙ rw (suc-mul i w)

-- one row, or page, laid over: it is read there, and every other one is as it was
module _ {A : Type 0} (s w : ℕ) (xs : List A) (m : ℕ) (fits : s + m * w ≤ length xs) where
  pub row_laid : (k : ℕ) (ys : List A) → length ys ≡ w → k < m → row s w k (lay xs (s + k * w) ys) ≡ ys
  unfolding row
  row_laid k ys l h =
      let i = row_in w k m h in
      ap (λ (n : ℕ). part (lay xs (s + k * w) ys) (s + k * w) n) (sym l) ∙ part_lay_same xs (s + k * w) ys (omega arith)

  pub row_other : (j k : ℕ) (ys : List A) → length ys ≡ w → (j ≡ k → ⊥) → row s w j (lay xs (s + k * w) ys) ≡ row s w j xs
  unfolding row
  row_other j k ys l ne = go (dec_lt j k)
    where
      go : Dec (j < k) → part (lay xs (s + k * w) ys) (s + j * w) w ≡ part xs (s + j * w) w
      go (yes h) = let i = row_in w j k h in part_lay_before xs (s + k * w) ys (s + j * w) w (omega arith)
      go (no h) = let i = row_in w k j (omega (arith, ne)) in part_lay_after xs (s + k * w) ys (s + j * w) w (omega arith)

  pub length_row : (k : ℕ) → k < m → length (row s w k xs) ≡ w
  unfolding row
  length_row k h = let i = row_in w k m h in length_part xs (s + k * w) w (omega arith)

module _ {A : Type 0} (w : ℕ) where
  pub length_rows : (n : ℕ) (xs : List A) → length (rows w n xs) ≡ n
  unfolding rows
  length_rows zero xs = refl
  length_rows (suc n) xs = ap suc (length_rows n (drop w xs))

  pub rows_take : (k n : ℕ) (xs : List A) → k ≤ n → take k (rows w n xs) ≡ rows w k xs
  unfolding rows
  rows_take zero n xs h = refl
  rows_take (suc k) zero xs h = absurd (not-suc-le-zero h)
  rows_take (suc k) (suc n) xs h = ap (λ (r : List (List A)). take w xs ∷ r) (rows_take k n (drop w xs) (le_of_suc-le-suc h))

  pub rows_drop : (k n : ℕ) (xs : List A) → k ≤ n → drop k (rows w n xs) ≡ rows w (n - k) (drop (k * w) xs)
  unfolding rows
  rows_drop zero n xs h = let e : n - 0 ≡ n = omega arith in rw (zero-mul w, e)
  rows_drop (suc k) zero xs h = absurd (not-suc-le-zero h)
  rows_drop (suc k) (suc n) xs h =
      let e : suc n - suc k ≡ n - k = omega arith in
      let f : suc k * w ≡ w + k * w = omega (arith, suc-mul k w) in
      rows_drop k n (drop w xs) (le_of_suc-le-suc h) ∙ rw (e, f, drop-drop (k * w) w xs)

  pub rows_at : (i n : ℕ) (xs : List A) → i < n → get_or (rows w n xs) i [] ≡ part xs (i * w) w
  unfolding rows part
  rows_at i zero xs h = absurd (not-suc-le-zero h)
  rows_at zero (suc n) xs h = rw (zero-mul w)
  rows_at (suc i) (suc n) xs h =
      let f : suc i * w ≡ w + i * w = omega (arith, suc-mul i w) in
      rows_at i n (drop w xs) (le_of_suc-le-suc h) ∙ rw (f, drop-drop (i * w) w xs)

  -- what a scan sees at row i, and at the end
  pub row_next : (i n : ℕ) (xs : List A) → i < n → drop i (rows w n xs) ≡ part xs (i * w) w ∷ drop (i + 1) (rows w n xs)
  row_next i n xs h =
      rw (add-one i, ← rows_at i n xs h) (drop-cons (rows w n xs) i [] (rw (length_rows n xs) h))

  pub even_rows : (n : ℕ) (xs : List A) → n * w ≤ length xs → Even w (rows w n xs)
  unfolding rows Even
  even_rows zero xs h = tt
  even_rows (suc n) xs h =
      let e = suc-mul n w in
      (length-take-le w xs (omega arith), even_rows n (drop w xs) (rw (length-drop w xs) (omega arith)))

  pub join_rows : (n : ℕ) (xs : List A) → n * w ≤ length xs → join (rows w n xs) ≡ take (n * w) xs
  unfolding rows join
  join_rows zero xs h = rw (zero-mul w)
  join_rows (suc n) xs h =
      let f : suc n * w ≡ w + n * w = omega (arith, suc-mul n w) in
      rw (join_rows n (drop w xs) (rw (length-drop w xs) (omega arith)), f) (sym (take-add w (n * w) xs))

  pub length_join : (rs : List (List A)) → Even w rs → length (join rs) ≡ length rs * w
  unfolding join Even
  length_join [] h = sym (zero-mul w)
  length_join (r ∷ rs) h = rw (length-append r (join rs), h.0, length_join rs h.1) (omega (arith, suc-mul (length rs) w))

  pub rows_join : (rs : List (List A)) (ys : List A) → Even w rs → rows w (length rs) (join rs ++ ys) ≡ rs
  unfolding rows join Even
  rows_join [] ys h = refl
  rows_join (r ∷ rs) ys h =
      rw (append_assoc r (join rs) ys, take_at r (join rs ++ ys) w h.0, drop_at r (join rs ++ ys) w h.0, rows_join rs ys h.1)

  -- rows that were laid are the rows that are read
  pub rows_laid : (rs : List (List A)) (xs : List A) (n : ℕ) → Even w rs → n ≡ length rs → n * w ≤ length xs → rows w n (lay xs 0 (join rs)) ≡ rs
  rows_laid rs xs n h e k =
      let l : length (join rs) ≡ length rs * w = length_join rs h in
      let m : n * w ≡ length rs * w = ap (λ (j : ℕ). j * w) e in
      rw (lay_zero xs (join rs) (omega arith), e) (rows_join rs (drop (length (join rs)) xs) h)

  -- the bytes of the rows from k on
  pub join_from : (k n : ℕ) (xs : List A) → k ≤ n → n * w ≤ length xs → join (drop k (rows w n xs)) ≡ part xs (k * w) ((n - k) * w)
  unfolding part
  join_from k n xs h m =
      let f = rows_split w k n h in
      rw (rows_drop k n xs h) (join_rows (n - k) (drop (k * w) xs) (rw (length-drop (k * w) xs) (omega arith)))

pub join_append : {A : Type 0} (rs ss : List (List A)) → join (rs ++ ss) ≡ join rs ++ join ss
unfolding join
join_append [] ss = refl
join_append (r ∷ rs) ss = rw (join_append rs ss) (sym (append_assoc r (join rs) (join ss)))

-- the rows see only the first n * w bytes
pub rows_front : {A : Type 0} (w n : ℕ) (xs ys : List A) → take (n * w) xs ≡ take (n * w) ys → rows w n xs ≡ rows w n ys
unfolding rows
rows_front w zero xs ys e = refl
rows_front w (suc n) xs ys e =
    let f : suc n * w ≡ w + n * w = omega (arith, suc-mul n w) in
    let g : take (w + n * w) xs ≡ take (w + n * w) ys = rw (← f) e in
    let h : take w xs ≡ take w ys = sym (take-take w (w + n * w) xs (omega arith)) ∙ rw g (take-take w (w + n * w) ys (omega arith)) in
    let k : take (n * w) (drop w xs) ≡ take (n * w) (drop w ys) = sym (drop_take w (n * w) xs) ∙ ap (drop w) g ∙ drop_take w (n * w) ys in
    rw (h, rows_front w n (drop w xs) (drop w ys) k)

pub rows_beside : {A : Type 0} (w n : ℕ) (xs : List A) (a : ℕ) (ys : List A) → n * w ≤ a → rows w n (lay xs a ys) ≡ rows w n xs
rows_beside w n xs a ys h = rows_front w n (lay xs a ys) xs (take_lay xs a ys (n * w) h)

-- a front that stands there, a row, and the rest
pub laid : {A : Type 0} (xs row more : List A) (a b : ℕ) → a ≤ length xs → b ≡ a + length row → lay xs 0 (take a xs ++ (row ++ more)) ≡ lay (lay xs a row) b more
unfolding part
laid xs row more a b h e =
    sym (lay_next xs 0 (take a xs) (row ++ more) a (rw (length-take-le a xs h) (omega arith)))
    ∙ rw (lay_part xs 0 a) (sym (lay_next xs a row more b e))

-- a row laid over row k
pub set_bytes : {A : Type 0} (w n k : ℕ) (xs row : List A) → length row ≡ w → n * w ≤ length xs → k < n
    → lay xs (k * w) row ≡ lay xs 0 (join (set (rows w n xs) k row))
unfolding join
set_bytes w n k xs row lw fits h =
    let l = length_rows w n xs in
    let m = row_in w k n h in
    let s1 = suc-mul k w in
    let e : join (set (rows w n xs) k row) ≡ take (k * w) xs ++ (row ++ part xs (suc k * w) ((n - suc k) * w))
    = rw (
      set_split (rows w n xs) k row (omega arith),
      join_append (take k (rows w n xs)) (row ∷ drop (suc k) (rows w n xs)),
      rows_take w k n xs (omega arith),
      join_rows w k xs (omega arith),
      join_from w (suc k) n xs h fits,
    ) in
    sym (rw e
    (laid xs row (part xs (suc k * w) ((n - suc k) * w)) (k * w) (suc k * w) (omega arith) (omega arith)
    ∙ rw (← part_lay_after xs (k * w) row (suc k * w) ((n - suc k) * w) (omega arith))
    (lay_part (lay xs (k * w) row) (suc k * w) ((n - suc k) * w))))

-- the same in a table that begins at a
pub set_row : {A : Type 0} (w n k a b : ℕ) (xs row : List A) → length row ≡ w → a + n * w ≤ length xs → k < n → b ≡ a + k * w
    → lay xs b row ≡ lay xs a (join (set (rows w n (drop a xs)) k row))
set_row w n k a b xs row lw fits h e =
    let f : a ≡ a + 0 = omega arith in
    lay_under xs a (k * w) b row e (omega arith)
    ∙ rw (set_bytes w n k (drop a xs) row lw (rw (length-drop a xs) (omega arith)) h)
    (sym (lay_under xs a 0 a (join (set (rows w n (drop a xs)) k row)) f (omega arith)))

pub even_set : {A : Type 0} (w k : ℕ) (rs : List (List A)) (r : List A) → length r ≡ w → Even w rs → Even w (set rs k r)
unfolding Even
even_set w k [] r l h = tt
even_set w zero (x ∷ rs) r l h = (l, h.1)
even_set w (suc k) (x ∷ rs) r l h = (h.0, even_set w k rs r l h.1)

-- a table that was laid at a, read back
pub rows_laid_at : {A : Type 0} (w n a : ℕ) (rs : List (List A)) (xs : List A) → Even w rs → n ≡ length rs → a + n * w ≤ length xs → rows w n (drop a (lay xs a (join rs))) ≡ rs
rows_laid_at w n a rs xs h e k = let f : a ≡ a + 0 = omega arith in
    rw (drop_lay_in xs a 0 a (join rs) f) (rows_laid w rs (drop a xs) n h e (rw (length-drop a xs) (omega arith)))
