-- Laws of lists: what a map does to a list and its parts, an element by its place, a test of one element more, and tests and
-- maps that agree on every element. Assumes nothing.
use Rattle.std.specs.Prelude.{ℕ, zero, suc, ◌<◌, ◌≤◌, ◌≡◌, Bool, ◌||◌, length, take, drop, get_or}
use Rattle.std.proofs.Math.Path.{refl}
use Rattle.std.proofs.Common.{◌∙◌, sym, ap, arith}
use mathlib.Core.List.{List, [], ◌∷◌, ◌++◌, map}
use Rattle.std.proofs.Math.Option.{some, none}
use Rattle.std.proofs.Math.ListN.{get_elem?}
use Rattle.std.proofs.lemmas.List.{length-map}
use Rattle.lists.specs.Below.{zip}
use Rattle.lists.specs.laws.Bools.{or_no, or_assoc}
use Rattle.lists.specs.Scans.{Every, Every.done, Every.more, keep, any_of, all_of}
use Rattle.lists.specs.laws.Scans.{head, tail}

-- a map, and parts of a list
module _ {A B : Type 0} (f : A → B) where
  pub map_append : (xs ys : List A) → map f (xs ++ ys) ≡ map f xs ++ map f ys
  map_append [] ys = refl
  map_append (x ∷ xs) ys = ap (λ (l : List B). f x ∷ l) (map_append xs ys)

  pub map_take : (i : ℕ) (l : List A) → take i (map f l) ≡ map f (take i l)
  map_take zero l = refl
  map_take (suc i) [] = refl
  map_take (suc i) (x ∷ l) = ap (λ (l : List B). f x ∷ l) (map_take i l)

  pub map_drop : (i : ℕ) (l : List A) → drop i (map f l) ≡ map f (drop i l)
  map_drop zero l = refl
  map_drop (suc i) [] = refl
  map_drop (suc i) (x ∷ l) = map_drop i l

  pub get_map : (a : A) (b : B) (i : ℕ) (l : List A) → i < length l → get_or (map f l) i b ≡ f (get_or l i a)
  get_map a b i [] h = absurd (omega arith)
  get_map a b zero (x ∷ xs) h = refl
  get_map a b (suc i) (x ∷ xs) h = get_map a b i xs (omega arith)

  pub any_map : (t : B → Bool) (l : List A) → any_of t (map f l) ≡ any_of (λ x. t (f x)) l
  unfolding any_of
  any_map t [] = refl
  any_map t (x ∷ xs) = rw (any_map t xs)

  -- what owning an array of structs says of its length
  pub length_mapped : (l : List A) (n : ℕ) → length (map f l) ≡ n → length l ≡ n
  length_mapped l n e = sym (length-map l f) ∙ e

-- an element of a list
module _ {A : Type 0} where
  pub some_get : (d : A) (i : ℕ) (l : List A) → i < length l → get_elem? l i ≡ some (get_or l i d)
  some_get d i [] h = absurd (omega arith)
  some_get d zero (x ∷ xs) h = refl
  some_get d (suc i) (x ∷ xs) h = some_get d i xs (omega arith)

  pub none_get : (i : ℕ) (l : List A) → length l ≤ i → get_elem? l i ≡ none
  none_get i [] h = refl
  none_get zero (x ∷ xs) h = absurd (omega arith)
  none_get (suc i) (x ∷ xs) h = none_get i xs (omega arith)

  pub every_get : {P : A → Type 0} (d : A) (i : ℕ) (l : List A) → i < length l → Every P l → P (get_or l i d)
  every_get d i [] h e = absurd (omega arith)
  every_get d zero (x ∷ xs) h e = head e
  every_get d (suc i) (x ∷ xs) h e = every_get d i xs (omega arith) (tail e)

  pub every_take : {P : A → Type 0} (i : ℕ) (l : List A) → Every P l → Every P (take i l)
  every_take zero l e = done
  every_take (suc i) [] e = done
  every_take (suc i) (x ∷ l) e = more (head e) (every_take i l (tail e))

  pub every_drop : {P : A → Type 0} (i : ℕ) (l : List A) → Every P l → Every P (drop i l)
  every_drop zero l e = e
  every_drop (suc i) [] e = e
  every_drop (suc i) (x ∷ l) e = every_drop i l (tail e)

  -- one element more
  pub any_snoc : (t : A → Bool) (l : List A) (x : A) → any_of t (l ++ (x ∷ [])) ≡ (any_of t l || t x)
  unfolding any_of
  any_snoc t [] x = or_no (t x)
  any_snoc t (y ∷ l) x = rw (any_snoc t l x) (or_assoc (t y) (any_of t l) (t x))

  -- tests that agree on every element
  pub keep_same : (t u : A → Bool) (l : List A) → Every (λ x. t x ≡ u x) l → keep t l ≡ keep u l
  unfolding keep
  keep_same t u l done = refl
  keep_same t u l (more {xs = xs} h e) = rw (h, keep_same t u xs e)

  pub all_same : (t u : A → Bool) (l : List A) → Every (λ x. t x ≡ u x) l → all_of t l ≡ all_of u l
  unfolding all_of
  all_same t u l done = refl
  all_same t u l (more {xs = xs} h e) = rw (h, all_same t u xs e)

  pub map_same : {B : Type 0} (f g : A → B) (l : List A) → Every (λ x. f x ≡ g x) l → map f l ≡ map g l
  map_same f g l done = refl
  map_same {B = B} f g l (more {x = x} {xs = xs} h e) = rw h (ap (λ (r : List B). g x ∷ r) (map_same f g xs e))

-- pairs
pub get_zip : {B : Type 0} (f : ℕ × ℕ → B) (b : B) (i : ℕ) (xs ys : List ℕ) → i < length xs → i < length ys → get_or (map f (zip xs ys)) i b ≡ f (get_or xs i 0, get_or ys i 0)
unfolding zip
get_zip f b i [] ys h k = absurd (omega arith)
get_zip f b i (x ∷ xs) [] h k = absurd (omega arith)
get_zip f b zero (x ∷ xs) (y ∷ ys) h k = refl
get_zip f b (suc i) (x ∷ xs) (y ∷ ys) h k = get_zip f b i xs ys (omega arith) (omega arith)
