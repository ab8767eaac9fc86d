-- Places in an array, as a struct has them: the first n of it count. Numbers that stand in such an array. Assumes nothing.
use Rattle.std.specs.Prelude.{ℕ, ◌<◌, ◌≤◌, ◌≡◌, List, map, length, take, get_or}
use Rattle.std.proofs.Common.{◌∙◌, ap, arith, get_or-take, length-take, length-take-le}
use Rattle.std.proofs.lemmas.List.{length-map}
use Rattle.lists.specs.laws.Maps.{get_map}
use Rattle.units.specs.declared.Place.{Place}

-- the numbers of the first n places of an array
abbrev pub place_numbers : ℕ → List Place → List ℕ
place_numbers n l = map (λ q. q.0) (take n l)

-- how many there are, and number i of an array is that of its element i
module _ {A : Type 0} (f : A → ℕ) (n : ℕ) (l : List A) where
  pub length_numbers : n ≤ length l → length (map f (take n l)) ≡ n
  length_numbers h = length-map (take n l) f ∙ length-take-le n l h

  pub number_at : (d : A) (i : ℕ) → i < length (map f (take n l)) → get_or (map f (take n l)) i 0 ≡ f (get_or l i d)
  number_at d i h =
      let k : i < length (take n l) = omega (arith, length-map (take n l) f) in
      get_map f d 0 i (take n l) k ∙ ap f (get_or-take n l i d (omega (arith, length-take n l)))
