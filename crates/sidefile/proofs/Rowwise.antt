-- The entries of a table as its rows one by one, which is how the code tests them. Assumes nothing.
use Rattle.std.proofs.Common.{◌≡◌, refl, ◌∙◌, ap, ℕ, zero, suc, ◌+◌, Bool, List, [], ◌∷◌, map, eqb, drop, arith}
use Rattle.std.proofs.Math.ListN.{length-map}
use Rattle.std.specs.List.{range_with_len, position, prefix_len}
use Rattle.std.specs.Prelude.{not}
use Rattle.octets.specs.Rows.{row}
use Rattle.sidefile.specs.declared.IndexEntry.{IndexEntry}
use Rattle.sidefile.specs.Encode.{index_entry_of}
use Rattle.sidefile.specs.inner.Table.{column, entries_at, of_page, entry_next, entries_end}

module _ (at w n : ℕ) (xs : List ℕ) where
  abbrev entry : ℕ → IndexEntry
  entry i = index_entry_of (row at w i xs)

  rest : (k i : ℕ) → i + k ≡ n → drop i (entries_at at w n xs) ≡ map entry (range_with_len i k)
  rest zero i h = entries_end at w n xs i (omega arith)
  rest (suc k) i h = entry_next at w n xs i (omega arith) ∙ ap {B = List IndexEntry} (λ l. entry i ∷ l) (rest k (i + 1) (omega arith))

  pub rowwise : entries_at at w n xs ≡ map entry (range_with_len 0 n)
  rowwise = rest n 0 (omega arith)

module _ {A B : Type 0} (f : A → B) (t : B → Bool) where
  prefix_map : (l : List A) → prefix_len t (map f l) ≡ prefix_len (λ x. t (f x)) l
  prefix_map [] = refl
  prefix_map (x ∷ l) = rw (prefix_map l)

pub position_map : {A B : Type 0} (f : A → B) (t : B → Bool) (l : List A) → position (λ x. t (f x)) l ≡ position t (map f l)
position_map f t l = rw (prefix_map f (λ y. not (t y)) l, length-map l f)

module _ (at w n : ℕ) (xs : List ℕ) where
  pub found_rowwise : (p : ℕ) → position (λ i. eqb (column 0 (row at w i xs)) p) (range_with_len 0 n) ≡ position (of_page p) (entries_at at w n xs)
  unfolding column index_entry_of
  found_rowwise p = rw (rowwise at w n xs) (position_map (entry at w n xs) (of_page p) (range_with_len 0 n))
