-- The tests of the index as the code groups them, by a header h that was read before. Assumes nothing.
use Prim.Native.Nat.{ℕ, ◌+◌, ◌-◌, ◌*◌}
use mathlib.Core.Path.{◌≡◌, refl, ◌∙◌, sym, ap}
use mathlib.Core.Bool.{Bool, true, false, ◌&&◌}
use mathlib.Core.List.{List, [], ◌∷◌}
use lib.Dec.{eqb}
use Rattle.lists.specs.Scans.{all_of}
use Rattle.octets.specs.Number.{le32}
use Rattle.octets.specs.Part.{part}
use Rattle.units.specs.Sizes.{header_length, index_row, entries, places}
use Rattle.units.specs.Tests.{Test, passes}
use Rattle.sidefile.specs.declared.Header.{Header}
use Rattle.sidefile.specs.Encode.{checksum, header_of, index_of}
use Rattle.sidefile.specs.Judge.{index_tests}
use Rattle.sidefile.specs.inner.Table.{entries_at, index_entries, pages_fit, places_fit, changes_fit}
use Rattle.sidefile.specs.inner.Tables.{IndexAt, entries_in, entries_of_index}
use Rattle.sidefile.specs.declared.IndexEntry.{IndexEntry}
use Rattle.sidefile.specs.declared.table.Table.{Table}
use Rattle.lists.specs.laws.Bools.{and_yes}

-- two tests as one, twice, and then one by one from the first to the last
in_turn : (t u v w x y z : Test) → passes (t ∷ u ∷ v ∷ w ∷ x ∷ y ∷ z ∷ []) ≡ (((((t.1 && u.1) && (v.1 && w.1)) && x.1) && y.1) && z.1)
unfolding passes
in_turn t u v w x y z = go t.1 u.1 v.1 w.1 x.1 y.1 z.1
  where
    last : (e f g : Bool) → (e && (f && (g && true))) ≡ ((e && f) && g)
    last true true g = and_yes g
    last true false g = refl
    last false f g = refl

    go : (a b c d e f g : Bool) → (a && (b && (c && (d && (e && (f && (g && true))))))) ≡ (((((a && b) && (c && d)) && e) && f) && g)
    go true true true true e f g = last e f g
    go true true true false e f g = refl
    go true true false d e f g = refl
    go true false c d e f g = refl
    go false b c d e f g = refl

-- h is the header that was read, t the table of its entries
pub judged : (h : Header) (xs : List ℕ) (t : Table) → h ≡ header_of xs → IndexAt xs h.entries t
    → passes (index_tests xs)
    ≡ ((((pages_fit h.end (entries_in t) && places_fit (places h.settings) (entries_in t)) && changes_fit h.closed (entries_in t))
    && all_of (eqb 0) (part xs (header_length + index_row * h.entries) (index_row * (entries h.settings - h.entries))))
    && eqb (checksum (part xs header_length (index_row * h.entries))) (le32 xs 28))
unfolding index_tests pages_fit places_fit changes_fit
judged h xs t e i =
    in_turn _ _ _ _ _ _ _
    ∙ ap (λ (h : Header). passed h (index_of xs)) (sym e)
    ∙ ap (passed h) (of_header ∙ sym (entries_of_index xs h.entries t i))
  where
    passed : Header → List IndexEntry → Bool
    passed h es =
        ((((pages_fit h.end es && places_fit (places h.settings) es) && changes_fit h.closed es)
        && all_of (eqb 0) (part xs (header_length + index_row * h.entries) (index_row * (entries h.settings - h.entries))))
        && eqb (checksum (part xs header_length (index_row * h.entries))) (le32 xs 28))

    of_header : index_of xs ≡ entries_at header_length index_row h.entries xs
    of_header = index_entries xs ∙ ap (λ (h : Header). entries_at header_length index_row h.entries xs) (sym e)
