-- An entry and its row of 20 bytes are the same thing: what is written is read back, and what is read is written back. So the
-- ledger's bytes hold its entries, and a proof may speak of entries where the code has bytes. Assumes nothing.
use Rattle.std.specs.Prelude.{ℕ, zero, suc, ◌+◌, ◌-◌, ◌*◌, ◌<◌, ◌≤◌, ◌≡◌, refl, List, [], ◌∷◌, ◌++◌, map, length, take, drop, get_or, replicate}
use Rattle.std.proofs.Common.{◌∙◌, sym, ap, append_assoc, append-nil, arith, length-append, length-drop, take-append-drop, drop_at, drop-drop, take_all, get_or-drop}
use Rattle.std.proofs.lemmas.List.{length-replicate, length-map}
use Rattle.lists.specs.Scans.{Every, Every.done, Every.more}
use Rattle.lists.specs.laws.Scans.{head, tail}
use Rattle.octets.specs.Number.{bytes, bytes32, le, le32, Octets}
use Rattle.octets.specs.laws.Number.{length_bytes, le_bytes, bytes_le, le_below}
use Rattle.octets.specs.Part.{lay}
use Rattle.octets.specs.Rows.{rows, join, Even}
use Rattle.octets.specs.laws.Rows.{length_rows, length_join, rows_join, rows_front, rows_beside}
use Rattle.units.specs.Sizes.{entry_row, entries, places_at}
use Rattle.units.specs.declared.Settings.{Settings}
use Rattle.sidefile.specs.Encode.{index_row_of}
use Rattle.ledger.specs.declared.Entry.{Entry}
use Rattle.ledger.specs.View.{entry_row_of, entry_of, entries_in, entry_bytes}

-- the numbers of an entry have 32 bits
pub record Small (e : Entry) : Type 0 where
  pub page : e.page.0 < 4294967296
  pub place : e.place.0 < 4294967296
  pub changed : e.changed.0 < 4294967296
  pub sum : e.sum < 4294967296
  pub entered : e.entered.0 < 4294967296

pub length_row : (e : Entry) → length (entry_row_of e) ≡ entry_row
unfolding entry_row_of index_row_of
length_row e = simp (length-append, length_bytes)

-- numbers one after the other in bytes, and n of them read
unfoldable words : List ℕ → List ℕ
words [] = []
words (v ∷ vs) = bytes32 v ++ words vs

unfoldable numbers : ℕ → List ℕ → List ℕ
numbers zero r = []
numbers (suc n) r = le 4 r ∷ numbers n (drop 4 r)

pub octets_drop : (n : ℕ) (r : List ℕ) → Octets r → Octets (drop n r)
unfolding Octets
octets_drop n r o i = rw (get_or-drop n r i 0) (o (n + i))

numbers_words : (vs : List ℕ) → Every (λ v. v < 4294967296) vs → numbers (length vs) (words vs) ≡ vs
unfolding words numbers
numbers_words [] s = refl
numbers_words (v ∷ vs) s =
    rw (le_bytes 4 v (words vs) (head s), drop_at (bytes 4 v) (words vs) 4 (length_bytes 4 v), numbers_words vs (tail s))

words_numbers : (n : ℕ) (r : List ℕ) → Octets r → length r ≡ 4 * n → words (numbers n r) ≡ r
unfolding words numbers
words_numbers zero r o l = take_all 0 r (omega arith)
words_numbers (suc n) r o l =
    let rest = words_numbers n (drop 4 r) (octets_drop 4 r o) (rw (length-drop 4 r) (omega arith)) in
    rw (bytes_le 4 r o (omega arith), rest) (take-append-drop 4 r)

-- the five of an entry, and the entry of five
abbrev five : Entry → List ℕ
five e = e.page.0 ∷ e.place.0 ∷ e.changed.0 ∷ e.sum ∷ e.entered.0 ∷ []

abbrev of_five : List ℕ → Entry
of_five vs =
    record {
      page = record { 0 = get_or vs 0 0 };
      place = record { 0 = get_or vs 1 0 };
      changed = record { 0 = get_or vs 2 0 };
      sum = get_or vs 3 0;
      entered = record { 0 = get_or vs 4 0 };
    }

row_words : (e : Entry) → entry_row_of e ≡ words (five e)
unfolding entry_row_of index_row_of words
row_words e = simp (append_assoc, append-nil)

five_numbers : (r : List ℕ) → five (entry_of r) ≡ numbers 5 r
unfolding entry_of numbers
five_numbers r = simp drop-drop

pub entry_read : (e : Entry) → Small e → entry_of (entry_row_of e) ≡ e
entry_read e h =
    let s : Every (λ v. v < 4294967296) (five e) = more h.page (more h.place (more h.changed (more h.sum (more h.entered done)))) in
    ap of_five (five_numbers (entry_row_of e) ∙ ap (numbers 5) (row_words e) ∙ numbers_words (five e) s)

pub row_written : (r : List ℕ) → length r ≡ entry_row → Octets r → entry_row_of (entry_of r) ≡ r
row_written r l o = row_words (entry_of r) ∙ ap words (five_numbers r) ∙ words_numbers 5 r o l

-- the rows of entries, and the entries of rows
pub even_entries : (es : List Entry) → Even entry_row (map entry_row_of es)
unfolding Even
even_entries [] = tt
even_entries (e ∷ es) = (length_row e, even_entries es)

pub entries_read : (es : List Entry) → Every Small es → map entry_of (map entry_row_of es) ≡ es
entries_read [] s = refl
entries_read (e ∷ es) s = rw (entry_read e (head s), entries_read es (tail s))

pub length_entry_bytes : (s : Settings) (es : List Entry) → length es ≤ entries s → length (entry_bytes s es) ≡ places_at s
unfolding entry_bytes places_at
length_entry_bytes s es h =
    simp (length-append, length-replicate) (omega (arith, length_join entry_row (map entry_row_of es) (even_entries es), length-map es entry_row_of))

pub entry_bytes_read : (s : Settings) (es : List Entry) (rest : List ℕ) → Every Small es → entries_in (length es) (entry_bytes s es ++ rest) ≡ es
unfolding entry_bytes entries_in
entry_bytes_read s es rest h =
    let spare : List ℕ = replicate (entry_row * (entries s - length es)) 0 in
    rw (append_assoc (join (map entry_row_of es)) spare rest)
    (ap (λ (n : ℕ). map entry_of (rows entry_row n (join (map entry_row_of es) ++ (spare ++ rest)))) (sym (length-map es entry_row_of))
    ∙ ap (map entry_of) (rows_join entry_row (map entry_row_of es) (spare ++ rest) (even_entries es))
    ∙ entries_read es h)

-- the first n entries are n, and see only their rows
pub length_entries_in : (n : ℕ) (ledger : List ℕ) → length (entries_in n ledger) ≡ n
unfolding entries_in
length_entries_in n ledger = length-map (rows entry_row n ledger) entry_of ∙ length_rows entry_row n ledger

pub entries_in_front : (n : ℕ) (xs ys : List ℕ) → take (n * entry_row) xs ≡ take (n * entry_row) ys → entries_in n xs ≡ entries_in n ys
unfolding entries_in
entries_in_front n xs ys e = ap (map entry_of) (rows_front entry_row n xs ys e)

pub entries_in_beside : (n : ℕ) (xs : List ℕ) (a : ℕ) (ys : List ℕ) → n * entry_row ≤ a → entries_in n (lay xs a ys) ≡ entries_in n xs
unfolding entries_in
entries_in_beside n xs a ys h = ap (map entry_of) (rows_beside entry_row n xs a ys h)

-- what bytes say is small
pub octets_take : (n : ℕ) (r : List ℕ) → Octets r → Octets (take n r)
unfolding Octets
octets_take zero r o i = omega arith
octets_take (suc n) [] o i = omega arith
octets_take (suc n) (x ∷ xs) o zero = o 0
octets_take (suc n) (x ∷ xs) o (suc i) = octets_take n xs (λ j. o (suc j)) i

pub small_read : (r : List ℕ) → Octets r → Small (entry_of r)
unfolding entry_of
small_read r o = record { page = below 0; place = below 4; changed = below 8; sum = below 12; entered = below 16 }
  where
    below : (a : ℕ) → le32 r a < 4294967296
    below a = le_below 4 (drop a r) (octets_drop a r o)

pub small_entries_in : (n : ℕ) (ledger : List ℕ) → Octets ledger → Every Small (entries_in n ledger)
unfolding entries_in rows
small_entries_in zero ledger o = done
small_entries_in (suc n) ledger o = more (small_read (take entry_row ledger) (octets_take entry_row ledger o)) (small_entries_in n (drop entry_row ledger) (octets_drop entry_row ledger o))
