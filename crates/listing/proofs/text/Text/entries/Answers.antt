use Rattle.std.proofs.Common.{ℕ, zero, suc, ◌*◌, ◌≤◌, ◌≡◌, ap, List, [], ◌∷◌, ◌++◌, append_assoc, add-one, take, drop, take_all, append-nil, length, arith}
use Rattle.octets.specs.Rows.{join}
use Rattle.sidefile.specs.declared.IndexEntry.{IndexEntry}
use Rattle.sidefile.specs.inner.Table.{entry_next, length_entries_at}
use Rattle.sidefile.specs.inner.Tables.{entries_in}
use Rattle.listing.specs.Text.{entry_line, entry_lines}
use Rattle.listing.specs.inner.Written.{Adds, adds_none, adds_next, adds_as}
use Rattle.listing.specs.declared.text.Text.{Text}
use Rattle.listing.proofs.text.Text.entries.Goals as goal

-- the lines of one entry more
lines_more : (i : ℕ) (xs : List IndexEntry) (x : IndexEntry) (r : List IndexEntry) → drop i xs ≡ x ∷ r
    → entry_lines (take i xs) ++ entry_line x ≡ entry_lines (take (suc i) xs)
unfolding entry_lines join
lines_more zero [] x r e = absurd (cc)
lines_more zero (y ∷ ys) x r e = let f : y ≡ x = cc in rw (f, append-nil)
lines_more (suc i) [] x r e = absurd (cc)
lines_more (suc i) (y ∷ ys) x r e = rw (append_assoc, lines_more i ys x r e)

none : (t : Text) → Adds t (entry_lines []) 0 t
unfolding entry_lines join
none t = adds_none t

pub loop-i-init : goal.loop-i-init
loop-i-init c = none _

pub entry-requires-in-loop-i : goal.entry-requires-in-loop-i
entry-requires-in-loop-i c = omega (arith, c.requires.0, c.loop-i.invariant.short, c.loop-i.invariant.long)

pub loop-i-preserved : goal.loop-i-preserved
loop-i-preserved c =
    let t = c.args.index in
    let i = c.loop-i.i in
    let e = entry_next t.at t.width t.rows t.bytes.now i c.loop-i-test.true in
    let d = adds_next c.loop-i.invariant (rw c.entry.ensures at c.entry-in-loop-i.ensures) in
    rw (add-one i) (adds_as (lines_more i (entries_in t) _ _ e) (omega arith) d)

pub returns : goal.returns
returns c =
    let t = c.args.index in
    let i = c.loop-i.i in
    let all : i ≡ t.rows = omega arith in
    let few : length (entries_in t) ≤ i = omega (arith, length_entries_at t.at t.width t.rows t.bytes.now) in
    adds_as (ap entry_lines (take_all i (entries_in t) few)) (ap (λ k. k * 33) all) c.loop-i.invariant
