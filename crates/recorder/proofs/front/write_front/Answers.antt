use Rattle.std.proofs.Common.{ℕ, ◌≡◌, ◌∙◌, sym, ap, List, map, length, arith}
use Rattle.std.proofs.lemmas.List.{length-map}
use Rattle.octets.specs.Part.{lay}
use Rattle.units.specs.Sizes.{header_length, index_end}
use Rattle.sidefile.specs.Encode.{index_bytes}
use Rattle.sidefile.specs.inner.Sealed.{sealed, sealed_rows}
use Rattle.sidefile.specs.declared.IndexEntry.{IndexEntry}
use Rattle.ledger.specs.laws.Rowed.{length_entries_in}
use Rattle.ledger.specs.View.{indexed, entries_in}
use Rattle.recorder.proofs.front.write_front.Goals as goal

pub returns : goal.returns
unfolding index_end
returns c =
    let a = c.args in
    let s = a.state.now in
    let ys : List IndexEntry = map indexed (entries_in a.n a.ledger.now) in
    let k : length ys ≡ a.n = length-map (entries_in a.n a.ledger.now) indexed ∙ length_entries_in a.n a.ledger.now in
    rw (c.seal.ensures, c.write_index.ensures)
    (ap (λ (n : ℕ). sealed s.settings a.tick s.end n (lay a.side.now header_length (index_bytes s.settings ys))) (sym k)
    ∙ sealed_rows s.settings a.tick s.end ys a.side.now (omega (arith, c.requires.1, c.requires.3)))
