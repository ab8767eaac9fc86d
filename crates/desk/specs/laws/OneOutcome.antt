-- One outcome (document 01, "What the contracts pin"): two outcomes that a call's contract allows for the same input are
-- equal. Of a read that is the part's place and bytes: `place` pins the pointer and `bytes` the contents, and with them number,
-- source and offset, which are the definition's own. What stays open is the ghost name of the reference that is handed back,
-- which exists in proofs only and no program can see (decision 37). Assumes nothing.
use Rattle.std.specs.Prelude.{ℕ, List, ◌≡◌}
use Rattle.std.proofs.Common.{◌∙◌, sym}
use Rattle.std.specs.Borrow.{Bor}
use Rattle.desk.specs.Outcome.{TakeDone, RefreshDone, Handed}
use Rattle.desk.specs.Part.{part_of}
use Rattle.desk.specs.Read.{desk_read}
use Rattle.desk.specs.Take.{take_reply, refresh_reply}
use Rattle.desk.specs.declared.Part.{Part}

pub take_one : (side held : List ℕ) (n m : ℕ) (h k : List ℕ) → TakeDone (take_reply side held) n h → TakeDone (take_reply side held) m k
    → (n ≡ m) × (h ≡ k)
take_one side held n m h k p q = (p.answered ∙ sym q.answered, p.holds ∙ sym q.holds)

pub refresh_one : (side held marks : List ℕ) (n m : ℕ) (h k a b : List ℕ) → RefreshDone (refresh_reply side held marks) n h a
    → RefreshDone (refresh_reply side held marks) m k b
    → (n ≡ m) × (h ≡ k) × (a ≡ b)
refresh_one side held marks n m h k a b p q =
    (p.answered ∙ sym q.answered, p.holds ∙ sym q.holds, p.marked ∙ sym q.marked)

module _ (held : List ℕ) (side base : Bor (List ℕ)) (p offset n : ℕ) where
  pub read_one : (r s : Bor (List ℕ)) → Handed (desk_read held side.now base.now p offset n) side base r
      → Handed (desk_read held side.now base.now p offset n) side base s
      → (r.ref_ptr ≡ s.ref_ptr) × (r.now ≡ s.now)
  read_one r s a b = (a.place ∙ sym b.place, a.bytes ∙ sym b.bytes)

-- the companions, native and for C
module _ (held side base : List ℕ) (p offset n : ℕ) where
  pub read_part_one : (k m : Part) → k ≡ part_of (desk_read held side base p offset n) → m ≡ part_of (desk_read held side base p offset n) → k ≡ m
  read_part_one k m a b = a ∙ sym b

  pub read_number_one : (k m : ℕ) → k ≡ (desk_read held side base p offset n).number → m ≡ (desk_read held side base p offset n).number → k ≡ m
  read_number_one k m a b = a ∙ sym b

  pub read_source_one : (k m : ℕ) → k ≡ (desk_read held side base p offset n).source → m ≡ (desk_read held side base p offset n).source → k ≡ m
  read_source_one k m a b = a ∙ sym b

  pub read_offset_one : (k m : ℕ) → k ≡ (desk_read held side base p offset n).offset → m ≡ (desk_read held side base p offset n).offset → k ≡ m
  read_offset_one k m a b = a ∙ sym b
