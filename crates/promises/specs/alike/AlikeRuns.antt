-- Two recordings that differ only in spare bytes stay so: two opens with the same settings over files and kinds that begin
-- alike, whatever lies behind them, in the page buffers and in the ledgers; then the same calls. Every call answers both the
-- same number and the same bytes. Assumes nothing.
use Prim.Native.Nat.{ℕ, ◌<◌, ◌≤◌}
use Rattle.std.specs.Prelude.{◌≡◌, refl, true, length, take}
use Rattle.std.proofs.Common.{◌∙◌, sym, ap, subst, arith}
use mathlib.Core.List.{List, [], ◌∷◌, ◌++◌}
use Rattle.std.proofs.Math.ListN.{replicate}
use Rattle.std.proofs.lemmas.List.{length-replicate}
use Rattle.lists.specs.laws.Bools.{not_both}
use Rattle.octets.specs.Part.{lay}
use Rattle.octets.specs.laws.Part.{length_lay, part_zero, part_lay_same}
use Rattle.units.specs.Ages.{tick}
use Rattle.units.specs.laws.Bounds.{limits_within}
use Rattle.units.specs.Sizes.{side_length, base_length, ledger_length}
use Rattle.units.specs.declared.Settings.{Settings}
use Rattle.sidefile.specs.Encode.{header_for, index_bytes}
use Rattle.slots.specs.Table.{vacant}
use Rattle.recorder.specs.laws.Asked.{Opens}
use Rattle.recorder.specs.Calls.{open_state, opened, open_reply}
use Rattle.recorder.specs.Runs.{Call, read, write, grow, close, reply, run, opening, reached}
use Rattle.recorder.specs.World.{World}
use Rattle.promises.specs.alike.Alike.{with_slices, Lent, Alike, alike_by}
use Rattle.promises.specs.alike.AlikeCalls.{Both, both_read, both_write, both_grow}
use Rattle.promises.specs.alike.AlikeClose.{both_close}
use Rattle.recorder.specs.laws.Facts.{Ruled}
use Rattle.promises.specs.worlds.Fronts.{Front, front_lay}
use Rattle.promises.specs.worlds.Opened.{open_is, open_vacant, ruled_open, open_asked}

-- a call
both_reply : (c : Call) (w v : World) → Ruled w → Lent w v → Both (reply c w) (reply c (with_slices w v))
unfolding reply
both_reply (read p offset into) w v r l = both_read w v r l p offset into
both_reply (write p offset bs) w v r l = both_write w v r l p offset bs
both_reply (grow kind) w v r l = both_grow w v r l kind
both_reply close w v r l = both_close w v r l

pub alike_reply : (c : Call) (w v : World) → Ruled w → Alike w v → Both (reply c w) (reply c v)
alike_reply c w v r a = alike_by (λ u. Both (reply c w) (reply c u)) w v a (both_reply c w v r a.lent)

-- calls, one after the other
pub alike_run : ((c : Call) (u : World) → Ruled u → Ruled (reply c u).world) → (cs : List Call) (w v : World) → Ruled w → Alike w v → Alike (run cs w) (run cs v)
unfolding run
alike_run keeps [] w v r a = a
alike_run keeps (c ∷ cs) w v r a = alike_run keeps cs (reply c w).world (reply c v).world (keeps c w r) (alike_reply c w v r a).world

-- the same bytes laid over all that is looked at
laid_front : (n : ℕ) (xs ys zs : List ℕ) → length zs ≡ n → n ≤ length xs → n ≤ length ys → Front n (lay xs 0 zs) (lay ys 0 zs)
laid_front n xs ys zs e h k = front xs h ∙ sym (front ys k)
  where
    front : (us : List ℕ) → n ≤ length us → take n (lay us 0 zs) ≡ zs
    front us h = sym (part_zero (lay us 0 zs) n) ∙ rw (← e) (part_lay_same us 0 zs (omega arith))

-- two opens
module _ (s : Settings) (end B : ℕ) (w v : World) (base : Front (base_length s) w.base v.base) (side : Front (side_length s) w.side v.side)
    (kinds : Front s.capacity w.kinds v.kinds) where
  alike_opened : Opens s end B w → Opens s end B v → ((i : ℕ) → i < s.slots → vacant (opened s end B w).state.slots i ≡ true) → Alike (opened s end B w) (opened s end B v)
  unfolding opened open_state
  alike_opened o q empty =
      let front : List ℕ = header_for s (tick B) end [] ++ index_bytes s [] in
      let zeros : List ℕ = replicate (ledger_length s) 0 in
      let n = q.lengths in
      record {
        state = refl;
        lent = record {
          ledger_long = omega (arith, q.ledger_long, length_lay v.ledger 0 zeros);
          lengths = record { base_long = n.base_long; side_long = omega (arith, n.side_long, length_lay v.side 0 front); buffer_long = n.buffer_long; kinds_long = n.kinds_long };
          ledger = laid_front (ledger_length s) w.ledger v.ledger zeros (length-replicate (ledger_length s) 0) o.ledger_long q.ledger_long;
          base = base;
          side = front_lay (side_length s) w.side v.side side 0 front;
          kinds = kinds;
          buffer = λ i h k. absurd (not_both (vacant (opened s end B w).state.slots i) (empty i h) k);
        };
      }

  pub alike_open : (open_reply s end B w).number ≡ 0 → (open_reply s end B v).number ≡ 0 → Alike (open_reply s end B w).world (open_reply s end B v).world
  alike_open h k =
      let o = open_asked s end B w h in
      let q = open_asked s end B v k in
      subst (λ (u : World). Alike u (open_reply s end B v).world) (sym (open_is s end B w h))
      (subst (Alike (opened s end B w)) (sym (open_is s end B v k))
      (alike_opened o q
      (λ i m. ap (λ (u : World). vacant u.state.slots i) (sym (open_is s end B w h)) ∙ open_vacant s end B w h i (omega (arith, (limits_within s o.limited).slots_most)))))

  -- and the same calls after them
  pub alike_reached : ((c : Call) (u : World) → Ruled u → Ruled (reply c u).world) → (open_reply s end B w).number ≡ 0 → (open_reply s end B v).number ≡ 0 → (cs : List Call)
      → Alike (reached (record { settings = s; end = end; tick = B; lent = w; calls = cs })) (reached (record { settings = s; end = end; tick = B; lent = v; calls = cs }))
  unfolding reached opening
  alike_reached keeps h k cs = alike_run keeps cs (open_reply s end B w).world (open_reply s end B v).world (ruled_open s end B w h) (alike_open h k)
