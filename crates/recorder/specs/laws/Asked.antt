-- What the tests of each call say once they pass, and that each refuses by a number above 0: a span, one page more, a close,
-- an open. Forged worlds among them. Assumes nothing.
use Rattle.std.specs.Prelude.{ℕ, ◌+◌, ◌<◌, ◌≤◌, ◌≡◌, true, ◌&&◌, ◌++◌, ltb, length, take}
use Rattle.std.proofs.Math.Path.{refl}
use Rattle.std.proofs.Math.Dec.{leb}
use borrow.Author.Tests.{ltb-true, leb-true}
use Rattle.lists.specs.laws.Bools.{both}
use Rattle.lists.specs.Scans.{all_of}
use Rattle.lists.specs.laws.Scans.{head, tail}
use Rattle.units.specs.Sizes.{top, limits, ledger_length}
use Rattle.units.specs.Tests.{passes, numbered}
use Rattle.units.specs.laws.Tests.{passes_every}
use Rattle.units.specs.declared.Settings.{Settings}
use Rattle.recorder.specs.Calls.{open_tests, span_tests, grow_tests}
use Rattle.recorder.specs.Close.{suffices, close_tests}
use Rattle.recorder.specs.laws.Facts.{Lengths, long_facts}
use Rattle.recorder.specs.Rules.{long_enough, standing}
use Rattle.recorder.specs.World.{World, page_size, kind_of}

-- n bytes of page p from an offset on
pub record Span (w : World) (p offset n : ℕ) : Type 0 where
  pub low : p < w.state.end
  pub two : kind_of w p < 2
  pub some : 1 ≤ n
  pub inside : offset + n ≤ page_size w

module _ (w : World) (p offset n : ℕ) where
  pub numbered_span : all_of numbered (standing w ++ span_tests w p offset n) ≡ true
  unfolding all_of standing span_tests
  numbered_span = refl

  pub span_facts : passes (span_tests w p offset n) ≡ true → Span w p offset n
  unfolding span_tests
  span_facts h =
      let a = passes_every (span_tests w p offset n) h in
      let b = both (leb 1 n) (leb (offset + n) (page_size w)) (head (tail (tail a))) in
      record {
        low = ltb-true p w.state.end (head a);
        two = ltb-true (kind_of w p) 2 (head (tail a));
        some = leb-true 1 n b.0;
        inside = leb-true (offset + n) (page_size w) b.1;
      }

-- a page more, of this kind
module _ (w : World) (kind : ℕ) where
  pub numbered_grow : all_of numbered (standing w ++ grow_tests w kind) ≡ true
  unfolding all_of standing grow_tests
  numbered_grow = refl

  pub grow_facts : passes (grow_tests w kind) ≡ true → (kind < 2) × (w.state.end < w.state.settings.capacity)
  unfolding grow_tests
  grow_facts h =
      let a = passes_every (grow_tests w kind) h in
      (ltb-true kind 2 (head a), ltb-true w.state.end w.state.settings.capacity (head (tail a)))

-- a close
module _ (w : World) where
  pub numbered_close : all_of numbered (standing w ++ close_tests w) ≡ true
  unfolding all_of standing close_tests
  numbered_close = refl

  pub close_facts : passes (close_tests w) ≡ true → (w.state.closed.0 < top) × (suffices w ≡ true)
  unfolding close_tests
  close_facts h = let a = passes_every (close_tests w) h in (ltb-true w.state.closed.0 top (head a), head (tail a))

-- an open
pub record Opens (s : Settings) (end B : ℕ) (w : World) : Type 0 where
  pub limited : limits s ≡ true
  pub ended : end ≤ s.capacity
  pub early : B ≤ top
  pub lengths : Lengths s w
  pub ledger_long : ledger_length s ≤ length w.ledger
  pub kinds : all_of (λ k. ltb k 2) (take end w.kinds) ≡ true

module _ (s : Settings) (end B : ℕ) (w : World) where
  pub numbered_open : all_of numbered (open_tests s end B w) ≡ true
  unfolding all_of open_tests
  numbered_open = refl

  pub open_facts : passes (open_tests s end B w) ≡ true → Opens s end B w
  unfolding open_tests
  open_facts h =
      let a = passes_every (open_tests s end B w) h in
      let b = both (limits s && leb end s.capacity) (leb B top) (head a) in
      let c = both (limits s) (leb end s.capacity) b.0 in
      let d = both (long_enough s w) (leb (ledger_length s) (length w.ledger)) (head (tail a)) in
      record {
        limited = c.0;
        ended = leb-true end s.capacity c.1;
        early = leb-true B top b.1;
        lengths = long_facts s w d.0;
        ledger_long = leb-true (ledger_length s) (length w.ledger) d.1;
        kinds = head (tail (tail a));
      }
