-- What an accepted open, read, write or grow has at hand once its tests have passed: the rules, the lengths, the span; where its
-- bytes lie in base and buffer; and the slot of a page that is used. Assumes nothing.
use Prim.Native.Nat.{ℕ, ◌+◌, ◌*◌, ◌<◌, ◌≤◌}
use mathlib.Core.Path.{◌≡◌, refl, ◌∙◌, sym, ap}
use mathlib.Core.Bool.{true}
use mathlib.Core.List.{List}
use native.Mathlib.Omega.{arith}
use lib.ListN.{length}
use Rattle.std.specs.Prelude.{Some}
use Rattle.octets.specs.laws.Part.{length_lay}
use Rattle.units.specs.laws.Bounds.{limits_within, first_image_least}
use Rattle.units.specs.Sizes.{index_end}
use Rattle.units.specs.Tests.{passes, verdict}
use Rattle.units.specs.laws.Tests.{passes_both, verdict_none}
use Rattle.units.specs.declared.Settings.{Settings}
use Rattle.slots.specs.declared.seats.Seat.{Seat}
use Rattle.recorder.specs.laws.Asked.{Span, numbered_span, span_facts, numbered_grow, grow_facts, numbered_open, open_facts, Opens}
use Rattle.recorder.specs.Calls.{open_tests, span_tests, grow_tests}
use Rattle.recorder.specs.laws.Facts.{rule_facts, Stands, stands_facts}
use Rattle.recorder.specs.Rules.{rules, standing}
use Rattle.recorder.specs.inner.Tests.{access_tests, growth_tests}
use Rattle.recorder.specs.inner.Using.{slot_in, Seated, Chosen, brought_to}
use Rattle.recorder.specs.World.{World, page_size}
use Rattle.recorder.specs.declared.buffer.Use.{Use}
use Rattle.recorder.specs.declared.buffer.Use.TheVariants.{Hit, Taken}
use Rattle.recorder.proofs.Bringing.{alone, rules_alone, ruled_within, ruled_end, page_in, slot_room}

-- the slot of page p used, or the seat that it gets: one of 16, inside the buffer
module _ (w : World) (s : Stands w) (p : ℕ) where
  room : (i : ℕ) → i < w.state.settings.slots → (i < 16) × (i * page_size w + page_size w ≤ length w.buffer)
  room i h = (omega (arith, (ruled_within w s.ruled).slots_most), omega (arith, slot_room w s.ruled i h, s.long.buffer_long))

  pub slotted : (u : Use) → Chosen (alone w) p (Some u) → (slot_in u < 16) × (slot_in u * page_size w + page_size w ≤ length w.buffer)
  slotted u c = room (slot_in u) c.fits.0

  pub seated : (x : Seat) → Seated (alone w) p (Some x) → (x.slot < 16) × (x.slot * page_size w + page_size w ≤ length w.buffer)
  seated x c = room x.slot c.fits.0

-- the buffer keeps its length
pub brought_length : (u : Use) (P : ℕ) (page xs : List ℕ) → length (brought_to u P page xs) ≡ length xs
brought_length (Hit i) P page xs = refl
brought_length (Taken x) P page xs = length_lay xs (x.slot * P) page

-- read and write of n bytes
pub record Access (w : World) (p offset n : ℕ) : Type 0 where
  pub passed : passes (access_tests w p offset n) ≡ true
  pub stands : Stands w
  pub span : Span w p offset n

module _ (w : World) (p offset n : ℕ) where
  pub access : 0 ≡ verdict (access_tests w p offset n) → Access w p offset n
  access e =
      let h = verdict_none (access_tests w p offset n) (numbered_span w p offset n) (sym e) in
      let g = passes_both (standing w) (span_tests w p offset n) h in
      record { passed = h; stands = stands_facts w g.0; span = span_facts w p offset n g.1 }

  module _ (a : Access w p offset n) where
    low : p < w.state.settings.capacity
    low = omega (arith, a.span.low, (rule_facts w a.stands.ruled).ended)

    pub access_asks : (rules (alone w) ≡ true) × (p ≤ w.state.end)
    access_asks = (rules_alone w ∙ a.stands.ruled, omega (arith, a.span.low))

    -- the page in the base, and the span there
    pub access_page : p * page_size w + page_size w ≤ length w.base
    access_page = omega (arith, page_in w a.stands.ruled p low, a.stands.long.base_long)

    pub access_base : p * page_size w + offset + n ≤ length w.base
    access_base = omega (arith, access_page, a.span.inside)

    -- the span in its slot, once the page was brought there
    pub access_buffer : (u : Use) → Chosen (alone w) p (Some u) → (page b : List ℕ) → b ≡ brought_to u (page_size w) page w.buffer
        → slot_in u * page_size w + offset + n ≤ length b
    access_buffer u c page b e =
        omega (arith, (slotted w a.stands p u c).1, ap length e ∙ brought_length u (page_size w) page w.buffer, a.span.inside)

-- grow
pub record Growth (w : World) (kind : ℕ) : Type 0 where
  pub passed : passes (growth_tests w kind) ≡ true
  pub stands : Stands w
  pub room : w.state.end < w.state.settings.capacity

module _ (w : World) (kind : ℕ) where
  pub growth : 0 ≡ verdict (growth_tests w kind) → Growth w kind
  growth e =
      let h = verdict_none (growth_tests w kind) (numbered_grow w kind) (sym e) in
      let g = passes_both (standing w) (grow_tests w kind) h in
      record { passed = h; stands = stands_facts w g.0; room = (grow_facts w kind g.1).1 }

  module _ (g : Growth w kind) where
    pub growth_end : w.state.end ≤ 65535
    growth_end = ruled_end w g.stands.ruled

    pub growth_asks : rules (alone w) ≡ true
    growth_asks = rules_alone w ∙ g.stands.ruled

    pub growth_kinds : w.state.end < length w.kinds
    growth_kinds = omega (arith, g.room, g.stands.long.kinds_long)

    pub growth_base : w.state.end * page_size w + page_size w ≤ length w.base
    growth_base = omega (arith, page_in w g.stands.ruled w.state.end g.room, g.stands.long.base_long)

-- open
pub record Opening (s : Settings) (end B : ℕ) (w : World) : Type 0 where
  pub passed : passes (open_tests s end B w) ≡ true
  pub asked : Opens s end B w
  pub index_long : index_end s ≤ length w.side

module _ (s : Settings) (end B : ℕ) (w : World) where
  pub opening : 0 ≡ verdict (open_tests s end B w) → Opening s end B w
  opening e =
      let h = verdict_none (open_tests s end B w) (numbered_open s end B w) (sym e) in
      let o = open_facts s end B w h in
      record { passed = h; asked = o; index_long = omega (arith, first_image_least s (limits_within s o.limited), o.lengths.side_long) }
