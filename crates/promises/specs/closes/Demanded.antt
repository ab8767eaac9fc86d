-- Demand 3 is met: the proof of what Demand.antt states. A desk's answer is a function of the close whose index it holds:
-- what a close has, its futures keep for the maximum lag (Kept), and a reading desk looks at nothing else. Assumes nothing.
use Rattle.std.specs.Prelude.{ℕ, ◌+◌, ◌*◌, ◌≤◌, ◌<◌, ◌≡◌, List, ◌⊎◌}
use Rattle.std.proofs.Common.{◌∙◌, sym, ap, subst, inl, inr, arith}
use Rattle.std.proofs.Math.Decide.{ℕ_discrete, dec_lt}
use Rattle.octets.specs.Part.{part}
use Rattle.units.specs.Sizes.{index_end, side_length, base_length}
use Rattle.units.specs.declared.Settings.{Settings}
use Rattle.sidefile.specs.Encode.{header_of}
use Rattle.sidefile.specs.declared.Header.{Header}
use Rattle.recorder.specs.World.{kind_of}
use Rattle.recorder.specs.declared.State.{State}
use Rattle.recorder.specs.Runs.{Call, Recording, opening, reached, held_by}
use Rattle.promises.specs.alike.Alike.{Alike}
use Rattle.promises.specs.alike.AlikeDesk.{desk_held, read_slices}
use Rattle.promises.specs.alike.AlikeGood.{index_begins}
use Rattle.promises.specs.alike.AlikeRecordings.{recordings_alike}
use Rattle.promises.specs.alike.AlikeRuns.{alike_run}
use Rattle.promises.specs.Demand.{AtClose, SameUpToClose, later, WithinLag, HoldsIndex, SideNow, BaseNow, RawThen, SameAnswers, BytesThen, HeldThen}
use Rattle.promises.specs.worlds.Fronts.{Front, front_take}
use Rattle.promises.specs.worlds.Good.{Good, Kept, contents}
use Rattle.promises.specs.Held.{held_contents}
use Rattle.promises.specs.closes.KeptSelf.{kept_self}
use Rattle.promises.specs.worlds.Reached.{good_run, ruled_reply, kept_run, settings_run, settings_reached}
use Rattle.promises.specs.worlds.Settled.{Settled, settled}
use Rattle.desk.specs.Read.{desk_read}
use Rattle.promises.specs.desks.Lagging.{desk_in, pages_in, same_answer}
use Rattle.promises.specs.desks.Snapshot.{later_snapshot, later_read}
use Rattle.promises.specs.desks.Taken.{Took, held_header}

module _ (r : Recording) (h : (opening r).number ≡ 0) (c : AtClose r) where
  at : Settled (reached r)
  at = settled r h c

  module _ (more : List Call) (lag : WithinLag r more) where
    pub good_later : Good (later r more)
    good_later = good_run more (reached r) at.good

    within : (later r more).state.closed.0 ≤ (reached r).state.closed.0 + (reached r).state.settings.lag
    within = subst (λ (s : Settings). (later r more).state.closed.0 ≤ (reached r).state.closed.0 + s.lag) (sym (settings_reached r h)) lag

    pub kept_later : Kept (reached r) (later r more)
    kept_later = kept_run (reached r) at.good more (reached r) at.good (kept_self (reached r)) within

    module _ (held : List ℕ) (t : HoldsIndex r held) where
      took : Took (reached r) held
      took = subst (λ (s : Settings). part held 0 (index_end s) ≡ part (reached r).side 0 (index_end s)) (sym (settings_reached r h)) t

      -- the held e is e at the close
      held_end : (header_of held).end ≡ (reached r).state.end
      held_end = ap (λ (h : Header). h.end) (held_header (reached r) at.good held took) ∙ at.whole

      -- the answer at the close, for a page that was not raw there
      as_then : (p offset n : ℕ) → (RawThen r p → ⊥) → desk_in held (later r more) p offset n ≡ desk_in held (reached r) p offset n
      as_then p offset n raw =
          same_answer (reached r) (later r more) at.good good_later kept_later within held took p offset n
          (not_raw (dec_lt p (reached r).state.end) (ℕ_discrete (kind_of (reached r) p) 1))
        where
          not_raw : Dec (p < (reached r).state.end) → Dec (kind_of (reached r) p ≡ 1) → (at.good.ending ≤ p) ⊎ (kind_of (reached r) p ≡ 0)
          not_raw (no b) k = inl (omega (arith, b, at.whole))
          not_raw (yes b) (yes k) = absurd (raw (b, k))
          not_raw (yes b) (no k) = inr (omega (arith, at.good.two p b, k))

      bytes_then : (p offset n : ℕ) → p < (reached r).state.end → kind_of (reached r) p ≡ 0 → BytesThen r p offset n (desk_in held (later r more) p offset n)
      bytes_then p offset n b m =
          let w₀ = reached r in
          let w = later r more in
          let e : part (contents w₀ p) offset n ≡ part (held_by r p) offset n = ap (λ (xs : List ℕ). part xs offset n) (sym (held_contents r h p b m)) in
          record {
            bytes = λ a. later_read w₀ w at.good good_later kept_later within at.whole at.still held took p b m offset n a ∙ e;
            accepted = λ i j. (later_snapshot w₀ w at.good good_later kept_later within at.whole at.still held took p b m offset n i (subst (λ (s : Settings). offset + n ≤ s.size) (sym (settings_reached r h)) j)).0;
          }

      -- a desk that is lent the files so far as it looks reads what it reads in them
      module _ (side base : List ℕ) (s : SideNow r (later r more) side) (b : BaseNow r (later r more) base) where
        pub lent_read : (p offset n : ℕ) → desk_read held side base p offset n ≡ desk_in held (later r more) p offset n
        lent_read p offset n =
            let w = later r more in
            let e : w.state.settings ≡ r.settings = kept_later.same ∙ settings_reached r h in
            sym (read_slices w good_later side
            (subst (λ (t : Settings). Front (side_length t) w.side side) (sym e) (sym s))
            held
            (omega (arith, held_end, kept_later.ends, good_later.ruled.facts.ended))
            base
            (subst (λ (t : Settings). Front (t.size * (header_of held).end) w.base base) (sym e)
            (subst (λ (k : ℕ). Front (r.settings.size * k) w.base base) (sym held_end) (sym b)))
            p offset n)

pub held_then : HeldThen
held_then r h c more lag held t side base s d p offset n b m =
    subst (BytesThen r p offset n) (sym (lent_read r h c more lag held t side base s d p offset n)) (bytes_then r h c more lag held t p offset n b m)

-- What is said of b is said of a: as the two are the same up to the close, and go on by the same calls, so are the index that a
-- desk holds, the lag and the files that it is lent.
module _ (a b : Recording) (same : SameUpToClose a b) (twos : List Call) where
  alike : Alike (reached a) (reached b)
  alike = recordings_alike ruled_reply a b same

  g : Good (reached a)
  g = (at a same.a_opens same.at_close).good

  later_alike : Alike (later a twos) (later b twos)
  later_alike = alike_run ruled_reply twos (reached a) (reached b) g.ruled alike

  lag_back : WithinLag b twos → WithinLag a twos
  lag_back lag =
      omega (
        arith,
        lag,
        ap (λ (s : State). s.closed.0) later_alike.state,
        ap (λ (s : State). s.closed.0) alike.state,
        ap (λ (s : Settings). s.lag) same.settings,
      )

  index_back : (held : List ℕ) → HoldsIndex b held → HoldsIndex a held
  index_back held t =
      subst (λ (s : Settings). part held 0 (index_end s) ≡ part (reached b).side 0 (index_end s)) same.settings t
      ∙ sym (subst (λ (s : Settings). part (reached a).side 0 (index_end s) ≡ part (reached b).side 0 (index_end s)) (settings_reached a same.a_opens) (index_begins (reached a) g.ruled (reached b).side alike.lent.side))

  settings_later : (later a twos).state.settings ≡ a.settings
  settings_later = settings_run twos (reached a) g ∙ settings_reached a same.a_opens

  side_back : (side : List ℕ) → SideNow b (later b twos) side → SideNow a (later a twos) side
  side_back side s =
      subst (λ (t : Settings). Front (side_length t) side (later b twos).side) same.settings s
      ∙ sym (subst (λ (t : Settings). Front (side_length t) (later a twos).side (later b twos).side) settings_later later_alike.lent.side)

  base_back : (base : List ℕ) → BaseNow b (later b twos) base → BaseNow a (later a twos) base
  base_back base d =
      subst (λ (t : Settings). Front (t.size * (reached a).state.end) base (later b twos).base) same.settings
      (subst (λ (t : State). Front (b.settings.size * t.end) base (later b twos).base) (sym alike.state) d)
      ∙ sym (front_take (base_length a.settings) (later a twos).base (later b twos).base
      (subst (λ (t : Settings). Front (base_length t) (later a twos).base (later b twos).base) settings_later later_alike.lent.base)
      (a.settings.size * (reached a).state.end) in_base_lem)
    where
      in_base_lem : a.settings.size * (reached a).state.end ≤ base_length a.settings
      in_base_lem =
          pages_in a.settings (reached a).state.end
          (subst (λ (t : Settings). (reached a).state.end ≤ t.capacity) (settings_reached a same.a_opens) g.ruled.facts.ended)

pub same_answers : SameAnswers
same_answers a b same ones twos la lb held₁ held₂ t₁ t₂ side₁ side₂ s₁ s₂ base₁ base₂ b₁ b₂ p offset n raw =
    lent_read a same.a_opens same.at_close ones la held₁ t₁ side₁ base₁ s₁ b₁ p offset n
    ∙ as_then a same.a_opens same.at_close ones la held₁ t₁ p offset n raw
    ∙ desk_held (reached a) (g a b same twos) held₁ held₂ (took a same.a_opens same.at_close ones la held₁ t₁) (took a same.a_opens same.at_close twos lag held₂ index) (reached a).side (reached a).base p offset n
    ∙ sym (as_then a same.a_opens same.at_close twos lag held₂ index p offset n raw)
    ∙ sym (lent_read a same.a_opens same.at_close twos lag held₂ index side₂ base₂ (side_back a b same twos side₂ s₂) (base_back a b same twos base₂ b₂) p offset n)
  where
    lag : WithinLag a twos
    lag = lag_back a b same twos lb

    index : HoldsIndex a held₂
    index = index_back a b same twos held₂ t₂
