-- Places after a close: the places of entries are not retired, what is retired was so by this close or before it, and a place
-- that a desk of an earlier tick may still read is neither given again nor forgotten while that tick is within the wait. The
-- last is why a desk's reads stay what they were. Assumes nothing.
use Rattle.std.specs.Prelude.{ℕ, ◌+◌, ◌<◌, ◌≤◌, ◌≡◌, Bool, not, ◌&&◌, ◌||◌, List, map, ◌⊎◌, leb, length}
use Rattle.std.proofs.Math.Path.{refl, ap}
use Rattle.std.proofs.Common.{◌∙◌, sym, inl, inr, arith, eqb-true, leb-true, le-leb}
use Rattle.std.proofs.Math.Bool.{true, false}
use Rattle.std.proofs.Math.Dec.{eqb}
use Rattle.lists.specs.Below.{below}
use Rattle.lists.specs.laws.Below.{every_from, all_from_lem}
use Rattle.lists.specs.laws.Bools.{not_both, and_left, or_right}
use Rattle.lists.specs.Scans.{Every, any_of, all_of}
use Rattle.lists.specs.laws.Scans.{every_map, every_all_of, any_none, none_any, any_stays}
use Rattle.units.specs.Ages.{reusable}
use Rattle.units.specs.laws.Ages.{reusable_late}
use Rattle.units.specs.Sizes.{top, entries, places, ledger_length}
use Rattle.units.specs.declared.Settings.{Settings}
use Rattle.sidefile.specs.Judge.{ascending, apart}
use Rattle.ledger.specs.declared.Entry.{Entry}
use Rattle.ledger.specs.View.{indexed, entries_in, retired, retired_at}
use Rattle.ledger.specs.Entries.{place_of, at}
use Rattle.ledger.specs.laws.Rowed.{Small}
use Rattle.ledger.specs.Rules.{retired_by}
use Rattle.ledger.specs.inner.Placed.{ledger_closed, given_up, resting, closed_entries, closed_retires, closed_rests, closed_frees, closed_since}
use Rattle.ledger.specs.laws.Ordered.{any_put}
use Rattle.ledger.specs.laws.Closing.{Closing, now, wait_of, may_take, gives, new_of, stays_of, later_of, IsNew, IsStay, free_place, new_facts, later_facts}

-- the ledger after a close
abbrev pub ledger_later : Closing → List ℕ
ledger_later c = ledger_closed c.settings (wait_of c) (now c) c.changed_in c.old c.ledger (later_of c)

-- a place that a desk of tick t may still read: an entry has it, or it was retired after t
abbrev pub Guarded : Settings → ℕ → List Entry → List ℕ → ℕ → Type 0
Guarded s t es ledger q = (any_of (at q) es ≡ true) ⊎ ((retired s ledger q ≡ true) × (t < (retired_at s ledger q).0))

module _ (c : Closing) where
  -- a place that was retired after t rests within the wait of t
  rests : (t q : ℕ) → (now c).0 ≤ t + wait_of c → (retired c.settings c.ledger q ≡ true) × (t < (retired_at c.settings c.ledger q).0)
      → resting c.settings (wait_of c) (now c) c.ledger q ≡ true
  rests t q k h = rw (h.0, reusable_late (wait_of c) t (retired_at c.settings c.ledger q) (now c) h.1 k)

  -- a guarded place is not given
  pub not_taken : (t q : ℕ) → (now c).0 ≤ t + wait_of c → Guarded c.settings t c.old c.ledger q → may_take c q ≡ true → ⊥
  not_taken t q k (inl a) m = not_both (any_of (at q) c.old) a (free_place c q m).0
  not_taken t q k (inr r) m = not_both (resting c.settings (wait_of c) (now c) c.ledger q) (rests t q k r) (free_place c q m).1

  pub not_given : (t q : ℕ) → (now c).0 ≤ t + wait_of c → Guarded c.settings t c.old c.ledger q → Every (λ e. place_of e ≡ q → ⊥) (new_of c)
  not_given t q k g = every_map (λ e n z. not_taken t q k g (ap (may_take c) (sym z) ∙ n.may)) (new_of c) (new_facts c)

  module _ (long : ledger_length c.settings ≤ length c.ledger) (few : length (later_of c) ≤ entries c.settings) where
    -- the entries are read back
    pub later_read : Every Small (later_of c) → entries_in (length (later_of c)) (ledger_later c) ≡ later_of c
    later_read small = closed_entries c.settings (wait_of c) (now c) c.changed_in c.old c.ledger long (later_of c) few small

    -- and it stays guarded
    pub guarded_later : (now c).0 ≤ top → (t q : ℕ) → q < places c.settings → t < (now c).0 → (now c).0 ≤ t + wait_of c
        → Guarded c.settings t c.old c.ledger q → Guarded c.settings t (later_of c) (ledger_later c) q
    guarded_later m t q h l k g = go (given_up (wait_of c) (now c) c.changed_in c.old q) refl g
      where
        go : (b : Bool) → given_up (wait_of c) (now c) c.changed_in c.old q ≡ b → Guarded c.settings t c.old c.ledger q
            → Guarded c.settings t (later_of c) (ledger_later c) q
        go true e a =
            let r = closed_retires c.settings (wait_of c) (now c) c.changed_in c.old c.ledger long (later_of c) few q h m e in
            inr (r.0, rw r.1 l)
        go false e (inl a) =
            inl (any_put (at q) (new_of c) (stays_of c) ∙ or_right (any_of (at q) (new_of c)) (any_of (at q) (stays_of c)) (any_stays (at q) (gives c) c.old a e))
        go false e (inr a) =
            let r = closed_rests c.settings (wait_of c) (now c) c.changed_in c.old c.ledger long (later_of c) few q h e (rests t q k a) in
            inr (r.0, rw r.1 a.1)

    -- no entry's place is retired
    pub unretired_later : ascending 0 (map indexed c.old) ≡ true → apart (map indexed c.old) ≡ true
        → Every (λ e. (place_of e < places c.settings) × (retired c.settings c.ledger (place_of e) ≡ false)) c.old
        → Every (λ e. retired c.settings (ledger_later c) (place_of e) ≡ false) (later_of c)
    unfolding at
    unretired_later a b old = every_map one (later_of c) (later_facts c a b old)
      where
        alone : (e : Entry) → IsStay c e → (y : Entry) → (place_of y ≡ place_of e → y ≡ e) → (at (place_of e) y && gives c y) ≡ false
        alone e s y h = go (eqb (place_of y) (place_of e)) refl
          where
            go : (b : Bool) → eqb (place_of y) (place_of e) ≡ b → (b && gives c y) ≡ false
            go false z = refl
            go true z = ap (gives c) (h (eqb-true (place_of y) (place_of e) z)) ∙ s.stays

        frees : (e : Entry) → place_of e < places c.settings → given_up (wait_of c) (now c) c.changed_in c.old (place_of e) ≡ false
            → resting c.settings (wait_of c) (now c) c.ledger (place_of e) ≡ false → retired c.settings (ledger_later c) (place_of e) ≡ false
        frees e = closed_frees c.settings (wait_of c) (now c) c.changed_in c.old c.ledger long (later_of c) few (place_of e)

        one : (e : Entry) → IsNew c e ⊎ (IsStay c e × ((place_of e < places c.settings) × (retired c.settings c.ledger (place_of e) ≡ false)))
            → retired c.settings (ledger_later c) (place_of e) ≡ false
        one e (inl n) =
            let f = free_place c (place_of e) n.may in
            frees e n.place_below
            (none_any (λ y. at (place_of e) y && gives c y) c.old (every_map (λ y k. and_left (at (place_of e) y) (gives c y) k) c.old (any_none (at (place_of e)) c.old f.0))) f.1
        one e (inr s) =
            frees e s.1.0 (none_any (λ y. at (place_of e) y && gives c y) c.old (every_map (alone e s.0) c.old s.0.alone))
            (and_left (retired c.settings c.ledger (place_of e)) (not (reusable (wait_of c) (retired_at c.settings c.ledger (place_of e)) (now c))) s.1.1)

    -- what is retired was retired by the closed tick
    pub retired_later : (now c).0 ≤ top → all_of (retired_by c.settings c.ledger c.closed) (below (places c.settings)) ≡ true
        → all_of (retired_by c.settings (ledger_later c) (now c)) (below (places c.settings)) ≡ true
    retired_later m old =
        every_all_of (retired_by c.settings (ledger_later c) (now c)) (λ q h. one q (omega arith) (retired c.settings (ledger_later c) q) refl)
        (below (places c.settings)) (every_from 0 (places c.settings))
      where
        by : (q : ℕ) → (retired_at c.settings (ledger_later c) q).0 ≤ (now c).0 → (not true || leb (retired_at c.settings (ledger_later c) q).0 (now c).0) ≡ true
        by q h = le-leb (retired_at c.settings (ledger_later c) q).0 (now c).0 h

        before : (q : ℕ) → q < places c.settings → retired c.settings c.ledger q ≡ true → (retired_at c.settings c.ledger q).0 ≤ c.closed.0
        before q h r =
            leb-true (retired_at c.settings c.ledger q).0 c.closed.0
            (rw r at (all_from_lem (retired_by c.settings c.ledger c.closed) 0 (places c.settings) q (omega arith) (omega arith) old))

        one : (q : ℕ) → q < places c.settings → (b : Bool) → retired c.settings (ledger_later c) q ≡ b
            → (not b || leb (retired_at c.settings (ledger_later c) q).0 (now c).0) ≡ true
        one q h false e = refl
        one q h true e = by q (go (closed_since c.settings (wait_of c) (now c) c.changed_in c.old c.ledger long (later_of c) few q h m e))
          where
            go : (retired_at c.settings (ledger_later c) q ≡ now c)
                ⊎ ((retired c.settings c.ledger q ≡ true) × (retired_at c.settings (ledger_later c) q ≡ retired_at c.settings c.ledger q))
                → (retired_at c.settings (ledger_later c) q).0 ≤ (now c).0
            go (inl z) = rw z (omega arith)
            go (inr z) = rw z.1 (omega (arith, before q h z.0))
