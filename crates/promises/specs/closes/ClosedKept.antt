-- A close keeps what an earlier close still has, within the lag of it: an entry's place is guarded, so that no new entry takes
-- it, and a page that had no entry then is not yet written to the base. Assumes nothing.
use Rattle.std.specs.Prelude.{ℕ, ◌+◌, ◌<◌, ◌≤◌, ◌≡◌, true, false}
use Rattle.std.proofs.Common.{◌∙◌, sym, arith, eqb-true}
use Rattle.std.proofs.Math.Path.{subst}
use mathlib.Core.List.{List}
use Rattle.lists.specs.Scans.{Every, any_of}
use Rattle.lists.specs.laws.Scans.{any_some}
use Rattle.units.specs.Sizes.{top, wait, places}
use Rattle.units.specs.declared.Settings.{Settings}
use Rattle.ledger.specs.laws.Closing.{entered_later}
use Rattle.ledger.specs.laws.Due.{due_later}
use Rattle.ledger.specs.Entries.{page_of, place_of, has, at}
use Rattle.ledger.specs.laws.Guarded as Guards
use Rattle.ledger.specs.laws.Guarded.{not_given, guarded_later}
use Rattle.ledger.specs.declared.Entry.{Entry}
use Rattle.recorder.specs.Close.{open_tick, changes, free_places, given, fresh_entries, staying, after, ledger_after, closed, suffices}
use Rattle.recorder.specs.World.{World, wait_of, entries_of, kind_of, base_bytes, image_bytes}
use Rattle.recorder.specs.laws.Closed.{base_length_closed, side_length_closed, closing_of, fresh_new, after_later, due_of_lem, enough, entries_closed}
use Rattle.promises.specs.closes.ClosedFiles.{image_other, base_other}
use Rattle.promises.specs.worlds.Good.{Good, Kept, Guarded}

module _ (w₀ w : World) (g₀ : Good w₀) (g : Good w) (k : Kept w₀ w) (sf : suffices w ≡ true) (lt : w.state.closed.0 < top)
    (near : w.state.closed.0 + 1 ≤ w₀.state.closed.0 + w.state.settings.lag) where
  near_wait : (open_tick w).0 ≤ w₀.state.closed.0 + wait_of w
  unfolding wait
  near_wait = near

  place_below : (q : ℕ) → any_of (at q) (entries_of w₀) ≡ true → q < places w.state.settings
  unfolding at
  place_below q a =
      let e = any_some (at q) (entries_of w₀) g₀.ruled.facts.each a in
      subst (λ (s : Settings). q < places s) (sym k.same)
      (subst (λ (j : ℕ). j < places w₀.state.settings) (eqb-true (place_of e.0) q e.1) e.2.place_below)

  image_kept : (q : ℕ) → any_of (at q) (entries_of w₀) ≡ true → image_bytes (closed w) q ≡ image_bytes w q
  image_kept q a =
      image_other w g.ruled sf lt q (rw (fresh_new w) (not_given (closing_of w) w₀.state.closed.0 q near_wait (k.places q a)))

  place_kept : (q : ℕ) → any_of (at q) (entries_of w₀) ≡ true → Guarded w₀.state.closed.0 (closed w) q
  unfolding closed ledger_after after fresh_entries given changes free_places staying
  place_kept q a =
      subst (λ (es : List Entry). Guards.Guarded w.state.settings w₀.state.closed.0 es (closed w).ledger q) (sym (entries_closed w g.ruled sf lt))
      (guarded_later (closing_of w) g.ruled.facts.ledger_long (enough w sf).1 (omega arith) w₀.state.closed.0 q (place_below q a) (omega (arith, k.since)) near_wait
      (k.places q a))

  module _ (p : ℕ) (b : p < w₀.state.end) (m : kind_of w₀ p ≡ 0) (n : any_of (has p) (entries_of w₀) ≡ false) where
    entered_kept : Every (λ e. page_of e ≡ p → w₀.state.closed.0 < e.entered.0) (after w)
    entered_kept = rw (after_later w) (entered_later (closing_of w) w₀.state.closed.0 p (omega (arith, k.since)) (k.entered p b m n))

    page_kept : base_bytes (closed w) p ≡ base_bytes w p
    page_kept =
        base_other w g.ruled sf lt p
        (rw (due_of_lem w) (due_later (closing_of w) w₀.state.closed.0 p (omega (arith, k.since)) near_wait (k.entered p b m n)))

  pub kept_closed : Kept w₀ (closed w)
  unfolding closed
  kept_closed =
      record {
        same = k.same;
        since = omega (arith, k.since);
        ends = k.ends;
        kinds = k.kinds;
        images = λ q a. image_kept q a ∙ k.images q a;
        places = place_kept;
        pages = λ p b m n. page_kept p b m n ∙ k.pages p b m n;
        entered =
            λ p b m n.
            subst (λ (es : List Entry). Every (λ e. page_of e ≡ p → w₀.state.closed.0 < e.entered.0) es) (sym (entries_closed w g.ruled sf lt)) (entered_kept p b m n);
        base_length_lem = base_length_closed w ∙ k.base_length_lem;
        side_length_lem = side_length_closed w ∙ k.side_length_lem;
      }
