-- What became of each metadata page since a world w₀, while no tick beyond the lag of w₀ is closed: it was in the file then
-- and contains what it did, or it is changed, or its entry says a last change after the tick that was closed then. Every call
-- keeps that, and so do any number of them. Assumes nothing.
use Rattle.std.specs.Prelude.{ℕ, ◌+◌, ◌-◌, ◌<◌, ◌≤◌, ◌≡◌, Bool, true, false, get_or}
use Rattle.std.proofs.Math.Path.{refl, ap}
use Rattle.std.proofs.Common.{◌∙◌, sym, subst, arith}
use Rattle.std.proofs.Math.Bool.{not}
use mathlib.Core.List.{List, [], ◌∷◌}
use Rattle.std.proofs.Math.Option.{Option, some, none}
use Rattle.std.proofs.Math.Decide.{ℕ_discrete, dec_lt}
use Rattle.lists.specs.Bools.{if_then}
use Rattle.lists.specs.laws.Bools.{not_both, false_of}
use Rattle.lists.specs.Scans.{any_of}
use Rattle.lists.specs.laws.Scans.{first_none}
use Rattle.units.specs.laws.Ages.{leaves_late}
use Rattle.units.specs.Ages.{leaves}
use Rattle.units.specs.Sizes.{top, wait}
use Rattle.units.specs.declared.Tick.{Tick}
use Rattle.ledger.specs.laws.Aged.{goes_unchanged}
use Rattle.ledger.specs.laws.Closing.{new_of, later_of, gives, new_facts, changed_entry, find_later, find_unchanged}
use Rattle.ledger.specs.Entries.{page_of, has, find, is_leaving}
use Rattle.ledger.specs.laws.Ordered.{or_else, only, find_some}
use Rattle.ledger.specs.declared.Entry.{Entry}
use Rattle.recorder.specs.World.{World, wait_of, entries_of, kind_of}
use Rattle.recorder.specs.Calls.{read_reply, write_reply, grow_reply}
use Rattle.recorder.specs.Close.{open_tick, changed_in, changes, free_places, closed, suffices, close_reply}
use Rattle.recorder.specs.Runs.{Call, read, write, grow, close, reply, run}
use Rattle.promises.specs.worlds.Changing.{stays_read, stays_write, stays_grow, changed_write, changed_newer}
use Rattle.promises.specs.closes.CloseWay.{close_by}
use Rattle.recorder.specs.laws.Closed.{tick_closed, end_closed, kinds_closed, closing_of, after_later, enough, entries_closed}
use Rattle.promises.specs.closes.ClosedFiles.{contents_closed}
use Rattle.promises.specs.worlds.Good.{contents, Good, Kept, Quiet}
use Rattle.promises.specs.worlds.Growing.{good_grow, ending_grow, contents_grow_other}
use Rattle.promises.specs.worlds.Quieted.{quiet_read, quiet_write, quiet_grow, entries_quiet}
use Rattle.promises.specs.worlds.Reached.{good_reply, kept_reply, tick_run}
use Rattle.promises.specs.worlds.Reading.{contents_read, read_end}
use Rattle.promises.specs.worlds.Writing.{contents_write_other, write_refused, write_end}

pub data Since (w₀ : World) (p : ℕ) (w : World) : Type 0 where
  same : p < w₀.state.end → contents w p ≡ contents w₀ p → Since w₀ p w
  changing : changed_in w p ≡ true → Since w₀ p w
  noted : (e : Entry) → find p (entries_of w) ≡ some e → w₀.state.closed.0 < e.changed.0 → Since w₀ p w

-- every metadata page in the file
abbrev pub AllSince : World → World → Type 0
AllSince w₀ w = (p : ℕ) → p < w.state.end → kind_of w p ≡ 0 → Since w₀ p w

-- a read, a write or a grow that leaves the contents of the page
module _ (w₀ w v : World) (p : ℕ) (q : Quiet w v) (stays : changed_in w p ≡ true → changed_in v p ≡ true) (e : contents v p ≡ contents w p) where
  since_quiet : Since w₀ p w → Since w₀ p v
  since_quiet (same b h) = same b (e ∙ h)
  since_quiet (changing h) = changing (stays h)
  since_quiet (noted x f h) = noted x (ap (find p) (entries_quiet w v q) ∙ f) h

module _ (w₀ w : World) (g : Good w) (all : AllSince w₀ w) where
  since_read : (n offset : ℕ) (into : List ℕ) → AllSince w₀ (read_reply n offset into w).world
  since_read n offset into p b m =
      let q = quiet_read w g.ruled n offset into in
      let b' : p < w.state.end = rw (read_end w n offset into) at b in
      let m' : kind_of w p ≡ 0 = sym (q.kinds p b') ∙ m in
      since_quiet w₀ w (read_reply n offset into w).world p q (λ h. stays_read w g.ruled p b' h n offset into)
      (contents_read w g n offset into p b' m') (all p b' m')

  since_write : (n offset : ℕ) (bs : List ℕ) → AllSince w₀ (write_reply n offset bs w).world
  since_write n offset bs p b m = go (ℕ_discrete p n) (ℕ_discrete (write_reply n offset bs w).number 0)
    where
      q : Quiet w (write_reply n offset bs w).world
      q = quiet_write w g.ruled n offset bs

      b' : p < w.state.end
      b' = rw (write_end w n offset bs) at b

      m' : kind_of w p ≡ 0
      m' = sym (q.kinds p b') ∙ m

      go : Dec (p ≡ n) → Dec ((write_reply n offset bs w).number ≡ 0) → Since w₀ p (write_reply n offset bs w).world
      go (no z) a =
          since_quiet w₀ w (write_reply n offset bs w).world p q (λ h. stays_write w g.ruled p b' h n offset bs)
          (contents_write_other w g n offset bs p z b' m') (all p b' m')
      go (yes z) (yes a) =
          changing (ap (changed_in (write_reply n offset bs w).world) z ∙ changed_write w g.ruled n offset bs a (ap (kind_of w) (sym z) ∙ m'))
      go (yes z) (no a) = subst (AllSince w₀) (sym (write_refused w n offset bs a)) all p b m

  -- the new page is changed
  since_grow : (kind : ℕ) → AllSince w₀ (grow_reply kind w).world
  since_grow kind p b m = go (dec_lt p w.state.end)
    where
      go : Dec (p < w.state.end) → Since w₀ p (grow_reply kind w).world
      go (yes d) =
          let q = quiet_grow w g.ruled kind in
          let m' : kind_of w p ≡ 0 = sym (q.kinds p d) ∙ m in
          since_quiet w₀ w (grow_reply kind w).world p q (λ h. stays_grow w g.ruled p d h kind) (contents_grow_other w g kind p d m') (all p d m')
      go (no d) = changing (changed_newer (grow_reply kind w).world (good_grow w g kind) p (omega (arith, d, g.ended, ending_grow w g kind)) b m)

-- a close: a changed page gets an entry of this tick, and an entry of a tick after that of w₀ does not leave yet
module _ (w₀ w : World) (g : Good w) (since : w₀.state.closed.0 ≤ w.state.closed.0) (sf : suffices w ≡ true) (lt : w.state.closed.0 < top)
    (near : w.state.closed.0 + 1 ≤ w₀.state.closed.0 + w.state.settings.lag) (p : ℕ) (b : p < w.state.end) where
  -- an entry that is found afterwards
  noted_closed : (e : Entry) → find p (later_of (closing_of w)) ≡ some e → w₀.state.closed.0 < e.changed.0 → Since w₀ p (closed w)
  noted_closed e f h = noted e (ap (find p) (entries_closed w g.ruled sf lt ∙ after_later w) ∙ f) h

  changed_closed : changed_in w p ≡ true → Since w₀ p (closed w)
  unfolding changes free_places find
  changed_closed h = go (find p (new_of (closing_of w))) refl
    where
      go : (o : Option Entry) → find p (new_of (closing_of w)) ≡ o → Since w₀ p (closed w)
      go none e =
          absurd (not_both (any_of (has p) (new_of (closing_of w))) (changed_entry (closing_of w) (enough w sf).0 p b h) (first_none (has p) (new_of (closing_of w)) e))
      go (some x) e =
          let n = (find_some p (new_of (closing_of w)) x (new_facts (closing_of w)) e).1 in
          noted_closed x
          (find_later (closing_of w) g.ruled.facts.ascends p
          ∙ ap (λ (o : Option Entry). or_else o (only (λ y. not (gives (closing_of w) y)) (find p (entries_of w)))) e)
          (omega (arith, ap (λ (t : Tick). t.0) n.went))

  stays_closed : changed_in w p ≡ false → (e : Entry) → find p (entries_of w) ≡ some e → w₀.state.closed.0 < e.changed.0 → Since w₀ p (closed w)
  unfolding is_leaving wait
  stays_closed c e f h =
      noted_closed e
      (find_unchanged (closing_of w) g.ruled.facts.ascends p c ∙ ap (only (λ y. not (gives (closing_of w) y))) f ∙ ap (λ (b : Bool). if_then (not b) (some e) none) stays) h
    where
      found : (page_of e ≡ p) × (e.changed.0 ≤ w.state.closed.0)
      found = let r = find_some p (entries_of w) e g.ruled.facts.each f in (r.0, r.1.changed_before)

      unchanged : changed_in w (page_of e) ≡ false
      unchanged = ap (changed_in w) found.0 ∙ c

      stays : gives (closing_of w) e ≡ false
      stays =
          false_of (gives (closing_of w) e)
          (λ y. not_both (leaves (wait_of w) e.changed false (open_tick w))
          (ap (λ (b : Bool). leaves (wait_of w) e.changed b (open_tick w)) (sym unchanged) ∙ goes_unchanged (wait_of w) (changed_in w) e (open_tick w) y unchanged)
          (leaves_late (wait_of w) w₀.state.closed.0 e.changed (open_tick w) h (omega arith)))

  since_closed : Since w₀ p w → Since w₀ p (closed w)
  since_closed (same b₀ h) = same b₀ (contents_closed w g.ruled sf lt p ∙ h)
  since_closed (changing h) = changed_closed h
  since_closed (noted e f h) = go (changed_in w p) refl
    where
      go : (c : Bool) → changed_in w p ≡ c → Since w₀ p (closed w)
      go true c = changed_closed c
      go false c = stays_closed c e f h

since_close : (w₀ w : World) → Good w → Kept w₀ w → AllSince w₀ w
    → (close_reply w).world.state.closed.0 ≤ w₀.state.closed.0 + w₀.state.settings.lag
    → AllSince w₀ (close_reply w).world
since_close w₀ w g k all =
    close_by w (λ v. v.state.closed.0 ≤ w₀.state.closed.0 + w₀.state.settings.lag → AllSince w₀ v)
    (λ h. all)
    (λ c h p b m. since_closed w₀ w g k.since c.enough c.early
    (let z : w.state.closed.0 + 1 ≤ w₀.state.closed.0 + w₀.state.settings.lag = rw (tick_closed w) at h in
    rw k.same z)
    p (rw (end_closed w) at b) (all p (rw (end_closed w) at b) (ap (λ (ks : List ℕ). get_or ks p 0) (sym (kinds_closed w)) ∙ m)))

-- any call, and any number of them
module _ (w₀ : World) (g₀ : Good w₀) where
  since_reply : (c : Call) (w : World) → Good w → Kept w₀ w → AllSince w₀ w
      → (reply c w).world.state.closed.0 ≤ w₀.state.closed.0 + w₀.state.settings.lag
      → AllSince w₀ (reply c w).world
  unfolding reply
  since_reply (read n offset into) w g k all h = since_read w₀ w g all n offset into
  since_reply (write n offset bs) w g k all h = since_write w₀ w g all n offset bs
  since_reply (grow kind) w g k all h = since_grow w₀ w g all kind
  since_reply close w g k all h = since_close w₀ w g k all h

  pub since_run : (cs : List Call) (w : World) → Good w → Kept w₀ w → AllSince w₀ w
      → (run cs w).state.closed.0 ≤ w₀.state.closed.0 + w₀.state.settings.lag
      → AllSince w₀ (run cs w)
  unfolding run
  since_run [] w g k all h = all
  since_run (c ∷ cs) w g k all h =
      let v = (reply c w).world in
      let g' = good_reply c w g in
      let near : v.state.closed.0 ≤ w₀.state.closed.0 + w₀.state.settings.lag = omega (arith, tick_run cs v g') in
      since_run cs v g' (kept_reply w₀ g₀ c w g k near) (since_reply c w g k all near) h

pub since_self : (w : World) → AllSince w w
since_self w p b m = same b refl
