-- A list has the contents of the metadata pages (Holds), and every call keeps that: what the calls make of the starting base
-- is what the recorder has. Assumes nothing.
use Rattle.std.specs.Prelude.{ℕ, ◌+◌, ◌*◌, ◌<◌, ◌≤◌, ◌≡◌, refl, ◌&&◌, ◌⊎◌, get_or, replicate}
use Rattle.std.proofs.Common.{◌∙◌, inl, inr, arith}
use Rattle.std.proofs.Math.Path.{sym, ap, subst}
use mathlib.Core.List.{List, [], ◌∷◌}
use Rattle.std.proofs.Math.Decide.{ℕ_discrete, dec_lt}
use Rattle.std.proofs.Math.Dec.{eqb}
use Rattle.std.proofs.Math.ListN.{length}
use Rattle.std.proofs.lemmas.List.{length-replicate}
use borrow.Author.Tests.{eq-eqb, ne_eqb}
use Rattle.lists.specs.Bools.{if_then}
use Rattle.octets.specs.Part.{lay}
use Rattle.octets.specs.laws.Part.{length_lay}
use Rattle.octets.specs.Rows.{page}
use Rattle.units.specs.laws.Bounds.{limits_within}
use Rattle.units.specs.declared.Settings.{Settings}
use Rattle.slots.specs.laws.Moves.{no_slots_absent}
use Rattle.recorder.specs.laws.Asked.{Opens}
use Rattle.recorder.specs.World.{World, page_size, kind_of, metadata, base_bytes, slot_for}
use Rattle.recorder.specs.Calls.{open_state, opened, read_reply, write_reply, grow_reply}
use Rattle.recorder.specs.Close.{closed, close_reply}
use Rattle.recorder.specs.Runs.{Call, read, write, grow, close, reply, run, Recording, opening, made, made_by}
use Rattle.promises.specs.worlds.Good.{Good, Quiet, contents}
use Rattle.promises.specs.worlds.Frames.{span_here, span_other, page_here, page_other}
use Rattle.promises.specs.closes.CloseWay.{close_by}
use Rattle.recorder.specs.laws.Closed.{settings_closed, end_closed, kinds_closed}
use Rattle.promises.specs.closes.ClosedFiles.{contents_closed}
use Rattle.promises.specs.worlds.Contents.{contents_base}
use Rattle.promises.specs.worlds.Opened.{open_is, open_asked}
use Rattle.promises.specs.worlds.Quieted.{quiet_read, quiet_write, quiet_grow}
use Rattle.promises.specs.worlds.Reading.{contents_read, read_end}
use Rattle.promises.specs.worlds.Writing.{contents_write, contents_write_other, contents_write_raw, write_end, write_refused, write_span}
use Rattle.promises.specs.worlds.Growing.{contents_grow, contents_grow_other, grow_end, grow_kind, grow_refused, ruled_grow}
use Rattle.promises.specs.worlds.Reached.{good_reply}

-- xs has the contents of the metadata pages, one after the other as in a file
pub record Holds (w : World) (xs : List ℕ) : Type 0 where
  pub long : 0 + w.state.settings.capacity * page_size w ≤ length xs
  pub pages : (p : ℕ) → p < w.state.end → kind_of w p ≡ 0 → contents w p ≡ page (page_size w) p xs

-- a call that neither changes contents nor adds a page
same : (w v : World) (xs : List ℕ) → Holds w xs → v.state.settings ≡ w.state.settings → v.state.end ≡ w.state.end
    → ((p : ℕ) → p < w.state.end → kind_of v p ≡ kind_of w p)
    → ((p : ℕ) → p < w.state.end → kind_of w p ≡ 0 → contents v p ≡ contents w p)
    → Holds v xs
same w v xs h s e k c =
    record {
      long = rw s h.long;
      pages = λ p b m.
          let b' : p < w.state.end = rw e at b in
          let m' : kind_of w p ≡ 0 = sym (k p b') ∙ m in
          c p b' m' ∙ h.pages p b' m' ∙ ap (λ (P : ℕ). page P p xs) (ap (λ (t : Settings). t.size) (sym s));
    }

module _ (w : World) (g : Good w) (xs : List ℕ) (h : Holds w xs) where
  holds_read : (p offset : ℕ) (into : List ℕ) → Holds (read_reply p offset into w).world xs
  holds_read p offset into =
      let q = quiet_read w g.ruled p offset into in
      same w (read_reply p offset into w).world xs h q.settings (read_end w p offset into) q.kinds (contents_read w g p offset into)

  holds_close : Holds (close_reply w).world xs
  holds_close =
      close_by w (λ v. Holds v xs) h
      (λ c. same w (closed w) xs h (settings_closed w) (end_closed w) (λ p b. ap (λ (ks : List ℕ). get_or ks p 0) (kinds_closed w))
      (λ p b m. contents_closed w g.ruled c.enough c.early p))

  -- a write, by whether it is accepted and of a metadata page
  module _ (p offset : ℕ) (bs : List ℕ) where
    abbrev W : World
    W = (write_reply p offset bs w).world

    quiet : Quiet w W
    quiet = quiet_write w g.ruled p offset bs

    laid : List ℕ
    laid = lay xs (p * page_size w + offset) bs

    holds_laid : (write_reply p offset bs w).number ≡ 0 → kind_of w p ≡ 0 → Holds W laid
    unfolding laid
    holds_laid a m =
        let z = write_span w p offset bs a in
        let q = quiet in
        record {
          long =
              subst (λ (t : Settings). 0 + t.capacity * t.size ≤ length (lay xs (p * page_size w + offset) bs)) (sym q.settings)
              (rw (length_lay xs (p * page_size w + offset) bs) h.long);
          pages = λ r b k.
              let b' : r < w.state.end = rw (write_end w p offset bs) at b in
              let k' : kind_of w r ≡ 0 = sym (q.kinds r b') ∙ k in
              one r b' k' (ℕ_discrete r p) ∙ ap (λ (P : ℕ). page P r laid) (ap (λ (t : Settings). t.size) (sym q.settings));
        }
      where
        one : (r : ℕ) → r < w.state.end → kind_of w r ≡ 0 → Dec (r ≡ p) → contents W r ≡ page (page_size w) r (lay xs (p * page_size w + offset) bs)
        one r b k (yes e) =
            subst (λ (r : ℕ). r < w.state.end → contents W r ≡ page (page_size w) r (lay xs (p * page_size w + offset) bs)) (sym e)
            (λ b. contents_write w g.ruled p offset bs a m ∙ ap (λ (ys : List ℕ). lay ys offset bs) (h.pages p b m) ∙ sym (span_here (page_size w) p offset xs bs)) b
        one r b k (no ne) =
            contents_write_other w g p offset bs r ne b k
            ∙ h.pages r b k
            ∙ sym (span_other (page_size w) p offset xs bs (write_span w p offset bs a).inside r ne)

    holds_raw : (kind_of w p ≡ 0 → ⊥) → Holds W xs
    holds_raw m = let q = quiet in same w W xs h q.settings (write_end w p offset bs) q.kinds (contents_write_raw w g p offset bs m)

    holds_write : Holds W (made (write p offset bs) w xs)
    unfolding made laid
    holds_write = go (ℕ_discrete (write_reply p offset bs w).number 0) (ℕ_discrete (kind_of w p) 0)
      where
        go : Dec ((write_reply p offset bs w).number ≡ 0) → Dec (kind_of w p ≡ 0)
            → Holds W (if_then (eqb (write_reply p offset bs w).number 0 && metadata w p) (lay xs (p * page_size w + offset) bs) xs)
        go (yes a) (yes m) = rw (eq-eqb (write_reply p offset bs w).number 0 a, eq-eqb (kind_of w p) 0 m) (holds_laid a m)
        go (yes a) (no m) = rw (eq-eqb (write_reply p offset bs w).number 0 a, ne_eqb (kind_of w p) 0 m) (holds_raw m)
        go (no a) m = rw (ne_eqb (write_reply p offset bs w).number 0 a) (subst (λ (v : World). Holds v xs) (sym (write_refused w p offset bs a)) h)

  -- a grow, by whether it is accepted and of which kind
  module _ (kind : ℕ) where
    abbrev G : World
    G = (grow_reply kind w).world

    grown : Quiet w G
    grown = quiet_grow w g.ruled kind

    -- a page below the new end is an old one, or the new one
    old_or_new : (grow_reply kind w).number ≡ 0 → (r : ℕ) → r < G.state.end → Dec (r < w.state.end) → (r < w.state.end) ⊎ (r ≡ w.state.end)
    old_or_new a r b (yes z) = inl z
    old_or_new a r b (no z) = inr (omega (arith, z, grow_end w kind a))

    sized : (r : ℕ) (ys : List ℕ) → page (page_size w) r ys ≡ page (page_size G) r ys
    sized r ys = ap (λ (t : Settings). page t.size r ys) (sym grown.settings)

    room : (ys : List ℕ) → length ys ≡ length xs → 0 + G.state.settings.capacity * page_size G ≤ length ys
    room ys l = subst (λ (t : Settings). 0 + t.capacity * t.size ≤ length ys) (sym grown.settings) (omega (arith, l, h.long))

    holds_added : (grow_reply kind w).number ≡ 0 → kind ≡ 0 → Holds G (lay xs (w.state.end * page_size w) (replicate (page_size w) 0))
    holds_added a m =
        record {
          long = room ys (length_lay xs (w.state.end * page_size w) (replicate (page_size w) 0));
          pages = λ r b k. go r k (old_or_new a r b (dec_lt r w.state.end)) ∙ sized r ys;
        }
      where
        ys : List ℕ
        ys = lay xs (w.state.end * page_size w) (replicate (page_size w) 0)

        below : w.state.end < w.state.settings.capacity
        below = omega (arith, (ruled_grow w g.ruled kind).facts.ended, grow_end w kind a, ap (λ (t : Settings). t.capacity) grown.settings)

        go : (r : ℕ) → kind_of G r ≡ 0 → (r < w.state.end) ⊎ (r ≡ w.state.end) → contents G r ≡ page (page_size w) r ys
        go r k (inl b) =
            let k' : kind_of w r ≡ 0 = sym (grown.kinds r b) ∙ k in
            contents_grow_other w g kind r b k' ∙ h.pages r b k'
            ∙ sym (page_other (page_size w) xs w.state.settings.capacity h.long w.state.end (replicate (page_size w) 0) (length-replicate (page_size w) 0) r (λ e. omega arith))
        go r k (inr e) =
            ap (contents G) e ∙ contents_grow w g.ruled kind a m
            ∙ sym (page_here (page_size w) xs w.state.settings.capacity h.long w.state.end (replicate (page_size w) 0) (length-replicate (page_size w) 0) below)
            ∙ ap (λ (r : ℕ). page (page_size w) r ys) (sym e)

    holds_raised : (grow_reply kind w).number ≡ 0 → (kind ≡ 0 → ⊥) → Holds G xs
    holds_raised a m =
        record {
          long = room xs refl;
          pages = λ r b k. go r k (old_or_new a r b (dec_lt r w.state.end)) ∙ sized r xs;
        }
      where
        go : (r : ℕ) → kind_of G r ≡ 0 → (r < w.state.end) ⊎ (r ≡ w.state.end) → contents G r ≡ page (page_size w) r xs
        go r k (inl b) = let k' : kind_of w r ≡ 0 = sym (grown.kinds r b) ∙ k in contents_grow_other w g kind r b k' ∙ h.pages r b k'
        go r k (inr e) = absurd (m (sym (grow_kind w g.ruled kind a) ∙ ap (kind_of G) (sym e) ∙ k))

    holds_grow : Holds G (made (grow kind) w xs)
    unfolding made
    holds_grow = go (ℕ_discrete (grow_reply kind w).number 0) (ℕ_discrete kind 0)
      where
        go : Dec ((grow_reply kind w).number ≡ 0) → Dec (kind ≡ 0)
            → Holds G (if_then (eqb (grow_reply kind w).number 0 && eqb kind 0) (lay xs (w.state.end * page_size w) (replicate (page_size w) 0)) xs)
        go (yes a) (yes m) = rw (eq-eqb (grow_reply kind w).number 0 a, eq-eqb kind 0 m) (holds_added a m)
        go (yes a) (no m) = rw (eq-eqb (grow_reply kind w).number 0 a, ne_eqb kind 0 m) (holds_raised a m)
        go (no a) m = rw (ne_eqb (grow_reply kind w).number 0 a) (subst (λ (v : World). Holds v xs) (sym (grow_refused w kind a)) h)

-- any call, and any number of them
pub holds_reply : (c : Call) (w : World) → Good w → (xs : List ℕ) → Holds w xs → Holds (reply c w).world (made c w xs)
unfolding reply made
holds_reply (read p offset into) w g xs h = holds_read w g xs h p offset into
holds_reply (write p offset bs) w g xs h = holds_write w g xs h p offset bs
holds_reply (grow kind) w g xs h = holds_grow w g xs h kind
holds_reply close w g xs h = holds_close w g xs h

pub holds_run : (cs : List Call) (w : World) → Good w → (xs : List ℕ) → Holds w xs → Holds (run cs w) (made_by cs w xs)
unfolding run made_by
holds_run [] w g xs h = h
holds_run (c ∷ cs) w g xs h = holds_run cs (reply c w).world (good_reply c w g) (made c w xs) (holds_reply c w g xs h)

-- after open, what the starting base has
holds_opened : (s : Settings) (end B : ℕ) (w : World) → Opens s end B w → Holds (opened s end B w) w.base
unfolding opened open_state base_bytes slot_for
holds_opened s end B w o =
    let n = limits_within s o.limited in
    record {
      long = o.lengths.base_long;
      pages = λ p b m. contents_base (opened s end B w) p (no_slots_absent s.slots p n.slots_most (omega (arith, o.ended, n.capacity_most, b)));
    }

pub holds_opening : (r : Recording) → (opening r).number ≡ 0 → Holds (opening r).world r.lent.base
unfolding opening
holds_opening r a =
    let o = open_asked r.settings r.end r.tick r.lent a in
    subst (λ (w : World). Holds w r.lent.base) (sym (open_is r.settings r.end r.tick r.lent a)) (holds_opened r.settings r.end r.tick r.lent o)
