-- The replies of open, read, write and grow, by where the code returns: what the code's parts say of state, slices and slot goes
-- in, and out comes the reply. Assumes nothing.
use Prim.Native.Nat.{ℕ, ◌+◌, ◌*◌}
use mathlib.Core.Path.{◌≡◌, refl, ◌∙◌, sym, ap}
use mathlib.Core.Bool.{true, false}
use mathlib.Core.List.{List, [], ◌++◌}
use mathlib.Core.Option.{Option, some, none}
use lib.Dec.{eqb}
use lib.ListN.{length, get_or, set, replicate}
use Rattle.std.specs.Prelude.{Some, None}
use Rattle.octets.specs.Part.{lay}
use Rattle.octets.specs.Rows.{page}
use Rattle.units.specs.Ages.{tick}
use Rattle.units.specs.Refusals.{code, no_slot}
use Rattle.units.specs.Sizes.{ledger_length}
use Rattle.units.specs.Tests.{verdict}
use Rattle.units.specs.laws.Tests.{tested_passes, refused_by}
use Rattle.units.specs.declared.Settings.{Settings}
use Rattle.units.specs.declared.refusal.Refusal.{Refusal}
use Rattle.sidefile.specs.Encode.{header_for, index_bytes}
use Rattle.slots.specs.inner.Answers.{seating}
use Rattle.slots.specs.inner.Asked.{seat_table}
use Rattle.slots.specs.Table.{Seat}
use Rattle.slots.specs.declared.seats.Seat as Code
use Rattle.slots.specs.declared.Slots.{Slots}
use Rattle.recorder.specs.Calls.{open_state, open_tests, opened, open_reply, unclean, Found, hit, miss, nowhere, found_in, found, hit_world, miss_world, meta_bypass, raw_bypass, span_in, laid_in, read_found, read_reply, written, write_found, write_reply, grown, zero_page, grow_seated, grow_reply, seat_for}
use Rattle.recorder.specs.Outcome.{lent}
use Rattle.recorder.specs.inner.Kinds.{number_of}
use Rattle.recorder.specs.inner.Tests.{access_tests, growth_tests}
use Rattle.recorder.specs.inner.Using.{use_of, slot_in, Seated, Chosen, used_state, changed_state, seated_state, brought_to}
use Rattle.recorder.specs.World.{World, refuse, accept, set_state, set_end, set_slots, set_meta, set_ledger, set_base, set_side, set_buffer, set_kinds, add_miss, zero_state, page_size, slot_count, metadata, slot_for, base_bytes}
use Rattle.recorder.specs.declared.State.{State}
use Rattle.recorder.specs.declared.buffer.Use.{Use}
use Rattle.recorder.specs.declared.buffer.Use.TheVariants.{Taken}
use Rattle.recorder.specs.declared.kinds.Kind.TheVariants.{Metadata, Raw}
use Rattle.recorder.proofs.Accepted.{Access, Growth, Opening}
use Rattle.recorder.proofs.Bringing.{alone, found_alone, seat_alone}
use Rattle.recorder.proofs.Testing.{code_some}

same : {A : Type 0} {a b : A} → Some a ≡ Some b → a ≡ b
same e = cc

-- a metadata page used, by the code's answer u of it
module _ (w : World) (p : ℕ) where
  abbrev used_world : Use → World
  used_world u =
      set_state (used_state u p w.state)
      (set_buffer (brought_to u (page_size w) (page (page_size w) p w.base) w.buffer) w)

  missed : (x : Seat) → seat_for w p ≡ some x → used_world (Taken (record { slot = x.slot; evicts = x.evicts })) ≡ miss_world w p x
  unfolding miss_world base_bytes
  missed x e =
      ap (λ (t : Slots). set_state (set_slots t (set_meta (add_miss x.evicts w.state.meta) w.state)) (set_buffer (lay w.buffer (x.slot * page_size w) (base_bytes w p)) w))
      (sym (seat_table (slot_count w) (unclean w) p w.state.slots x e))

  module _ (u : Use) (c : Chosen (alone w) p (Some u)) where
    read_by : (offset n : ℕ) → accept (used_world u) (span_in (page_size w) (used_world u).buffer (slot_in u) offset n) ≡ read_found w p offset n (found w p)
    unfolding found found_in read_found hit_world
    read_by offset n = go (slot_for w p) (seat_for w p) refl (c.is ∙ ap use_of (found_alone w p))
      where
        go : (o : Option ℕ) (q : Option Seat) → seat_for w p ≡ q → Some u ≡ use_of (found_in o q)
            → accept (used_world u) (span_in (page_size w) (used_world u).buffer (slot_in u) offset n) ≡ read_found w p offset n (found_in o q)
        go (some i) q f e = rw (same e)
        go none (some x) f e = rw (same e) (ap (λ (v : World). accept v (span_in (page_size w) v.buffer x.slot offset n)) (missed x f))
        go none none f e = let z : ⊥ = cc in absurd z

    write_by : (offset : ℕ) (bs : List ℕ) → accept (written (used_world u) (slot_in u) offset bs) bs ≡ write_found w p offset bs (found w p)
    unfolding found found_in write_found hit_world
    write_by offset bs = go (slot_for w p) (seat_for w p) refl (c.is ∙ ap use_of (found_alone w p))
      where
        go : (o : Option ℕ) (q : Option Seat) → seat_for w p ≡ q → Some u ≡ use_of (found_in o q)
            → accept (written (used_world u) (slot_in u) offset bs) bs ≡ write_found w p offset bs (found_in o q)
        go (some i) q f e = rw (same e)
        go none (some x) f e = rw (same e) (ap (λ (v : World). accept (written v x.slot offset bs) bs) (missed x f))
        go none none f e = let z : ⊥ = cc in absurd z

  nowhere_found : Chosen (alone w) p None → found w p ≡ nowhere
  nowhere_found c = go (found w p) (c.is ∙ ap use_of (found_alone w p))
    where
      go : (f : Found) → None ≡ use_of f → f ≡ nowhere
      go (hit i) e = let z : ⊥ = cc in absurd z
      go (miss x) e = let z : ⊥ = cc in absurd z
      go nowhere e = refl

-- the page's kind
module _ (w : World) (p : ℕ) where
  is_raw : number_of Raw ≡ get_or w.kinds p 0 → metadata w p ≡ false
  is_raw e = ap (λ (n : ℕ). eqb n 0) (sym e)

  is_metadata : number_of Metadata ≡ get_or w.kinds p 0 → metadata w p ≡ true
  is_metadata e = ap (λ (n : ℕ). eqb n 0) (sym e)

-- read
module _ (w : World) (p offset : ℕ) (into : List ℕ) where
  pub read_refused : (r : Refusal) → code r ≡ verdict (access_tests w p offset (length into)) → refuse w into (code r) ≡ read_reply p offset into w
  unfolding read_reply
  read_refused r e = sym (refused_by (refuse w into) _ (access_tests w p offset (length into)) (code r) e (code_some r))

  module _ (a : Access w p offset (length into)) where
    pub read_raw : number_of Raw ≡ get_or w.kinds p 0
        → (s : State) → s ≡ (raw_bypass (lent w.state [] [] [] [] [])).state
        → (x : List ℕ) → x ≡ span_in (page_size w) w.base p offset (length into)
        → accept (set_state s w) x ≡ read_reply p offset into w
    unfolding raw_bypass read_reply
    read_raw m s e x f = sym (tested_passes (refuse w into) _ (access_tests w p offset (length into)) a.passed ∙ rw (is_raw w p m, e, f))

    module _ (m : number_of Metadata ≡ get_or w.kinds p 0) where
      meta_read : read_reply p offset into w ≡ read_found w p offset (length into) (found w p)
      unfolding read_reply
      meta_read = tested_passes (refuse w into) _ (access_tests w p offset (length into)) a.passed ∙ rw (is_metadata w p m)

      pub read_nowhere : Chosen (alone w) p None
          → (s : State) → s ≡ (meta_bypass (lent w.state [] [] [] [] [])).state
          → (x : List ℕ) → x ≡ span_in (page_size w) w.base p offset (length into)
          → accept (set_state s w) x ≡ read_reply p offset into w
      unfolding meta_bypass read_found
      read_nowhere c s e x f = cc (ap (read_found w p offset (length into)) (nowhere_found w p c), meta_read)

      pub read_used : (u : Use) → Chosen (alone w) p (Some u)
          → (s : State) → s ≡ used_state u p w.state
          → (b : List ℕ) → b ≡ brought_to u (page_size w) (page (page_size w) p w.base) w.buffer
          → (i : ℕ) → i ≡ slot_in u → (x : List ℕ) → x ≡ span_in (page_size w) b i offset (length into)
          → accept (set_state s (set_buffer b w)) x ≡ read_reply p offset into w
      read_used u c s e b f i h x g = cc (read_by w p u c offset (length into), meta_read)

-- write
module _ (w : World) (p offset : ℕ) (bs : List ℕ) where
  pub write_refused : (r : Refusal) → code r ≡ verdict (access_tests w p offset (length bs)) → refuse w bs (code r) ≡ write_reply p offset bs w
  unfolding write_reply
  write_refused r e = sym (refused_by (refuse w bs) _ (access_tests w p offset (length bs)) (code r) e (code_some r))

  module _ (a : Access w p offset (length bs)) where
    pub write_raw : number_of Raw ≡ get_or w.kinds p 0
        → (s : State) → s ≡ (raw_bypass (lent w.state [] [] [] [] [])).state
        → (x : List ℕ) → x ≡ laid_in (page_size w) w.base p offset bs
        → accept (set_state s (set_base x w)) bs ≡ write_reply p offset bs w
    unfolding raw_bypass write_reply
    write_raw m s e x f = sym (tested_passes (refuse w bs) _ (access_tests w p offset (length bs)) a.passed ∙ rw (is_raw w p m, e, f))

    module _ (m : number_of Metadata ≡ get_or w.kinds p 0) where
      meta_write : write_reply p offset bs w ≡ write_found w p offset bs (found w p)
      unfolding write_reply
      meta_write = tested_passes (refuse w bs) _ (access_tests w p offset (length bs)) a.passed ∙ rw (is_metadata w p m)

      pub write_nowhere : Chosen (alone w) p None → refuse w bs no_slot ≡ write_reply p offset bs w
      unfolding write_found
      write_nowhere c = cc (ap (write_found w p offset bs) (nowhere_found w p c), meta_write)

      pub write_used : (u : Use) → Chosen (alone w) p (Some u)
          → (i : ℕ) → i ≡ slot_in u → (s : State) → s ≡ changed_state i (used_state u p w.state)
          → (b : List ℕ) → b ≡ brought_to u (page_size w) (page (page_size w) p w.base) w.buffer
          → (x : List ℕ) → x ≡ laid_in (page_size w) b i offset bs
          → accept (set_state s (set_buffer x w)) bs ≡ write_reply p offset bs w
      unfolding written
      write_used u c i h s e b f x g = cc (write_by w p u c offset bs, meta_write)

-- grow
module _ (w : World) (kind : ℕ) where
  pub grow_refused : (r : Refusal) → code r ≡ verdict (growth_tests w kind) → refuse w [] (code r) ≡ grow_reply kind w
  unfolding grow_reply
  grow_refused r e = sym (refused_by (refuse w []) _ (growth_tests w kind) (code r) e (code_some r))

  module _ (g : Growth w kind) where
    pub grow_raw : number_of Raw ≡ kind
        → (s : State) → s ≡ set_end (w.state.end + 1) w.state
        → (x : List ℕ) → x ≡ lay w.base (w.state.end * page_size w) (zero_page w)
        → accept (set_state s (set_kinds (set w.kinds w.state.end 1) (set_base x w))) [] ≡ grow_reply kind w
    unfolding grown grow_reply
    grow_raw k s e x f = sym (tested_passes (refuse w []) _ (growth_tests w kind) g.passed ∙ rw (ap (λ (n : ℕ). eqb n 0) (sym k), e, f))

    module _ (k : number_of Metadata ≡ kind) where
      meta_grow : grow_reply kind w ≡ grow_seated w (seat_for w w.state.end)
      unfolding grow_reply
      meta_grow = tested_passes (refuse w []) _ (growth_tests w kind) g.passed ∙ rw (ap (λ (n : ℕ). eqb n 0) (sym k))

      -- by the seat of page e
      pub grow_nowhere : Seated (alone w) w.state.end None → refuse w [] no_slot ≡ grow_reply kind w
      unfolding grow_seated
      grow_nowhere c = go (seat_for w w.state.end) (c.is ∙ ap seating (seat_alone w w.state.end)) ∙ sym meta_grow
        where
          go : (o : Option Seat) → None ≡ seating o → refuse w [] no_slot ≡ grow_seated w o
          go none e = refl
          go (some x) e = let z : ⊥ = cc in absurd z

      pub grow_taken : (x : Code.Seat) → Seated (alone w) w.state.end (Some x)
          → (s : State) → s ≡ seated_state x w.state
          → (b : List ℕ) → b ≡ lay w.buffer (x.slot * page_size w) (zero_page w)
          → accept (set_state s (set_buffer b (set_kinds (set w.kinds w.state.end 0) w))) [] ≡ grow_reply kind w
      unfolding grow_seated grown
      grow_taken x c s e b f = rw (e, f) (go (seat_for w w.state.end) refl (c.is ∙ ap seating (seat_alone w w.state.end)) ∙ sym meta_grow)
        where
          go : (o : Option Seat) → seat_for w w.state.end ≡ o → Some x ≡ seating o
              → accept (set_state (seated_state x w.state) (set_buffer (lay w.buffer (x.slot * page_size w) (zero_page w)) (set_kinds (set w.kinds w.state.end 0) w))) [] ≡ grow_seated w o
          go none h e = let z : ⊥ = cc in absurd z
          go (some y) h e = rw (same e) (cc (seat_table (slot_count w) (unclean w) w.state.end w.state.slots y h))

-- open
module _ (s : Settings) (end B : ℕ) (w : World) where
  pub open_refused : (r : Refusal) → code r ≡ verdict (open_tests s end B w) → refuse (set_state zero_state w) [] (code r) ≡ open_reply s end B w
  unfolding open_reply
  open_refused r e = sym (refused_by (refuse (set_state zero_state w) []) _ (open_tests s end B w) (code r) e (code_some r))

  open_passed : Opening s end B w → open_reply s end B w ≡ accept (opened s end B w) []
  unfolding open_reply
  open_passed o = tested_passes (refuse (set_state zero_state w) []) _ (open_tests s end B w) o.passed

  pub open_done : Opening s end B w → (z : State) → z ≡ open_state s end B
      → (n : ℕ) → n ≡ ledger_length s → (l : List ℕ) → l ≡ lay w.ledger 0 (replicate n 0)
      → (x : List ℕ) → x ≡ lay w.side 0 (header_for s (tick B) end [] ++ index_bytes s [])
      → accept (set_state z (set_ledger l (set_side x w))) [] ≡ open_reply s end B w
  unfolding opened
  open_done o z f n m l g x h = cc (open_passed o)
