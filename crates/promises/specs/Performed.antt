-- From code to promise. A contract of the recorder says of one call: the answer with the lent slices at exit is the reply of
-- the definitions to the state and the slices that were given (recorder/Outcome: answered, lent). Here calls are made one after
-- the other, each on the state and the slices that the last one left, and nothing is known of their results but those
-- contracts. Such a sequence is the run of the definitions; so what the promises say of runs holds of what the code does.
-- The desk's contracts are equations to desk_read, take_reply and refresh_reply, of which the promises speak. Assumes nothing.
use Rattle.std.specs.Prelude.{ℕ, ◌+◌, ◌<◌, ◌≤◌, ◌≡◌, refl, List, [], ◌∷◌}
use Rattle.std.proofs.Common.{◌∙◌, sym, ap, subst}
use Rattle.recorder.specs.World.{World, Reply, kind_of}
use Rattle.recorder.specs.Calls.{open_reply, read_reply, write_reply, grow_reply}
use Rattle.recorder.specs.Close.{close_reply}
use Rattle.recorder.specs.Outcome.{lent, answered}
use Rattle.recorder.specs.Runs.{Call, read, write, grow, close, reply, run, Recording, opening, reached}
use Rattle.recorder.specs.declared.Answer.{Answer}
use Rattle.recorder.specs.declared.State.{State}
use Rattle.desk.specs.Read as Desk
use Rattle.promises.specs.Demand.{AtClose, SameUpToClose, WithinLag, HoldsIndex, SideNow, BaseNow, RawThen, BytesThen, later}
use Rattle.promises.specs.closes.Demanded.{same_answers, held_then}
use Rattle.promises.specs.Refused.{refused_same}

-- what a call leaves: its answer, the five slices and the caller's own slice at exit
pub record Result : Type 0 where
  pub answer : Answer
  pub ledger : List ℕ
  pub base : List ℕ
  pub side : List ℕ
  pub buffer : List ℕ
  pub kinds : List ℕ
  pub bytes : List ℕ

abbrev pub reply_of : Result → Reply
reply_of r = answered r.answer r.ledger r.base r.side r.buffer r.kinds r.bytes

-- the world that the next call is given
abbrev pub left_by : Result → World
left_by r = (reply_of r).world

-- a result that the contract of a call allows
abbrev pub Allows : Call → World → Result → Type 0
Allows c w r = reply_of r ≡ reply c w

-- The contracts of the four calls, word for word, are this one. A slice that a call only reads is at exit what it was.
module _ (s : State) (ledger base side buffer kinds : List ℕ) (a : Answer) where
  pub read_allows : (p offset : ℕ) (into : List ℕ) (buffer' into' : List ℕ)
      → answered a ledger base side buffer' kinds into' ≡ read_reply p offset into (lent s ledger base side buffer kinds)
      → Allows (read p offset into) (lent s ledger base side buffer kinds)
      (record { answer = a; ledger = ledger; base = base; side = side; buffer = buffer'; kinds = kinds; bytes = into' })
  unfolding reply
  read_allows p offset into buffer' into' e = e

  pub write_allows : (p offset : ℕ) (bs : List ℕ) (base' buffer' : List ℕ)
      → answered a ledger base' side buffer' kinds bs ≡ write_reply p offset bs (lent s ledger base side buffer kinds)
      → Allows (write p offset bs) (lent s ledger base side buffer kinds)
      (record { answer = a; ledger = ledger; base = base'; side = side; buffer = buffer'; kinds = kinds; bytes = bs })
  unfolding reply
  write_allows p offset bs base' buffer' e = e

  pub grow_allows : (kind : ℕ) (base' buffer' kinds' : List ℕ)
      → answered a ledger base' side buffer' kinds' [] ≡ grow_reply kind (lent s ledger base side buffer kinds)
      → Allows (grow kind) (lent s ledger base side buffer kinds)
      (record { answer = a; ledger = ledger; base = base'; side = side; buffer = buffer'; kinds = kinds'; bytes = [] })
  unfolding reply
  grow_allows kind base' buffer' kinds' e = e

  pub close_allows : (ledger' base' side' : List ℕ)
      → answered a ledger' base' side' buffer kinds [] ≡ close_reply (lent s ledger base side buffer kinds)
      → Allows close (lent s ledger base side buffer kinds)
      (record { answer = a; ledger = ledger'; base = base'; side = side'; buffer = buffer; kinds = kinds; bytes = [] })
  unfolding reply
  close_allows ledger' base' side' e = e

-- one outcome: two results that a contract allows, of open or of any other call, are the same reply, answer, state and every
-- byte
pub one_outcome : (allowed : Reply) (r s : Result) → reply_of r ≡ allowed → reply_of s ≡ allowed → reply_of r ≡ reply_of s
one_outcome allowed r s p q = p ∙ sym q

-- a caller that keeps its state on a refusal and one that takes the state handed back go on with the same world
pub refusal_keeps : (c : Call) (w : World) (r : Result) → Allows c w r → (r.answer.number ≡ 0 → ⊥) → left_by r ≡ w
refusal_keeps c w r e n =
    ap (λ (x : Reply). x.world) e ∙ (refused_same c w (λ z. n (ap (λ (x : Reply). x.number) e ∙ z))).0

-- calls made one after the other, from a world to a world
pub data Performed : List Call → World → World → Type 0 where
  none : (w : World) → Performed [] w w
  next : (c : Call) (cs : List Call) (w v : World) (r : Result) → Allows c w r → Performed cs (left_by r) v → Performed (c ∷ cs) w v

pub performed_run : (cs : List Call) (w v : World) → Performed cs w v → v ≡ run cs w
unfolding run
performed_run cs w v (none x) = refl
performed_run cs w v (next c ds x y r e p) =
    performed_run ds (left_by r) y p ∙ ap (λ (a : Reply). run ds a.world) e

-- a recording that was made: an open whose contract allows its result, and then its calls
pub record Made (r : Recording) (v : World) : Type 0 where
  pub first : Result
  pub opens : reply_of first ≡ open_reply r.settings r.end r.tick r.lent
  pub calls : Performed r.calls (left_by first) v

pub made_reached : (r : Recording) (v : World) → Made r v → v ≡ reached r
unfolding reached opening
made_reached r v m =
    performed_run r.calls (left_by m.first) v m.calls ∙ ap (λ (a : Reply). run r.calls a.world) m.opens

-- what was made after a recording is a future of it, and its lag the future's
at_later : (r : Recording) (more : List Call) (w v : World) → Made r w → Performed more w v → v ≡ later r more
at_later r more w v m q = performed_run more w v q ∙ ap (run more) (made_reached r w m)

lags : (r : Recording) (more : List Call) (w v : World) → Made r w → Performed more w v
    → v.state.closed.0 ≤ w.state.closed.0 + r.settings.lag → WithinLag r more
lags r more w v m q h =
    subst (λ (x : World). x.state.closed.0 ≤ (reached r).state.closed.0 + r.settings.lag) (at_later r more w v m q)
    (subst (λ (x : World). v.state.closed.0 ≤ x.state.closed.0 + r.settings.lag) (made_reached r w m) h)

-- Demand 3 of what the code did, its first half: two recordings made alike up to a close, each with what was made after it;
-- desks that are lent the files then, as far as a desk looks, answer the same.
pub performed_answers : (a b : Recording) → SameUpToClose a b → (w₁ w₂ : World) → Made a w₁ → Made b w₂
    → (ones twos : List Call) (v₁ v₂ : World) → Performed ones w₁ v₁ → Performed twos w₂ v₂
    → v₁.state.closed.0 ≤ w₁.state.closed.0 + a.settings.lag → v₂.state.closed.0 ≤ w₂.state.closed.0 + b.settings.lag
    → (held₁ held₂ : List ℕ) → HoldsIndex a held₁ → HoldsIndex b held₂
    → (side₁ side₂ : List ℕ) → SideNow a v₁ side₁ → SideNow b v₂ side₂
    → (base₁ base₂ : List ℕ) → BaseNow a v₁ base₁ → BaseNow b v₂ base₂
    → (p offset n : ℕ) → (RawThen a p → ⊥)
    → (x y : Desk.Answer) → x ≡ Desk.desk_read held₁ side₁ base₁ p offset n → y ≡ Desk.desk_read held₂ side₂ base₂ p offset n
    → x ≡ y
performed_answers a b same w₁ w₂ m₁ m₂ ones twos v₁ v₂ p₁ p₂ l₁ l₂ held₁ held₂ t₁ t₂ side₁ side₂ s₁ s₂ base₁ base₂ b₁ b₂ p offset n raw x y ex ey =
    let e₁ = at_later a ones w₁ v₁ m₁ p₁ in
    let e₂ = at_later b twos w₂ v₂ m₂ p₂ in
    ex
    ∙ same_answers a b same ones twos (lags a ones w₁ v₁ m₁ p₁ l₁) (lags b twos w₂ v₂ m₂ p₂ l₂) held₁ held₂ t₁ t₂
    side₁ side₂ (subst (λ (v : World). SideNow a v side₁) e₁ s₁) (subst (λ (v : World). SideNow b v side₂) e₂ s₂)
    base₁ base₂ (subst (λ (v : World). BaseNow a v base₁) e₁ b₁) (subst (λ (v : World). BaseNow b v base₂) e₂ b₂)
    p offset n raw
    ∙ sym ey

-- its second half: the bytes are those that the calls up to the close made of the page
pub performed_bytes : (r : Recording) → (opening r).number ≡ 0 → AtClose r → (w v : World) → Made r w
    → (more : List Call) → Performed more w v → v.state.closed.0 ≤ w.state.closed.0 + r.settings.lag
    → (held : List ℕ) → HoldsIndex r held
    → (side base : List ℕ) → SideNow r v side → BaseNow r v base
    → (p offset n : ℕ) → p < (reached r).state.end → kind_of (reached r) p ≡ 0
    → (x : Desk.Answer) → x ≡ Desk.desk_read held side base p offset n
    → BytesThen r p offset n x
performed_bytes r h c w v m more q l held t side base s d p offset n b k x e =
    let i = at_later r more w v m q in
    subst (BytesThen r p offset n) (sym e)
    (held_then r h c more (lags r more w v m q l) held t side base
    (subst (λ (u : World). SideNow r u side) i s) (subst (λ (u : World). BaseNow r u base) i d)
    p offset n b k)
