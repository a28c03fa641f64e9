-- What a call on a lent record says of its result, of the record and of the buffer; and what the same call says to C. Assumes nothing.
use mathlib.Core.Path.{◌≡◌, refl, ◌∙◌, ap}
use mathlib.Core.Bool.{Bool, true, false, not}
use mathlib.Core.List.{List}
use Prim.Native.Nat.{ℕ}
use lib.Dec.{T}
use lib.ListN.{length}
use Rattle.text.specs.Writing.{holding}
use Rattle.frames.specs.Frames.{on_wire}
use Rattle.state.specs.declared.Meter.{Meter}
use Rattle.meter.specs.Outcomes.{Outcome}
use Rattle.storing.specs.declared.Reply.{Reply}
use Rattle.storing.specs.Replies.{reply_of}

-- of an outcome, with a buffer that held ys: the answer, what is left in the record and what is left in the buffer
abbrev pub Answered : Outcome → List ℕ → Reply → Meter → List ℕ → Type 0
Answered o ys t m zs = (t ≡ reply_of o) × (m ≡ o.next) × (zs ≡ holding ys (on_wire o.reply))

pub answered-as : (o o' : Outcome) (ys zs : List ℕ) (t : Reply) (m : Meter) → o ≡ o' → Answered o' ys t m zs → Answered o ys t m zs
answered-as o o' ys zs t m all e = rw all e

-- an answer as `tell` says it
abbrev pub Told : Reply → ℕ → ℕ → ℕ → ℕ → Type 0
Told t k count speed place = (k ≡ t.number) × (count ≡ t.length) × (speed ≡ t.speed) × (place ≡ t.place)

-- both together
abbrev pub Said : Outcome → List ℕ → ℕ → Meter → List ℕ → ℕ → ℕ → ℕ → Type 0
Said o ys k m zs count speed place =
    (k ≡ o.number) × (m ≡ o.next) × (zs ≡ holding ys (on_wire o.reply)) × (count ≡ length o.reply) × (speed ≡ o.speed) × (place ≡ o.place)

pub said : (o : Outcome) (ys : List ℕ) (t : Reply) (m : Meter) (zs : List ℕ) (k count speed place : ℕ) → Answered o ys t m zs → Told t k count speed place
    → Said o ys k m zs count speed place
said o ys t m zs k count speed place (e, em, ez) (ek, ec, ep, eg) =
    (ek ∙ ap (λ (r : Reply). r.number) e, em, ez, ec ∙ ap (λ (r : Reply). r.length) e, ep ∙ ap (λ (r : Reply). r.speed) e, eg ∙ ap (λ (r : Reply). r.place) e)

-- what a branch was taken by
pub is_true : (c : Bool) → T c → c ≡ true
is_true true _ = refl
is_true false z = absurd z

pub is_false : (c : Bool) → T (not c) → c ≡ false
is_false true z = absurd z
is_false false _ = refl
