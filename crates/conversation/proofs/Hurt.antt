-- One damaged byte, in a message or in a reply: the head stops at that message with a fact, and the meter has what the messages before said. Assumes nothing.
use mathlib.Core.Path.{◌≡◌, refl, sym, ap, ap₂, subst, ◌∙◌}
use mathlib.Core.Logic.{inl, inr, ⊎_elim}
use mathlib.Core.Bool.{Bool, true, false, cond, not, and-false}
use mathlib.Core.List.{List, [], ◌∷◌}
use Prim.Native.Nat.{ℕ, zero, suc, ◌+◌, ◌-◌, ◌*◌, ◌≤◌, ◌<◌}
use native.Mathlib.Omega.{arith}
use borrow.Author.Tests.{le-ltb, ne_eqb}
use lib.Dec.{eqb, leb}
use lib.ListN.{length, get_or, set}
use Rattle.state.specs.WellFormed.{tables_in, family_of}
use Rattle.values.specs.Edition.{tables_of}
use Rattle.line.specs.Characters.{damaged_at, undamaged_all}
use Rattle.line.specs.Runs.{every}
use Rattle.text.specs.Classes.{same_text}
use Rattle.frames.specs.Frames.{on_wire}
use Rattle.state.specs.declared.Meter.{Meter}
use Rattle.replies.specs.Fixed.{identification, password_ask, accepted, refused}
use Rattle.commands.specs.Spoken.{good_fields}
use Rattle.commands.specs.Messages.{text_of, good_message}
use Rattle.judging.specs.Right.{identifies, asks_password, accepts, refuses, answers}
use Rattle.readback.proofs.Sending.{sent-undamaged-all}
use Rattle.session.specs.declared.Session.{Session}
use Rattle.session.specs.Messages.{read_of, message_at}
use Rattle.session.specs.Starting.{Told, Opening, Opens}
use Rattle.session.specs.Turns.{Turn, standing, right_read, right_work, right_at, answered as judged, replied}
use Rattle.conversation.specs.Conversation.{Talk, reply_to, heard_as, exchange_of, stopped}
use Rattle.conversation.specs.Ends.{Roomy, talk_of, Stops, MessageHurt, ReplyStops}
use Rattle.conversation.proofs.Exchange.{Sound, stands, heard-nak, heard-nothing}
use Rattle.conversation.proofs.Started.{sound, some-began}
use Rattle.conversation.proofs.Spoilt.{not-both}
use Rattle.conversation.proofs.Stopping.{not_same}
use Rattle.conversation.proofs.Damage.{Unheeded, unheeded}
use Rattle.conversation.proofs.Shapes.{shaped}

-- ---- a damaged reply is neither right nor the NAK

either-false : (b x y : Bool) → x ≡ false → y ≡ false → cond b x y ≡ false
either-false true x y h k = h
either-false false x y h k = k

-- a reply that is neither right nor the NAK
heard-wrong : (reply : List ℕ) → (length reply ≡ 0 → ⊥) → refuses reply ≡ false → (s : Session) (work : List ℕ) → Sound s → (n : ℕ) → 1 ≤ n → n ≤ s.count + 4
    → (room : ℕ) → 64 ≤ room → right_at s work n reply ≡ false → heard_as (standing s n 0) work reply room ≡ stopped s n 3
unfolding heard_as replied judged right_at right_work
heard-wrong reply some no-nak s work good n low high room long wrong =
    rw (ne_eqb (length reply) 0 some, le-ltb room 64 long, stands s work good n low high, no-nak, wrong)

module _ (reply : List ℕ) (hurt : undamaged_all reply ≡ false) where
  -- nothing that is sent comes so
  not-sent : (x : List ℕ) → same_text reply (on_wire x) ≡ false
  not-sent x = not_same reply (on_wire x) (λ e. not-both (undamaged_all reply) (ap undamaged_all e ∙ sent-undamaged-all x) hurt)

  no-nak : refuses reply ≡ false
  unfolding refuses
  no-nak = not-sent refused

  no-ack : accepts reply ≡ false
  unfolding accepts
  no-ack = not-sent accepted

  no_answer : (tables family letter n : ℕ) → right_read tables family letter n reply ≡ false
  unfolding right_read answers
  no_answer tables family letter n = rw hurt (and-false (good_fields tables family (read_of letter n)))

  no-right-work : (s : Session) (work : List ℕ) (i : ℕ) → right_work s work i reply ≡ false
  unfolding right_work
  no-right-work s work i = either-false (eqb s.work 1) (accepts reply) _ no-ack (no_answer (tables_of s.edition) s.decimals (get_or work (i * 2) 0) (get_or work (i * 2 + 1) 0))

  no-right : (s : Session) (work : List ℕ) (n : ℕ) → right_at s work n reply ≡ false
  unfolding right_at identifies asks_password
  no-right s work n =
      either-false (eqb n 1) _ _ (not-sent (identification s.edition))
      (either-false (eqb n 2) _ _ (not-sent password_ask)
      (either-false (eqb n 3) _ _ no-ack (either-false (leb n (s.count + 3)) _ _ (no-right-work s work (n - 4)) no-ack)))

  some_bytes : length reply ≡ 0 → ⊥
  some_bytes = some reply hurt
    where
      some : (l : List ℕ) → undamaged_all l ≡ false → length l ≡ 0 → ⊥
      some [] h e = not-both true refl (unfold undamaged_all every in h)
      some (x ∷ l) h e = omega arith

  pub heard-hurt : (s : Session) (work : List ℕ) → Sound s → (n : ℕ) → 1 ≤ n → n ≤ s.count + 4 → (room : ℕ) → 64 ≤ room
      → heard_as (standing s n 0) work reply room ≡ stopped s n 3
  heard-hurt s work good n low high room long = heard-wrong reply some_bytes no-nak s work good n low high room long (no-right s work n)

-- a reply with one byte damaged is one that has a damaged byte
pub hurt-at : (l : List ℕ) (j b : ℕ) → j < length l → damaged_at b ≡ true → undamaged_all (set l j b) ≡ false
unfolding undamaged_all every
hurt-at [] j b h d = absurd (omega arith)
hurt-at (x ∷ l) zero b h d = rw d
hurt-at (x ∷ l) (suc j) b h d = rw (hurt-at l j b (omega arith) d) (and-false (not (damaged_at x)))

-- ---- in the course of a conversation, however it goes

module _ (t : Told) (work : List ℕ) (room : ℕ) (o : Opening) (opens : Opens t work room o) (one : o.number ≡ 1) (m : Meter) (rooms : ℕ → ℕ → ℕ) (buffers : ℕ → ℕ)
    (roomy : Roomy rooms buffers) (n fact : ℕ) (after : Meter) (st : Stops t work o m rooms buffers n fact after) (k : ℕ) (h : k < n) where
  abbrev s : Session
  s = o.session

  good : Sound s
  good =
      let b = some-began t work room o opens one in
      subst Sound (sym (ap (λ (x : Opening). x.session) b.began.is)) (sound t b.count o b.began)

  within : k + 1 ≤ s.count + 4
  within = omega (arith, st.within)

  abbrev here : Talk
  here = talk_of t work o m rooms buffers k

  -- what the head makes of a reply there
  there-stops : (reply : List ℕ) (e : ℕ) → heard_as (standing s (k + 1) 0) work reply (buffers k) ≡ stopped s (k + 1) e → ReplyStops t work o m rooms buffers k reply e
  there-stops reply e is = record { stops = ap (λ (u : Turn). heard_as u.next work reply (buffers k)) (st.going k h) ∙ is }

  -- any reply that has a damaged byte
  pub damaged-reply-stops : (reply : List ℕ) → undamaged_all reply ≡ false → ReplyStops t work o m rooms buffers k reply 3
  damaged-reply-stops reply hurt = there-stops reply 3 (heard-hurt reply hurt s work good (k + 1) (omega arith) within (buffers k) (roomy.messages k))

  -- any other reply that is not the right one, a NAK, and none
  pub wrong-reply-stops : (reply : List ℕ) → (length reply ≡ 0 → ⊥) → refuses reply ≡ false → right_at s work (k + 1) reply ≡ false → ReplyStops t work o m rooms buffers k reply 3
  wrong-reply-stops reply some no-nak wrong =
      there-stops reply 3 (heard-wrong reply some no-nak s work good (k + 1) (omega arith) within (buffers k) (roomy.messages k) wrong)

  pub nak-stops : ReplyStops t work o m rooms buffers k (on_wire refused) 2
  nak-stops = there-stops (on_wire refused) 2 (heard-nak s work good (k + 1) (omega arith) within (buffers k) (roomy.messages k))

  pub silence-stops : ReplyStops t work o m rooms buffers k [] 4
  silence-stops = there-stops [] 4 (heard-nothing s work good (k + 1) (omega arith) within (buffers k) (roomy.messages k))

  -- any message with one byte damaged
  pub damaged-message-stops : (j b : ℕ) → j < length here.turn.text → damaged_at b ≡ true → MessageHurt t work o m rooms buffers k j b
  unfolding exchange_of
  damaged-message-stops j b there d =
      let x = message_at s work (k + 1) in
      let text : here.turn.text ≡ text_of x = ap (λ (u : Turn). u.text) (st.going k h) in
      let listens = st.heard k h in
      let good-there : good_message (tables_in here.meter.registers) (family_of here.meter) x ≡ true = ap₂ (λ (e family : ℕ). good_message (tables_of e) family x) (sym (st.suits k h).0) (sym (st.suits k h).1) ∙ st.built k h in
      let un =
      unheeded here.meter x good-there listens (st.optical k h) (shaped (tables_in here.meter.registers) (family_of here.meter) here.meter.mode x good-there listens.allowed) j b (subst (λ (l : List ℕ). j < length l) text there) d
      (rooms k) (roomy.replies k)
      in
      let bytes : set (on_wire here.turn.text) j b ≡ set (on_wire (text_of x)) j b = ap (λ (l : List ℕ). set (on_wire l) j b) text in
      let same : Unheeded here.meter (rooms k) (set (on_wire here.turn.text) j b) = subst (Unheeded here.meter (rooms k)) (sym bytes) un in
      let reply = reply_to here.meter (rooms k) (set (on_wire here.turn.text) j b) in
      let turned : (r : List ℕ) → reply ≡ r → heard_as here.turn.next work (on_wire reply) (buffers k) ≡ heard_as (standing s (k + 1) 0) work (on_wire r) (buffers k) =
      λ r e. ap₂ (λ (u : Turn) (l : List ℕ). heard_as u.next work (on_wire l) (buffers k)) (st.going k h) e in
      record {
        stops =
            ⊎_elim (λ e. inr (turned [] e ∙ heard-nothing s work good (k + 1) (omega arith) within (buffers k) (roomy.messages k)))
            (λ e. inl (turned refused e ∙ heard-nak s work good (k + 1) (omega arith) within (buffers k) (roomy.messages k))) same.reply;
        registers = same.registers;
        attempts = same.attempts;
      }
