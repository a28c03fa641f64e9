-- One exchange with a meter that listens: a right reply brings the next message or the end, a NAK and silence stop the session. Assumes nothing.
use mathlib.Core.Path.{◌≡◌, refl, sym, ap, ap₂, ◌∙◌}
use mathlib.Core.Bool.{Bool, true, false}
use mathlib.Core.List.{List, [], ◌∷◌, ◌++◌}
use Prim.Native.Nat.{ℕ, zero, suc, ◌+◌, ◌-◌, ◌≤◌, ◌<◌}
use native.Mathlib.Omega.{arith}
use borrow.Author.Tests.{le-leb, lt-leb, le-ltb, ne_eqb}
use lib.ListN.{length, replicate, length-map}
use Rattle.state.specs.WellFormed.{tables_in, family_of}
use Rattle.values.specs.Edition.{tables_of}
use Rattle.line.specs.Characters.{sent}
use Rattle.frames.specs.Frames.{on_wire}
use Rattle.state.specs.Sizes.{reply_room}
use Rattle.state.specs.declared.Meter.{Meter}
use Rattle.replies.specs.Fixed.{accepted, refused}
use Rattle.meter.specs.Outcomes.{Outcome, ack}
use Rattle.commands.specs.Messages.{Message, command, leave, text_of, good_message}
use Rattle.judging.specs.Right.{accepts, refuses}
use Rattle.session.specs.declared.Session.{Session}
use Rattle.session.specs.Messages.{calling, entering, work_at, message_at}
use Rattle.session.specs.Standing.{work_good, place_good, fact_good, session_told, session_good}
use Rattle.session.specs.Turns.{Turn, standing, right_work, right_at, answered_right, answered as judged, replied, silent}
use Rattle.dialogue.specs.Feeding.{Said, said_in, quiet, answered, left}
use Rattle.dialogue.specs.Messages.{outcome_of, Listens}
use Rattle.dialogue.proofs.Dialogue.{message-taken}
use Rattle.conversation.specs.Conversation.{Talk, last_reply, reply_to, heard_as, exchange_of, exchange, converse, asking, stopped}
use Rattle.conversation.proofs.Right.{ack-accepts, ack-is-no-nak, nak-refuses}

-- ---- what a message comes to

last-is : (n : ℕ) (before x : Said) (r : List ℕ) → last_reply r (replicate n before ++ (x ∷ [])) ≡ x.reply
unfolding last_reply
last-is zero before x r = refl
last-is (suc n) before x r = last-is n before x before.reply

module _ (m : Meter) (x : Message) (good : good_message (tables_in m.registers) (family_of m) x ≡ true) (l : Listens m x) (rooms : ℕ → ℕ) (large : (i : ℕ) → reply_room ≤ rooms i) where
  pub reply-is : reply_to m rooms (on_wire (text_of x)) ≡ (outcome_of m x).reply
  unfolding reply_to
  reply-is = ap (last_reply []) ((message-taken m x good l).said rooms large) ∙ last-is (length (on_wire (text_of x)) - 1) (quiet m.speed) (said_in (outcome_of m x)) []

  pub left_is : left m rooms (on_wire (text_of x)) ≡ (outcome_of m x).next
  left_is = (message-taken m x good l).after rooms large

-- ---- the messages by their numbers

module _ (s : Session) (work : List ℕ) where
  pub message-work : (i : ℕ) → i < s.count → message_at s work (i + 4) ≡ command (work_at s work i)
  unfolding message_at
  message-work i h =
      rw (ne_eqb (i + 4) 1 (λ e. omega arith), ne_eqb (i + 4) 2 (λ e. omega arith), ne_eqb (i + 4) 3 (λ e. omega arith), le-leb (i + 4) (s.count + 3) (omega arith))
      (ap (λ (j : ℕ). command (work_at s work j)) {x = i + 4 - 4} {y = i} (omega arith))

  pub right-work : (i : ℕ) → i < s.count → (reply : List ℕ) → right_at s work (i + 4) reply ≡ right_work s work i reply
  unfolding right_at
  right-work i h reply =
      rw (ne_eqb (i + 4) 1 (λ e. omega arith), ne_eqb (i + 4) 2 (λ e. omega arith), ne_eqb (i + 4) 3 (λ e. omega arith), le-leb (i + 4) (s.count + 3) (omega arith))
      (ap (λ (j : ℕ). right_work s work j reply) {x = i + 4 - 4} {y = i} (omega arith))

  module _ (n : ℕ) (low : s.count + 4 ≤ n) where
    pub message-leave : message_at s work n ≡ leave
    unfolding message_at
    message-leave = rw (ne_eqb n 1 (λ e. omega arith), ne_eqb n 2 (λ e. omega arith), ne_eqb n 3 (λ e. omega arith), lt-leb n (s.count + 3) (omega arith))

    pub right-leave : (reply : List ℕ) → right_at s work n reply ≡ accepts reply
    unfolding right_at
    right-leave reply = rw (ne_eqb n 1 (λ e. omega arith), ne_eqb n 2 (λ e. omega arith), ne_eqb n 3 (λ e. omega arith), lt-leb n (s.count + 3) (omega arith))

-- ---- a message that a meter answers right

pub record Right (x : Message) (m next : Meter) (judges : List ℕ → Bool) : Type 0 where
  pub good : good_message (tables_in m.registers) (family_of m) x ≡ true
  pub hears : Listens m x
  pub reply : List ℕ
  pub said : (outcome_of m x).reply ≡ reply
  pub some : length reply ≡ 0 → ⊥
  pub no-nak : refuses (on_wire reply) ≡ false
  pub right : judges (on_wire reply) ≡ true
  pub after : (outcome_of m x).next ≡ next

-- ACK, where ACK is right
pub acknowledged : (x : Message) (m next : Meter) (speed : ℕ) → good_message (tables_in m.registers) (family_of m) x ≡ true → Listens m x → outcome_of m x ≡ ack speed next → Right x m next accepts
acknowledged x m next speed good l e =
    record {
      good = good;
      hears = l;
      reply = accepted;
      said = ap (λ (o : Outcome). o.reply) e;
      some = λ z. omega arith;
      no-nak = ack-is-no-nak;
      right = ack-accepts;
      after = ap (λ (o : Outcome). o.next) e;
    }

-- a session that may stand anywhere
pub record Sound (s : Session) : Type 0 where
  pub told : session_told s ≡ true
  pub works : work_good (tables_of s.edition) s.work s.access s.count ≡ true
  pub some : 1 ≤ s.count
  pub few : s.count ≤ 32

module _ (s : Session) (work : List ℕ) (sound : Sound s) where
  pub stands : (n : ℕ) → 1 ≤ n → n ≤ s.count + 4 → session_good (standing s n 0) ≡ true
  unfolding session_good session_told place_good fact_good
  stands n low high =
      rw (sound.told, sound.works, le-leb 1 s.count sound.some, le-leb s.count 32 sound.few, le-leb 1 n low, le-leb n (s.count + 4) high)

  module _ (n : ℕ) (low : 1 ≤ n) (high : n ≤ s.count + 4) (room : ℕ) (long : 64 ≤ room) where
    -- right: whatever comes next
    pub heard-right : (reply : List ℕ) → (length reply ≡ 0 → ⊥) → refuses (on_wire reply) ≡ false → right_at s work n (on_wire reply) ≡ true
        → heard_as (standing s n 0) work (on_wire reply) room ≡ answered_right (standing s n 0) work
    unfolding heard_as replied judged right_at right_work
    heard-right reply some no-nak right =
        rw (length-map reply sent, ne_eqb (length reply) 0 some, le-ltb room 64 long, stands n low high, no-nak, right)

    -- NAK, and nothing
    pub heard-nak : heard_as (standing s n 0) work (on_wire refused) room ≡ stopped s n 2
    unfolding heard_as replied judged
    heard-nak = rw (le-ltb room 64 long, stands n low high, nak-refuses)

    pub heard-nothing : heard_as (standing s n 0) work [] room ≡ stopped s n 4
    unfolding heard_as silent
    heard-nothing = rw (stands n low high)

  -- the next message, where it can be built
  pub goes_on : (n : ℕ) → n < s.count + 4 → good_message (tables_of s.edition) s.decimals (message_at s work (n + 1)) ≡ true → answered_right (standing s n 0) work ≡ asking s work (n + 1)
  unfolding answered_right message_at calling entering work_at
  goes_on n h good = rw (lt-leb (s.count + 4) n h, good)

  -- after the last there is none
  pub is-done : (n : ℕ) → n ≡ s.count + 4 → answered_right (standing s n 0) work ≡ stopped s n 1
  unfolding answered_right
  is-done n e = rw (le-leb (s.count + 4) n (omega (arith, e)))

  module _ (rooms : ℕ → ℕ) (large : (i : ℕ) → reply_room ≤ rooms i) (room : ℕ) (long : 64 ≤ room) (n : ℕ) (low : 1 ≤ n) (high : n ≤ s.count + 4) (m : Meter) where
    -- what an exchange comes to
    pub exchange-is : good_message (tables_in m.registers) (family_of m) (message_at s work n) ≡ true → Listens m (message_at s work n)
        → exchange rooms room work (record { turn = asking s work n; meter = m })
        ≡ record { turn = heard_as (standing s n 0) work (on_wire (outcome_of m (message_at s work n)).reply) room; meter = (outcome_of m (message_at s work n)).next }
    unfolding exchange_of
    exchange-is good l =
        let x = message_at s work n in
        ap₂ (λ (r : List ℕ) (next : Meter). record { turn = heard_as (standing s n 0) work (on_wire r) room; meter = next }) (reply-is m x good l rooms large) (left_is m x good l rooms large)

    pub exchange-right : (next : Meter) → Right (message_at s work n) m next (right_at s work n)
        → exchange rooms room work (record { turn = asking s work n; meter = m }) ≡ record { turn = answered_right (standing s n 0) work; meter = next }
    exchange-right next r =
        exchange-is r.good r.hears
        ∙ ap₂ (λ (l : List ℕ) (y : Meter). record { turn = heard_as (standing s n 0) work (on_wire l) room; meter = y }) r.said r.after
        ∙ ap (λ (u : Turn). record { turn = u; meter = next }) (heard-right n low high room long r.reply r.some r.no-nak r.right)

-- ---- once stopped

-- a session that ended with a fact
pub record Ended (s : Session) (n fact : ℕ) : Type 0 where
  pub sound : Sound s
  pub low : 1 ≤ n
  pub high : n ≤ s.count + 4
  pub some : fact ≡ 0 → ⊥
  pub known : fact_good s.count n fact ≡ true

-- nothing is sent, and it says the same again
pub stays : (s : Session) (work : List ℕ) (n fact : ℕ) → Ended s n fact → (rooms : ℕ → ℕ) (room : ℕ) (m : Meter)
    → exchange rooms room work (record { turn = stopped s n fact; meter = m }) ≡ record { turn = stopped s n fact; meter = m }
unfolding exchange_of reply_to answered left last_reply heard_as silent session_good session_told place_good
stays s work n fact e rooms room m =
    let k = e.sound in
    rw (k.told, k.works, le-leb 1 s.count k.some, le-leb s.count 32 k.few, le-leb 1 n e.low, le-leb n (s.count + 4) e.high, e.known, ne_eqb fact 0 e.some)

module _ (s : Session) (work : List ℕ) (n fact : ℕ) (e : Ended s n fact) (rooms : ℕ → ℕ → ℕ) (buffers : ℕ → ℕ) (first : Talk) (m : Meter)
    (here : converse rooms buffers work first n ≡ record { turn = stopped s n fact; meter = m }) where
  stays_on : (i : ℕ) → converse rooms buffers work first (i + n) ≡ record { turn = stopped s n fact; meter = m }
  unfolding converse
  stays_on zero = ap (converse rooms buffers work first) {x = 0 + n} {y = n} (omega arith) ∙ here
  stays_on (suc i) =
      ap (converse rooms buffers work first) {x = suc i + n} {y = suc (i + n)} (omega arith)
      ∙ ap (exchange (rooms (i + n)) (buffers (i + n)) work) (stays_on i)
      ∙ stays s work n fact e (rooms (i + n)) (buffers (i + n)) m

  pub stays-long : (k : ℕ) → n ≤ k → converse rooms buffers work first k ≡ converse rooms buffers work first n
  stays-long k h = ap (converse rooms buffers work first) {x = k} {y = k - n + n} (omega arith) ∙ stays_on (k - n) ∙ sym here
