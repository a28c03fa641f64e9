-- A session that does not go well: a wrong password and a spent one stop it with NAK at message 3, another meter's serial with silence at the sign-on. Assumes nothing.
use mathlib.Core.Path.{◌≡◌, refl, sym, ap, ap₂, subst, ◌∙◌}
use mathlib.Core.Logic.{◌⊎◌, inl, inr, ⊎_elim}
use mathlib.Core.Bool.{Bool, true, false, cond}
use mathlib.Core.List.{List, []}
use Prim.Native.Nat.{ℕ, zero, suc, ◌+◌, ◌≤◌, ◌<◌}
use native.Mathlib.Omega.{arith}
use borrow.Author.Tests.{eq-eqb, ne_eqb}
use lib.Dec.{leb, lit≤}
use lib.ListN.{replicate}
use Rattle.values.specs.Edition.{tables_of}
use Rattle.line.specs.Quoted.{char}
use Rattle.text.specs.Classes.{same_text, matching}
use Rattle.text.proofs.Matching.{same-is}
use Rattle.text.proofs.Beginnings.{le-or-lt}
use Rattle.values.specs.Registers.{good_serial, good_password}
use Rattle.frames.specs.Frames.{on_wire}
use Rattle.state.specs.declared.Registers.{Registers}
use Rattle.state.specs.declared.Meter.{Meter}
use Rattle.state.specs.WellFormed.{speed_good, registers_good, tables_in, family_in, family_of}
use Rattle.state.specs.Setting.{with_attempts}
use Rattle.state.proofs.Parts.{formed}
use Rattle.replies.specs.Fixed.{refused}
use Rattle.state.specs.Link.{link_of, is_wired}
use Rattle.state.proofs.Parts.{rest-good, fast-good}
use Rattle.meter.specs.Link.{refused_reply, after_refusal}
use Rattle.meter.specs.Outcomes.{Outcome, silent, saying}
use Rattle.commands.specs.Spoken.{password, good_fields, letters_of}
use Rattle.commands.specs.Messages.{Message, call_to, command, good_message}
use Rattle.session.specs.declared.Session.{Session}
use Rattle.session.specs.Messages.{calling, entering, message_at}
use Rattle.session.specs.Standing.{fact_good}
use Rattle.session.specs.Starting.{Told, Opening, Opens, session_of}
use Rattle.session.specs.Turns.{Turn, standing}
use Rattle.session.proofs.Laws.{told_is}
use Rattle.dialogue.specs.Messages.{allowed_at, allowed_in, tried_with, obeyed, outcome_of, Listens, names}
use Rattle.dialogue.proofs.Held.{idle, resting}
use Rattle.dialogue.proofs.Dialogue.{idle-listens}
use Rattle.conversation.specs.Conversation.{Talk, begun, heard_as, converse, asking, stopped}
use Rattle.conversation.specs.Ends.{Waits, Calls, Suits, Roomy, StopsAfter, talk_of, Stops, ForMeter}
use Rattle.conversation.proofs.Exchange.{Ended, exchange-is, heard-nak, heard-nothing, stays-long}
use Rattle.conversation.proofs.Course.{RightHere, right-call, right-confirm, stage, stage-optical, for-meter, talks, talk-last}
use Rattle.conversation.proofs.Started.{Began, sound, begins, SomeBegan, some-began}
use Rattle.conversation.proofs.Done.{waits-is, waiting, ours}

pub not_same : (s t : List ℕ) → (s ≡ t → ⊥) → same_text s t ≡ false
not_same s t h = pick (same_text s t) refl
  where
    pick : (b : Bool) → same_text s t ≡ b → b ≡ false
    pick true e = absurd (h (same-is s t e))
    pick false e = refl

-- ---- the exchange that stops it

module _ (t : Told) (work : List ℕ) (o : Opening) (count : ℕ) (began : Began t count o) (a : ℕ) (g : Registers) (same : (t.edition ≡ g.facts.edition) × (t.decimals ≡ g.facts.decimals)) (few : a ≤ 3) (good : registers_good g ≡ true) (optical : is_wired g.facts.link ≡ false)
    (rooms : ℕ → ℕ → ℕ) (buffers : ℕ → ℕ) (roomy : Roomy rooms buffers) where
  abbrev s : Session
  s = session_of t count

  abbrev m : Meter
  m = idle 0 a (resting g) g

  abbrev at : ℕ → Meter
  at = stage s.count a 3 a (λ i. g)

  counted : 1 ≤ s.count
  unfolding session_of
  counted = began.some

  same-meter : (s.edition ≡ g.facts.edition) × (s.decimals ≡ g.facts.decimals)
  unfolding session_of
  same-meter = same

  same_at : (k : ℕ) → Suits s (at k)
  unfolding stage
  same_at zero = same-meter
  same_at (suc zero) = same-meter
  same_at (suc (suc zero)) = same-meter
  same_at (suc (suc (suc i))) = go (leb i s.count)
    where
      go : (p : Bool) → Suits s (cond p (idle 3 a 5 g) (idle 0 a (resting g) g))
      go true = same-meter
      go false = same-meter

  -- what the session builds, the meter takes
  taken-there : (k : ℕ) → good_message (tables_of s.edition) s.decimals (message_at s work (k + 1)) ≡ true → good_message (tables_in (at k).registers) (family_of (at k)) (message_at s work (k + 1)) ≡ true
  taken-there k h = ap₂ (λ (e family : ℕ). good_message (tables_of e) family (message_at s work (k + 1))) (sym (same_at k).0) (sym (same_at k).1) ∙ h

  -- some messages go well, and the next is answered with NAK or nothing
  module _ (last : ℕ) (within : last ≤ 2) (rights : (k : ℕ) → k < last → RightHere s work (k + 1) (at k) (at (suc k)))
      (built : good_message (tables_of s.edition) s.decimals (message_at s work (last + 1)) ≡ true) (hears : Listens (at last) (message_at s work (last + 1)))
      (reply : List ℕ) (fact b : ℕ) (fewer : b ≤ 3) (outcome : ((outcome_of (at last) (message_at s work (last + 1))).reply ≡ reply) × ((outcome_of (at last) (message_at s work (last + 1))).next ≡ idle 0 b (resting g) g))
      (other : (fact ≡ 2) ⊎ (fact ≡ 4))
      (turned : (room : ℕ) → 64 ≤ room → heard_as (standing s (last + 1) 0) work (on_wire reply) room ≡ stopped s (last + 1) fact) where
    talk-is : (k : ℕ) → talk_of t work o m rooms buffers k ≡ converse rooms buffers work (record { turn = asking s work 1; meter = at 0 }) k
    unfolding stage
    talk-is k = ap (λ (x : Talk). converse rooms buffers work x k) (begins t count o began work m)

    stops-here : talk_of t work o m rooms buffers (suc last) ≡ record { turn = stopped s (last + 1) fact; meter = idle 0 b (resting g) g }
    stops-here =
        talk-is (suc last)
        ∙ talk-last s work (sound t count o began) at last (omega (arith, counted)) same_at rights built rooms roomy.replies buffers roomy.messages (stopped s (last + 1) fact) (idle 0 b (resting g) g)
        (exchange-is s work (sound t count o began) (rooms last) (roomy.replies last) (buffers last) (roomy.messages last) (last + 1) (omega arith) (omega (arith, counted)) (at last) (taken-there last built) hears
        ∙ ap₂ (λ (r : List ℕ) (x : Meter). record { turn = heard_as (standing s (last + 1) 0) work (on_wire r) (buffers last); meter = x }) outcome.0 outcome.1
        ∙ ap (λ (u : Turn). record { turn = u; meter = idle 0 b (resting g) g }) (turned (buffers last) (roomy.messages last)))

    ended : Ended s (suc last) fact
    unfolding fact_good
    ended =
        record {
          sound = sound t count o began;
          low = omega arith;
          high = omega (arith, counted);
          some = ⊎_elim (λ e z. omega arith) (λ e z. omega arith) other;
          known = ⊎_elim (λ e. rw e) (λ e. rw e) other;
        }

    stands_at : (k : ℕ) → k < suc last → talk_of t work o m rooms buffers k ≡ record { turn = asking s work (k + 1); meter = at k }
    stands_at k h =
        talk-is k ∙ talks s work (sound t count o began) at last (omega (arith, counted)) same_at rights built rooms roomy.replies buffers roomy.messages k (omega arith)

    -- each message is one that the meter listens for
    abbrev Heard : ℕ → Type 0
    Heard k = (good_message (tables_of s.edition) s.decimals (message_at s work (k + 1)) ≡ true) × Listens (at k) (message_at s work (k + 1))

    heard-each : (k : ℕ) → k < suc last → Heard k
    heard-each k h =
        ⊎_elim (λ l. subst Heard {x = last} {y = k} (omega arith) (built, hears)) (λ l. (for-meter s (at k) (message_at s work (k + 1)) (same_at k) (rights k l).good, (rights k l).hears)) (le-or-lt last k)

    pub stops_at : Stops t work o m rooms buffers (suc last) fact (idle 0 b (resting g) g)
    stops_at =
        subst (λ (x : Session). StopsAfter x work (talk_of t work o m rooms buffers) (suc last) fact (idle 0 b (resting g) g)) (sym (ap (λ (x : Opening). x.session) began.is))
        (record {
          within = omega (arith, counted);
          going = λ k h. ap (λ (x : Talk). x.turn) (stands_at k h);
          built = λ k h. (heard-each k h).0;
          suits = λ k h. subst (Suits s) (sym (ap (λ (x : Talk). x.meter) (stands_at k h))) (same_at k);
          heard = λ k h. subst (λ (x : Meter). Listens x (message_at s work (k + 1))) (sym (ap (λ (x : Talk). x.meter) (stands_at k h))) (heard-each k h).1;
          optical = λ k h. ap (λ (x : Talk). is_wired (link_of x.meter)) (stands_at k h) ∙ stage-optical s.count a 3 a (λ i. g) (λ i. optical) k;
          stops = ap (λ (x : Talk). x.turn) stops-here ∙ ap (λ (n : ℕ). stopped s n fact) {x = last + 1} {y = suc last} (omega arith);
          meter = ap (λ (x : Talk). x.meter) stops-here;
          waits = waiting b g fewer good optical;
          stays = stays-long s work (suc last) fact ended rooms buffers (begun o m) (idle 0 b (resting g) g)
              (stops-here ∙ ap (λ (n : ℕ). record { turn = stopped s n fact; meter = idle 0 b (resting g) g }) {x = last + 1} {y = suc last} (omega arith));
        })

  -- ---- the password

  module _ (calls : Calls t m) (access : t.access ≡ 1) where
    abbrev given : Message
    given = command (password t.password)

    is-password : message_at s work 3 ≡ given
    unfolding message_at entering session_of
    is-password = rw access

    password-good : good_message (tables_of s.edition) s.decimals given ≡ true
    unfolding good_message good_fields
    password-good = told_is t.access (good_password t.password) began.access access

    first_two : (k : ℕ) → k < 2 → RightHere s work (k + 1) (at k) (at (suc k))
    unfolding stage
    first_two zero h = right-call s work a g same-meter few good (ours t count o began m optical calls)
    first_two (suc zero) h = right-confirm s work a g same-meter few good
    first_two (suc (suc k)) h = absurd (omega arith)

    password-heard : Listens (at 2) given
    unfolding stage allowed_in allowed_at letters_of same_text matching
    password-heard = idle-listens 2 a 5 g given (record { known = lit≤ tt; attempts = few; speed = fast-good g.facts.link 2 (lit≤ tt); registers = good }) refl

    password-tried : outcome_of (at 2) given ≡ tried_with (idle 2 a 5 g) t.password
    unfolding stage outcome_of obeyed
    password-tried = refl

    -- NAK at message 3
    pub refused-there : (b number : ℕ) → b ≤ 3 → tried_with (idle 2 a 5 g) t.password ≡ saying number 5 refused (idle 0 b (resting g) g) → Stops t work o m rooms buffers 3 2 (idle 0 b (resting g) g)
    refused-there b number fewer e =
        let outcome : outcome_of (at 2) (message_at s work 3) ≡ saying number 5 refused (idle 0 b (resting g) g) = ap (outcome_of (at 2)) is-password ∙ password-tried ∙ e in
        stops_at 2 (lit≤ tt) first_two (subst (λ (x : Message). good_message (tables_of s.edition) s.decimals x ≡ true) (sym is-password) password-good)
        (subst (Listens (at 2)) (sym is-password) password-heard) refused 2 b fewer (ap (λ (x : Outcome). x.reply) outcome, ap (λ (x : Outcome). x.next) outcome) (inl refl)
        (λ room long. heard-nak s work (sound t count o began) 3 (lit≤ tt) (omega (arith, counted)) room long)

    pub wrong : (t.password ≡ g.facts.password → ⊥) → a < 3 → Stops t work o m rooms buffers 3 2 (idle 0 (a + 1) (resting g) g)
    unfolding tried_with refused_reply after_refusal
    wrong other left = refused-there (a + 1) 10 (omega arith) (rw (ne_eqb a 3 (λ e. omega arith), not_same t.password g.facts.password other, optical))

    pub locked : a ≡ 3 → Stops t work o m rooms buffers 3 2 m
    unfolding tried_with refused_reply after_refusal
    locked e = refused-there a 11 few (rw (eq-eqb a 3 e, optical))

  -- ---- another meter's serial

  module _ (named : t.named ≡ 1) (other : t.serial ≡ g.facts.serial → ⊥) (some : t.serial ≡ replicate 10 (char "0") → ⊥) where
    is_call : message_at s work 1 ≡ call_to t.serial
    unfolding message_at calling session_of
    is_call = rw named

    call-good : good_message (tables_of s.edition) s.decimals (call_to t.serial) ≡ true
    unfolding good_message
    call-good = told_is t.named (good_serial t.serial) began.named named

    call-heard : Listens (at 0) (call_to t.serial)
    unfolding stage allowed_in
    call-heard = idle-listens 0 a (resting g) g (call_to t.serial) (record { known = lit≤ tt; attempts = few; speed = rest-good g.facts.link 0; registers = good }) refl

    not-called : outcome_of (at 0) (call_to t.serial) ≡ silent 0 m
    unfolding stage outcome_of names
    not-called = rw (optical, not_same t.serial g.facts.serial other, not_same t.serial (replicate 10 48) some)

    pub unanswered : Stops t work o m rooms buffers 1 4 m
    unanswered =
        let outcome : outcome_of (at 0) (message_at s work 1) ≡ silent 0 m = ap (outcome_of (at 0)) is_call ∙ not-called in
        stops_at 0 (lit≤ tt) (λ k h. absurd (omega arith)) (subst (λ (x : Message). good_message (tables_of s.edition) s.decimals x ≡ true) (sym is_call) call-good)
        (subst (Listens (at 0)) (sym is_call) call-heard) [] 4 a few (ap (λ (x : Outcome). x.reply) outcome, ap (λ (x : Outcome). x.next) outcome) (inr refl)
        (λ room long. heard-nothing s work (sound t count o began) 1 (lit≤ tt) (omega (arith, counted)) room long)

-- ---- any started session, with any meter that waits

module _ (t : Told) (work : List ℕ) (room : ℕ) (o : Opening) (opens : Opens t work room o) (one : o.number ≡ 1) (m : Meter) (w : Waits m) (same : ForMeter t m)
    (rooms : ℕ → ℕ → ℕ) (buffers : ℕ → ℕ) (roomy : Roomy rooms buffers) where
  abbrev begun-so : SomeBegan t o
  begun-so = some-began t work room o opens one

  -- a wrong password: NAK at message 3, one attempt more, all else as it was
  pub wrong-password-stops : Calls t m → t.access ≡ 1 → (t.password ≡ m.registers.facts.password → ⊥) → m.attempts < 3
      → Stops t work o m rooms buffers 3 2 (with_attempts m (m.attempts + 1))
  wrong-password-stops calls access other left =
      let f = formed m w.formed in
      let e = waits-is m w in
      subst (λ (x : Meter). Stops t work o x rooms buffers 3 2 (with_attempts x (x.attempts + 1))) (sym e)
      (wrong t work o begun-so.count begun-so.began m.attempts m.registers same f.attempts f.registers w.optical rooms buffers roomy (subst (Calls t) e calls) access other left)

  -- any password once three were wrong: NAK at message 3, and the meter is as it was
  pub spent-password-stops : Calls t m → t.access ≡ 1 → m.attempts ≡ 3 → Stops t work o m rooms buffers 3 2 m
  spent-password-stops calls access three =
      let f = formed m w.formed in
      let e = waits-is m w in
      subst (λ (x : Meter). Stops t work o x rooms buffers 3 2 x) (sym e)
      (locked t work o begun-so.count begun-so.began m.attempts m.registers same f.attempts f.registers w.optical rooms buffers roomy (subst (Calls t) e calls) access three)

  -- another meter's serial: silence at the sign-on, and the meter is as it was
  pub other-serial-stops : t.named ≡ 1 → (t.serial ≡ m.registers.facts.serial → ⊥) → (t.serial ≡ replicate 10 (char "0") → ⊥) → Stops t work o m rooms buffers 1 4 m
  other-serial-stops named other some =
      let f = formed m w.formed in
      subst (λ (x : Meter). Stops t work o x rooms buffers 1 4 x) (sym (waits-is m w))
      (unanswered t work o begun-so.count begun-so.began m.attempts m.registers same f.attempts f.registers w.optical rooms buffers roomy named other some)
