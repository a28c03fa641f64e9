-- The course of a session that goes well: the meter before each message, and that the head stands there. Assumes nothing.
use mathlib.Core.Path.{◌≡◌, refl, sym, ap, ap₂, subst, ◌∙◌}
use mathlib.Core.Logic.{⊎_elim}
use mathlib.Core.Bool.{Bool, true, false, cond, ◌||◌}
use mathlib.Core.List.{List}
use Prim.Native.Nat.{ℕ, zero, suc, ◌+◌, ◌≤◌, ◌<◌}
use native.Mathlib.Omega.{arith}
use borrow.Author.Tests.{le-leb, lt-leb, ne_eqb, eqb-true}
use lib.Dec.{eqb, leb, lit≤}
use lib.ListN.{length, replicate}
use Rattle.line.specs.Quoted.{chars}
use Rattle.values.specs.Edition.{tables_of}
use Rattle.text.specs.Classes.{same_text, matching}
use Rattle.text.proofs.Matching.{same_self}
use Rattle.text.proofs.Beginnings.{le-or-lt}
use Rattle.values.specs.Registers.{good_serial, good_password}
use Rattle.frames.specs.Frames.{on_wire}
use Rattle.frames.specs.Session.{good_speed, speed_said}
use Rattle.state.specs.Sizes.{reply_room}
use Rattle.state.specs.declared.Registers.{Registers}
use Rattle.state.specs.declared.Meter.{Meter}
use Rattle.state.specs.WellFormed.{speed_good, registers_good, tables_in, family_in, family_of}
use Rattle.state.specs.Link.{link_of, is_wired}
use Rattle.state.proofs.Parts.{rest-good, fast-good}
use Rattle.meter.specs.Link.{identified as identified_on}
use Rattle.replies.specs.Fixed.{identification, password_ask}
use Rattle.replies.proofs.Good.{password-ask-is}
use Rattle.meter.specs.Outcomes.{Outcome, saying, ack}
use Rattle.commands.specs.Building.{good_choice}
use Rattle.commands.specs.Spoken.{enter, password, good_fields, letters_of}
use Rattle.commands.specs.Messages.{Message, call, call_to, confirm, command, leave, good_message}
use Rattle.judging.specs.Right.{identifies, accepts}
use Rattle.session.specs.declared.Session.{Session}
use Rattle.session.specs.Messages.{calling, entering, work_at, message_at}
use Rattle.session.specs.Turns.{Turn, standing, right_work, right_at, answered_right}
use Rattle.reading.proofs.Leading.{or_cases}
use Rattle.dialogue.specs.Messages.{allowed_at, allowed_in, tried_with, obeyed, outcome_of, names, digit_heard}
use Rattle.dialogue.proofs.Held.{Fit, idle, resting}
use Rattle.dialogue.proofs.Dialogue.{idle-listens}
use Rattle.conversation.specs.Conversation.{Talk, exchange, converse, asking, stopped}
use Rattle.conversation.specs.Ends.{Suits}
use Rattle.conversation.proofs.Right.{identified, password-asked, long-is-no-nak}
use Rattle.conversation.proofs.Exchange.{Right, acknowledged, Sound, message-work, right-work, message-leave, right-leave, goes_on, is-done, exchange-right}

-- an identification has 19 characters
pub identification-long : (edition : ℕ) → length (identification edition) ≡ 19
unfolding identification
identification-long edition = go (eqb edition 2)
  where
    go : (two : Bool) → length (cond two (chars "/ZZZ5SUB-VP02.00*\r\n") (chars "/ZZZ5SUB-VP01.00*\r\n")) ≡ 19
    go true = refl
    go false = refl

-- the same message by another name, judged the same
pub renamed : (x y : Message) (m next : Meter) (j k : List ℕ → Bool) → y ≡ x → ((r : List ℕ) → j r ≡ k r) → Right x m next k → Right y m next j
renamed x y m next j k e f r =
    subst (λ (z : Message). Right z m next j) (sym e)
    (record {
      good = r.good;
      hears = r.hears;
      reply = r.reply;
      said = r.said;
      some = r.some;
      no-nak = r.no-nak;
      right = f (on_wire r.reply) ∙ r.right;
      after = r.after;
    })

-- on the optical link the head calls any meter, or this one
pub data Ours (s : Session) (g : Registers) : Type 0 where
  any-meter : is_wired g.facts.link ≡ false → eqb s.named 1 ≡ false → Ours s g
  this-meter : is_wired g.facts.link ≡ false → eqb s.named 1 ≡ true → good_serial s.serial ≡ true
      → (same_text s.serial g.facts.serial || same_text s.serial (replicate 10 48)) ≡ true → Ours s g

-- the head enters by `()`, or knows the password: the mode, and the attempts, that this leads to
pub data EntersAs (s : Session) (a : ℕ) (g : Registers) : ℕ → ℕ → Type 0 where
  as_plain : eqb s.access 1 ≡ false → EntersAs s a g 3 a
  as-known : eqb s.access 1 ≡ true → good_password s.password ≡ true → s.password ≡ g.facts.password → a < 3 → EntersAs s a g 4 0

pub working : (s : Session) (a : ℕ) (g : Registers) (mode b : ℕ) → EntersAs s a g mode b → (eqb mode 3 || eqb mode 4) ≡ true
working s a g mode b (as_plain h) = refl
working s a g mode b (as-known h p k l) = refl

module _ (s : Session) (work : List ℕ) (a : ℕ) (g : Registers) (same : (s.edition ≡ g.facts.edition) × (s.decimals ≡ g.facts.decimals)) (few : a ≤ 3) (good : registers_good g ≡ true) where
  fit-here : (mode speed : ℕ) → mode ≤ 4 → speed_good g.facts.link mode speed ≡ true → Fit mode a speed g
  fit-here mode speed h k = record { known = h; attempts = few; speed = k; registers = good }

  -- the sign-on
  calls : (x : Message) → good_message (tables_in g) (family_in g) x ≡ true → allowed_in x 0 ≡ true
      → outcome_of (idle 0 a (resting g) g) x ≡ saying 1 (resting g) (identification g.facts.edition) (idle 1 a (resting g) g) → Right x (idle 0 a (resting g) g) (idle 1 a (resting g) g) (identifies g.facts.edition)
  calls x h k e =
      record {
        good = h;
        hears = idle-listens 0 a (resting g) g x (fit-here 0 (resting g) (lit≤ tt) (rest-good g.facts.link 0)) k;
        reply = identification g.facts.edition;
        said = ap (λ (o : Outcome). o.reply) e;
        some = λ z. omega (arith, identification-long g.facts.edition);
        no-nak = long-is-no-nak (identification g.facts.edition) (λ z. omega (arith, identification-long g.facts.edition));
        right = identified g.facts.edition;
        after = ap (λ (o : Outcome). o.next) e;
      }

  pub right-call : Ours s g → Right (message_at s work 1) (idle 0 a (resting g) g) (idle 1 a (resting g) g) (right_at s work 1)
  unfolding message_at right_at calling
  right-call (any-meter optical h) =
      renamed call (message_at s work 1) _ _ (right_at s work 1) (identifies g.facts.edition) (rw h) (λ r. ap (λ (e : ℕ). identifies e r) same.0)
      (calls call (unfold good_message in refl) (unfold allowed_in in refl) (unfold outcome_of identified_on in (rw optical)))
  right-call (this-meter optical h k e) =
      renamed (call_to s.serial) (message_at s work 1) _ _ (right_at s work 1) (identifies g.facts.edition) (rw h) (λ r. ap (λ (e : ℕ). identifies e r) same.0)
      (calls (call_to s.serial) (unfold good_message in k) (unfold allowed_in in refl) (unfold outcome_of names identified_on in (rw (optical, e))))

  -- the confirmation, at 9600 baud, for programming
  pub right-confirm : Right (message_at s work 2) (idle 1 a (resting g) g) (idle 2 a 5 g) (right_at s work 2)
  unfolding message_at right_at
  right-confirm =
      record {
        good = unfold good_message good_speed good_choice in refl;
        hears = idle-listens 1 a (resting g) g (confirm 53 49) (fit-here 1 (resting g) (lit≤ tt) (rest-good g.facts.link 1)) (unfold allowed_in in refl);
        reply = password_ask;
        said = unfold outcome_of digit_heard in refl;
        some = λ z. omega (arith, ap length password-ask-is);
        no-nak = long-is-no-nak password_ask (λ z. omega (arith, ap length password-ask-is));
        right = password-asked;
        after = unfold outcome_of digit_heard speed_said in refl;
      }

  -- the password, or `()`
  entered : (c : Message) (next : Meter) → good_message (tables_in g) (family_in g) c ≡ true → allowed_in c 2 ≡ true → outcome_of (idle 2 a 5 g) c ≡ ack 5 next → message_at s work 3 ≡ c
      → Right (message_at s work 3) (idle 2 a 5 g) next (right_at s work 3)
  unfolding right_at
  entered c next h k e is =
      renamed c (message_at s work 3) _ _ (right_at s work 3) accepts is (λ r. refl)
      (acknowledged c (idle 2 a 5 g) next 5 h (idle-listens 2 a 5 g c (fit-here 2 5 (lit≤ tt) (fast-good g.facts.link 2 (lit≤ tt))) k) e)

  pub right-enter : (mode b : ℕ) → EntersAs s a g mode b → Right (message_at s work 3) (idle 2 a 5 g) (idle mode b 5 g) (right_at s work 3)
  unfolding message_at entering good_message good_fields allowed_in allowed_at letters_of same_text matching outcome_of obeyed tried_with
  right-enter mode b (as_plain h) = entered (command enter) (idle 3 a 5 g) refl refl refl (rw h)
  right-enter mode b (as-known h p k l) =
      entered (command (password s.password)) (idle 4 0 5 g) p refl (rw (ne_eqb a 3 (λ e. omega arith), k, same_self g.facts.password)) (rw h)

  -- B0
  pub right-leaving : (mode n : ℕ) → (eqb mode 3 || eqb mode 4) ≡ true → s.count + 4 ≤ n → Right (message_at s work n) (idle mode a 5 g) (idle 0 a (resting g) g) (right_at s work n)
  right-leaving mode n k low =
      let three : Right leave (idle 3 a 5 g) (idle 0 a (resting g) g) accepts = leaves 3 (lit≤ tt) (fast-good g.facts.link 3 (lit≤ tt)) (unfold allowed_in in refl) in
      let four : Right leave (idle 4 a 5 g) (idle 0 a (resting g) g) accepts = leaves 4 (lit≤ tt) (fast-good g.facts.link 4 (lit≤ tt)) (unfold allowed_in in refl) in
      renamed leave (message_at s work n) (idle mode a 5 g) _ (right_at s work n) accepts (message-leave s work n low) (right-leave s work n low)
      (⊎_elim (λ e. subst (λ (i : ℕ). Right leave (idle i a 5 g) (idle 0 a (resting g) g) accepts) (sym (eqb-true mode 3 e)) three)
      (λ e. subst (λ (i : ℕ). Right leave (idle i a 5 g) (idle 0 a (resting g) g) accepts) (sym (eqb-true mode 4 e)) four) (or_cases (eqb mode 3) (eqb mode 4) k))
    where
      leaves : (i : ℕ) → i ≤ 4 → speed_good g.facts.link i 5 ≡ true → allowed_in leave i ≡ true → Right leave (idle i a 5 g) (idle 0 a (resting g) g) accepts
      leaves i h k l =
          acknowledged leave (idle i a 5 g) (idle 0 a (resting g) g) 5 (unfold good_message in refl) (idle-listens i a 5 g leave (fit-here i 5 h k) l) (unfold outcome_of in refl)

-- what a meter of the session's edition and family takes, the session builds
pub for-meter : (s : Session) (m : Meter) (x : Message) → Suits s m → good_message (tables_in m.registers) (family_of m) x ≡ true
    → good_message (tables_of s.edition) s.decimals x ≡ true
for-meter s m x same h = ap₂ (λ (e family : ℕ). good_message (tables_of e) family x) same.0 same.1 ∙ h

-- ---- some messages, one after the other

abbrev pub RightHere : Session → List ℕ → ℕ → Meter → Meter → Type 0
RightHere s work n m next = Right (message_at s work n) m next (right_at s work n)

-- all but the message after the last are answered right, and that one can be built
module _ (s : Session) (work : List ℕ) (sound : Sound s) (at : ℕ → Meter) (last : ℕ) (within : last < s.count + 4)
    (same : (k : ℕ) → Suits s (at k))
    (rights : (k : ℕ) → k < last → RightHere s work (k + 1) (at k) (at (suc k))) (built : good_message (tables_of s.edition) s.decimals (message_at s work (last + 1)) ≡ true)
    (rooms : ℕ → ℕ → ℕ) (large : (k i : ℕ) → reply_room ≤ rooms k i) (buffers : ℕ → ℕ) (long : (k : ℕ) → 64 ≤ buffers k) where
  abbrev pub talk : ℕ → Talk
  talk = converse rooms buffers work (record { turn = asking s work 1; meter = at 0 })

  builds : (k : ℕ) → suc k ≤ last → good_message (tables_of s.edition) s.decimals (message_at s work (k + 1 + 1)) ≡ true
  builds k h =
      ⊎_elim (λ l. subst (λ (i : ℕ). good_message (tables_of s.edition) s.decimals (message_at s work i) ≡ true) {x = last + 1} {y = k + 1 + 1} (omega arith) built)
      (λ l.
      subst (λ (i : ℕ). good_message (tables_of s.edition) s.decimals (message_at s work i) ≡ true) {x = suc k + 1} {y = k + 1 + 1} (omega arith)
      (for-meter s (at (suc k)) (message_at s work (suc k + 1)) (same (suc k)) (rights (suc k) l).good))
      (le-or-lt last (suc k))

  -- it goes on at each
  pub talks : (k : ℕ) → k ≤ last → talk k ≡ record { turn = asking s work (k + 1); meter = at k }
  unfolding converse
  talks zero h = refl
  talks (suc k) h =
      ap (exchange (rooms k) (buffers k) work) (talks k (omega arith))
      ∙ exchange-right s work sound (rooms k) (large k) (buffers k) (long k) (k + 1) (omega arith) (omega arith) (at k) (at (suc k)) (rights k h)
      ∙ ap (λ (u : Turn). record { turn = u; meter = at (suc k) })
      (goes_on s work sound (k + 1) (omega arith) (builds k h) ∙ ap (asking s work) {x = k + 1 + 1} {y = suc k + 1} (omega arith))

  -- and what the exchange after the last comes to
  pub talk-last : (u : Turn) (next : Meter) → exchange (rooms last) (buffers last) work (record { turn = asking s work (last + 1); meter = at last }) ≡ record { turn = u; meter = next }
      → talk (suc last) ≡ record { turn = u; meter = next }
  unfolding converse
  talk-last u next e = ap (exchange (rooms last) (buffers last) work) (talks last (omega arith)) ∙ e

-- ---- all of it

-- the meter before each message, by how many exchanges there were: g i are its registers after i messages of work
unfoldable pub stage : ℕ → ℕ → ℕ → ℕ → (ℕ → Registers) → ℕ → Meter
stage count a mode b g zero = idle 0 a (resting (g 0)) (g 0)
stage count a mode b g (suc zero) = idle 1 a (resting (g 0)) (g 0)
stage count a mode b g (suc (suc zero)) = idle 2 a 5 (g 0)
stage count a mode b g (suc (suc (suc i))) = cond (leb i count) (idle mode b 5 (g i)) (idle 0 b (resting (g count)) (g count))

-- on one link throughout
pub stage-optical : (count a mode b : ℕ) (g : ℕ → Registers) → ((i : ℕ) → is_wired (g i).facts.link ≡ false) → (k : ℕ) → is_wired (link_of (stage count a mode b g k)) ≡ false
unfolding stage
stage-optical count a mode b g h zero = h 0
stage-optical count a mode b g h (suc zero) = h 0
stage-optical count a mode b g h (suc (suc zero)) = h 0
stage-optical count a mode b g h (suc (suc (suc i))) = either (leb i count)
  where
    either : (p : Bool) → is_wired (link_of (cond p (idle mode b 5 (g i)) (idle 0 b (resting (g count)) (g count)))) ≡ false
    either true = h i
    either false = h count

-- what a session that goes well stands on
pub record Goes (s : Session) (work : List ℕ) (a mode b : ℕ) (g : ℕ → Registers) : Type 0 where
  pub sound : Sound s
  pub suits : (i : ℕ) → (s.edition ≡ (g i).facts.edition) × (s.decimals ≡ (g i).facts.decimals)
  pub few : a ≤ 3
  pub fewer : b ≤ 3
  pub good : (i : ℕ) → i ≤ s.count → registers_good (g i) ≡ true
  pub optical : (i : ℕ) → is_wired (g i).facts.link ≡ false
  pub ours : Ours s (g 0)
  pub enters : EntersAs s a (g 0) mode b
  pub works : (i : ℕ) → i < s.count → Right (command (work_at s work i)) (idle mode b 5 (g i)) (idle mode b 5 (g (suc i))) (right_work s work i)

module _ (s : Session) (work : List ℕ) (a mode b : ℕ) (g : ℕ → Registers) (goes : Goes s work a mode b g) where
  abbrev at : ℕ → Meter
  at = stage s.count a mode b g

  pub at-working : (i : ℕ) → i ≤ s.count → at (suc (suc (suc i))) ≡ idle mode b 5 (g i)
  unfolding stage
  at-working i h = rw (le-leb i s.count h)

  pub at-end : (i : ℕ) → s.count < i → at (suc (suc (suc i))) ≡ idle 0 b (resting (g s.count)) (g s.count)
  unfolding stage
  at-end i h = rw (lt-leb i s.count h)

  pub same_at : (k : ℕ) → Suits s (at k)
  unfolding stage
  same_at zero = goes.suits 0
  same_at (suc zero) = goes.suits 0
  same_at (suc (suc zero)) = goes.suits 0
  same_at (suc (suc (suc i))) = go (leb i s.count)
    where
      go : (p : Bool) → Suits s (cond p (idle mode b 5 (g i)) (idle 0 b (resting (g s.count)) (g s.count)))
      go true = goes.suits i
      go false = goes.suits s.count

  right-working : (i : ℕ) → i < s.count → RightHere s work (i + 4) (at (suc (suc (suc i)))) (at (suc (suc (suc (suc i)))))
  right-working i h =
      rw (at-working i (omega arith), at-working (suc i) h)
      (renamed (command (work_at s work i)) (message_at s work (i + 4)) _ _ (right_at s work (i + 4)) (right_work s work i) (message-work s work i h) (right-work s work i h) (goes.works i h))

  right-last : (i : ℕ) → i ≡ s.count → RightHere s work (i + 4) (at (suc (suc (suc i)))) (at (suc (suc (suc (suc i)))))
  right-last i e =
      rw (at-working i (omega (arith, e)), at-end (suc i) (omega (arith, e)), e)
      (right-leaving s work b (g s.count) (goes.suits s.count) goes.fewer (goes.good s.count (omega arith)) mode (s.count + 4) (working s a (g 0) mode b goes.enters) (omega arith))

  pub right-at : (k : ℕ) → k < s.count + 4 → RightHere s work (k + 1) (at k) (at (suc k))
  right-at zero h = unfold stage in (right-call s work a (g 0) (goes.suits 0) goes.few (goes.good 0 (omega arith)) goes.ours)
  right-at (suc zero) h = unfold stage in (right-confirm s work a (g 0) (goes.suits 0) goes.few (goes.good 0 (omega arith)))
  right-at (suc (suc zero)) h =
      rw (at-working 0 (omega arith)) (unfold stage in (right-enter s work a (g 0) (goes.suits 0) goes.few (goes.good 0 (omega arith)) mode b goes.enters))
  right-at (suc (suc (suc i))) h =
      subst (λ (n : ℕ). RightHere s work n (at (suc (suc (suc i)))) (at (suc (suc (suc (suc i)))))) {x = i + 4} {y = suc (suc (suc i)) + 1} (omega arith)
      (⊎_elim (λ l. right-last i (omega arith)) (λ l. right-working i l) (le-or-lt s.count i))

  module _ (rooms : ℕ → ℕ → ℕ) (large : (k i : ℕ) → reply_room ≤ rooms k i) (buffers : ℕ → ℕ) (long : (k : ℕ) → 64 ≤ buffers k) where
    abbrev pub course : ℕ → Talk
    course = converse rooms buffers work (record { turn = asking s work 1; meter = at 0 })

    rights : (k : ℕ) → k < s.count + 3 → RightHere s work (k + 1) (at k) (at (suc k))
    rights k h = right-at k (omega arith)

    last_built : good_message (tables_of s.edition) s.decimals (message_at s work (s.count + 3 + 1)) ≡ true
    last_built = for-meter s (at (s.count + 3)) (message_at s work (s.count + 3 + 1)) (same_at (s.count + 3)) (right-at (s.count + 3) (omega arith)).good

    pub courses : (k : ℕ) → k < s.count + 4 → course k ≡ record { turn = asking s work (k + 1); meter = at k }
    courses k h =
        talks s work goes.sound at (s.count + 3) (omega arith) same_at rights last_built rooms large buffers long k (omega arith)

    -- done after the last, and the meter listens again
    pub course-ends : course (s.count + 4) ≡ record { turn = stopped s (s.count + 4) 1; meter = idle 0 b (resting (g s.count)) (g s.count) }
    course-ends =
        let k = s.count + 3 in
        let n : k + 1 ≡ s.count + 4 = omega arith in
        let last = right-at k (omega arith) in
        ap course {x = s.count + 4} {y = suc k} (omega arith)
        ∙ talk-last s work goes.sound at k (omega arith) same_at rights last_built rooms large buffers long (answered_right (standing s (k + 1) 0) work) (at (suc k))
        (exchange-right s work goes.sound (rooms k) (large k) (buffers k) (long k) (k + 1) (omega arith) (omega arith) (at k) (at (suc k)) last)
        ∙ ap₂ (λ (u : Turn) (m : Meter). record { turn = u; meter = m }) (is-done s work goes.sound (k + 1) n ∙ ap (λ (i : ℕ). stopped s i 1) n)
        (ap at {x = suc k} {y = suc (suc (suc (suc s.count)))} (omega arith) ∙ at-end (suc s.count) (omega arith))
