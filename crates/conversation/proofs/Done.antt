-- A session that goes well with a meter that waits: done after as many exchanges as there are messages of work and four more. Assumes nothing.
use mathlib.Core.Path.{◌≡◌, refl, sym, ap, ap₂, subst, ◌∙◌}
use mathlib.Core.Bool.{true, false}
use mathlib.Core.List.{List}
use Prim.Native.Nat.{ℕ, ◌+◌, ◌≤◌, ◌<◌}
use native.Mathlib.Omega.{arith}
use borrow.Author.Tests.{eq-eqb}
use lib.Dec.{lit≤}
use lib.ListN.{replicate}
use Rattle.text.specs.Classes.{same_text}
use Rattle.text.proofs.Matching.{same_self}
use Rattle.values.specs.Registers.{good_serial, good_password}
use Rattle.state.specs.declared.Registers.{Registers}
use Rattle.state.specs.declared.Meter.{Meter}
use Rattle.state.specs.WellFormed.{speed_good, registers_good}
use Rattle.state.proofs.Parts.{formed, rest-low, rest-good, fast-good}
use Rattle.state.specs.Link.{link_of, is_wired}
use Rattle.session.specs.declared.Session.{Session}
use Rattle.session.specs.Messages.{message_at}
use Rattle.session.specs.Starting.{Told, Opening, session_of}
use Rattle.session.specs.Standing.{fact_good}
use Rattle.session.proofs.Laws.{told_is}
use Rattle.dialogue.specs.Messages.{Listens}
use Rattle.dialogue.proofs.Held.{resting, idle, idle-is, idle-formed}
use Rattle.conversation.specs.Conversation.{Talk, begun, converse, asking, stopped}
use Rattle.conversation.specs.Ends.{Waits, Calls, anyone, by-serial, by-zeros, Enters, plainly, by-password, attempts_after, Suits, Roomy, StopsAfter, talk_of, Stops}
use Rattle.conversation.proofs.Exchange.{Ended, stays-long}
use Rattle.conversation.proofs.Course.{Ours, any-meter, this-meter, EntersAs, as_plain, as-known, stage, stage-optical, Goes, for-meter, same_at, right-at, courses, course-ends}
use Rattle.conversation.proofs.Spoilt.{or_right}
use Rattle.conversation.proofs.Started.{Began, sound, begins}

-- ---- the meter that waits

pub waits-is : (m : Meter) → Waits m → m ≡ idle 0 m.attempts (resting m.registers) m.registers
waits-is m w =
    let f = formed m w.formed in
    let slow : m.speed ≡ resting m.registers = rest-low (link_of m) m.mode m.speed (omega (arith, w.listening)) f.speed in
    idle-is m w.formed w.empty ∙ ap₂ (λ (mode speed : ℕ). idle mode m.attempts speed m.registers) w.listening slow

pub waiting : (a : ℕ) (g : Registers) → a ≤ 3 → registers_good g ≡ true → is_wired g.facts.link ≡ false → Waits (idle 0 a (resting g) g)
waiting a g few good optical =
    record {
      formed = idle-formed 0 a (resting g) g (record { known = lit≤ tt; attempts = few; speed = rest-good g.facts.link 0; registers = good });
      optical = optical;
      listening = refl;
      empty = refl;
    }

-- ---- whom it calls, and how it enters

module _ (t : Told) (count : ℕ) (o : Opening) (b : Began t count o) where
  pub ours : (m : Meter) → is_wired (link_of m) ≡ false → Calls t m → Ours (session_of t count) m.registers
  unfolding session_of
  ours m optical (anyone h) = any-meter optical (rw h)
  ours m optical (by-serial h e) =
      this-meter optical (rw h) (rw h (told_is t.named (good_serial t.serial) b.named h)) (rw h (rw (e, same_self m.registers.facts.serial)))
  ours m optical (by-zeros h e) =
      this-meter optical (rw h) (rw h (told_is t.named (good_serial t.serial) b.named h))
      (rw h (or_right (same_text t.serial m.registers.facts.serial) _ (rw e (same_self (replicate 10 48)))))

  -- the mode and the attempts that an entry leads to
  pub record Entered (m : Meter) : Type 0 where
    pub mode : ℕ
    pub attempts : ℕ
    pub as_said : EntersAs (session_of t count) m.attempts m.registers mode attempts
    pub after : attempts_after t m ≡ attempts

  pub knows : (m : Meter) → t.access ≡ 1 → t.password ≡ m.registers.facts.password → m.attempts < 3 → EntersAs (session_of t count) m.attempts m.registers 4 0
  unfolding session_of
  knows m h e few = as-known (rw h) (rw h (told_is t.access (good_password t.password) b.access h)) (rw h e) few

  pub entered : (m : Meter) → Enters t m → Entered m
  unfolding session_of attempts_after
  entered m (plainly h) = record { mode = 3; attempts = m.attempts; as_said = as_plain (rw h); after = rw h }
  entered m (by-password h e few) = record { mode = 4; attempts = 0; as_said = knows m h e few; after = rw h }

pub few-after : (s : Session) (a : ℕ) (g : Registers) (mode b : ℕ) → a ≤ 3 → EntersAs s a g mode b → b ≤ 3
few-after s a g mode b few (as_plain h) = few
few-after s a g mode b few (as-known h p k l) = lit≤ tt

pub known-mode : (s : Session) (a : ℕ) (g : Registers) (mode b : ℕ) → EntersAs s a g mode b → (mode ≤ 4) × (speed_good g.facts.link mode 5 ≡ true)
known-mode s a g mode b (as_plain h) = (lit≤ tt, fast-good g.facts.link 3 (lit≤ tt))
known-mode s a g mode b (as-known h p k l) = (lit≤ tt, fast-good g.facts.link 4 (lit≤ tt))

-- ---- the whole

module _ (t : Told) (work : List ℕ) (o : Opening) (count : ℕ) (began : Began t count o) (a mode b : ℕ) (g : ℕ → Registers)
    (goes : Goes (session_of t count) work a mode b g) (rooms : ℕ → ℕ → ℕ) (buffers : ℕ → ℕ) (roomy : Roomy rooms buffers) where
  abbrev s : Session
  s = session_of t count

  counted : s.count ≡ count
  unfolding session_of
  counted = refl

  abbrev talk : ℕ → Talk
  talk = talk_of t work o (idle 0 a (resting (g 0)) (g 0)) rooms buffers

  abbrev from : ℕ → Talk
  from = converse rooms buffers work (record { turn = asking s work 1; meter = stage s.count a mode b g 0 })

  from_start : (k : ℕ) → talk k ≡ from k
  unfolding stage
  from_start k = ap (λ (x : Talk). converse rooms buffers work x k) (begins t count o began work (idle 0 a (resting (g 0)) (g 0)))

  -- where it stands after some of the exchanges, and after all
  pub stands_at : (k : ℕ) → k < count + 4 → talk k ≡ record { turn = asking s work (k + 1); meter = stage s.count a mode b g k }
  stands_at k h = from_start k ∙ courses s work a mode b g goes rooms roomy.replies buffers roomy.messages k (omega (arith, counted))

  ends_so : talk (count + 4) ≡ record { turn = stopped s (count + 4) 1; meter = idle 0 b (resting (g count)) (g count) }
  ends_so =
      from_start (count + 4)
      ∙ ap from {x = count + 4} {y = s.count + 4} (omega (arith, counted))
      ∙ course-ends s work a mode b g goes rooms roomy.replies buffers roomy.messages
      ∙ ap (λ (n : ℕ). record { turn = stopped s (n + 4) 1; meter = idle 0 b (resting (g n)) (g n) }) counted

  ended : Ended s (count + 4) 1
  unfolding fact_good
  ended =
      record {
        sound = sound t count o began;
        low = omega arith;
        high = omega (arith, counted);
        some = λ e. omega arith;
        known = eq-eqb (count + 4) (s.count + 4) (omega (arith, counted));
      }

  pub all_done : Stops t work o (idle 0 a (resting (g 0)) (g 0)) rooms buffers (count + 4) 1 (idle 0 b (resting (g count)) (g count))
  all_done =
      subst (λ (x : Session). StopsAfter x work talk (count + 4) 1 (idle 0 b (resting (g count)) (g count))) (sym (ap (λ (x : Opening). x.session) began.is))
      (record {
        within = omega (arith, counted);
        going = λ k h. ap (λ (x : Talk). x.turn) (stands_at k h);
        built = λ k h.
            for-meter s (stage s.count a mode b g k) (message_at s work (k + 1)) (same_at s work a mode b g goes k)
            (right-at s work a mode b g goes k (omega (arith, counted))).good;
        suits = λ k h. subst (Suits s) (sym (ap (λ (x : Talk). x.meter) (stands_at k h))) (same_at s work a mode b g goes k);
        heard = λ k h.
            subst (λ (x : Meter). Listens x (message_at s work (k + 1))) (sym (ap (λ (x : Talk). x.meter) (stands_at k h)))
            (right-at s work a mode b g goes k (omega (arith, counted))).hears;
        optical = λ k h. ap (λ (x : Talk). is_wired (link_of x.meter)) (stands_at k h) ∙ stage-optical s.count a mode b g goes.optical k;
        stops = ap (λ (x : Talk). x.turn) ends_so;
        meter = ap (λ (x : Talk). x.meter) ends_so;
        waits = waiting b (g count) goes.fewer (goes.good count (omega (arith, counted))) (goes.optical count);
        stays = stays-long s work (count + 4) 1 ended rooms buffers (begun o (idle 0 a (resting (g 0)) (g 0))) (idle 0 b (resting (g count)) (g count)) ends_so;
      })
