-- Reads that go well: each is answered with its block, which reads back, and the meter is as it was. Assumes nothing.
use mathlib.Core.Path.{◌≡◌, refl, sym, ap, ap₂, subst, ◌∙◌}
use mathlib.Core.Bool.{true, false, ◌||◌}
use mathlib.Core.List.{List}
use Prim.Native.Nat.{ℕ, suc, ◌+◌, ◌*◌, ◌/◌, ◌≤◌, ◌<◌}
use native.Mathlib.Omega.{arith}
use lib.Dec.{eqb}
use lib.ListN.{length, get_or}
use Rattle.values.specs.Edition.{tables_of}
use Rattle.frames.specs.Frames.{block_of, on_wire}
use Rattle.state.specs.declared.Registers.{Registers}
use Rattle.state.specs.declared.Meter.{Meter}
use Rattle.state.specs.WellFormed.{registers_good, tables_in, family_in}
use Rattle.state.specs.Link.{is_wired}
use Rattle.state.specs.Setting.{with_attempts}
use Rattle.state.proofs.Parts.{formed}
use Rattle.replies.specs.Answers.{asked_data}
use Rattle.meter.specs.Outcomes.{Outcome}
use Rattle.commands.specs.Spoken.{good_fields}
use Rattle.commands.specs.Messages.{Message, command, good_message}
use Rattle.judging.specs.Right.{tells}
use Rattle.session.specs.declared.Session.{Session}
use Rattle.session.specs.Messages.{read_at, work_at, message_at}
use Rattle.session.specs.Starting.{Told, Opening, Opens, session_of}
use Rattle.session.specs.Turns.{right_read, right_work}
use Rattle.dialogue.specs.Messages.{allowed_in, outcome_of}
use Rattle.dialogue.proofs.Held.{Fit, resting, idle, idle-formed}
use Rattle.dialogue.proofs.Dialogue.{idle-listens}
use Rattle.readback.proofs.Blocks.{block-long}
use Rattle.recital.proofs.Recital.{answer-block-reads-back}
use Rattle.conversation.specs.Conversation.{Talk, reply_to}
use Rattle.conversation.specs.Ends.{Waits, Calls, Enters, Roomy, said_after, Stops, ReadBack, ReadsDone, ForMeter}
use Rattle.conversation.proofs.Right.{block-is-no-nak}
use Rattle.conversation.proofs.Telling.{Answered, read-answered, read_right}
use Rattle.conversation.proofs.Exchange.{Right, message-work, reply-is}
use Rattle.conversation.proofs.Course.{working, renamed, stage, Goes, at-working, right-at}
use Rattle.conversation.proofs.Started.{sound, ReadsBegan, reads-began}
use Rattle.conversation.proofs.Done.{waits-is, ours, Entered, entered, few-after, known-mode, stands_at, all_done}

-- ---- one read

module _ (work : List ℕ) (i mode b : ℕ) (g : Registers) (fit : Fit mode b 5 g) (k : (eqb mode 3 || eqb mode 4) ≡ true) (built : good_fields (tables_in g) (family_in g) (read_at work i) ≡ true) where
  abbrev letter : ℕ
  letter = get_or work (i * 2) 0

  abbrev number : ℕ
  number = get_or work (i * 2 + 1) 0

  pub answered_at : Answered g (read_at work i) (tells (family_in g) letter number)
  unfolding read_at
  answered_at = read-answered g fit.registers number letter built

  pub right-read : Right (command (read_at work i)) (idle mode b 5 g) (idle mode b 5 g) (right_read (tables_in g) (family_in g) letter number)
  unfolding good_message outcome_of
  right-read =
      let a = answered_at in
      let content = asked_data g a.asks in
      let m = idle mode b 5 g in
      record {
        good = built;
        hears = idle-listens mode b 5 g (command (read_at work i)) fit (unfold allowed_in in (a.allowed mode k));
        reply = block_of content;
        said = ap (λ (x : Outcome). x.reply) (a.obeys m);
        some = λ z. omega (arith, block-long content);
        no-nak = block-is-no-nak content;
        right = read_right g fit.registers letter number (unfold read_at in built) a.asks a.can a.tells-it;
        after = ap (λ (x : Outcome). x.next) (a.obeys m);
      }

-- ---- all reads

module _ (t : Told) (work : List ℕ) (o : Opening) (r : ReadsBegan t work o) (kind : t.kind ≡ 0) (a : ℕ) (g : Registers) (same : (t.edition ≡ g.facts.edition) × (t.decimals ≡ g.facts.decimals)) (few : a ≤ 3) (good : registers_good g ≡ true) (optical : is_wired g.facts.link ≡ false)
    (calls : Calls t (idle 0 a (resting g) g)) (enters : Enters t (idle 0 a (resting g) g)) where
  abbrev count : ℕ
  count = length work / 2

  abbrev s : Session
  s = session_of t count

  abbrev m : Meter
  m = idle 0 a (resting g) g

  abbrev e : Entered t count o r.began m
  e = entered t count o r.began m enters

  works-in : (eqb e.mode 3 || eqb e.mode 4) ≡ true
  works-in = working s a g e.mode e.attempts e.as_said

  fit-work : Fit e.mode e.attempts 5 g
  fit-work =
      let k = known-mode s a g e.mode e.attempts e.as_said in
      record { known = k.0; attempts = few-after s a g e.mode e.attempts few e.as_said; speed = k.1; registers = good }

  is_read : (i : ℕ) → work_at s work i ≡ read_at work i
  unfolding work_at session_of
  is_read i = rw kind

  judged-so : (i : ℕ) (reply : List ℕ) → right_work s work i reply ≡ right_read (tables_in g) (family_in g) (get_or work (i * 2) 0) (get_or work (i * 2 + 1) 0) reply
  unfolding right_work session_of
  judged-so i reply = rw (kind, same.0, same.1)

  counted : s.count ≡ count
  unfolding session_of
  counted = refl

  same-meter : (s.edition ≡ g.facts.edition) × (s.decimals ≡ g.facts.decimals)
  unfolding session_of
  same-meter = same

  -- the reads are such as this meter's edition and family have
  each-built : (i : ℕ) → i < count → good_fields (tables_in g) (family_in g) (read_at work i) ≡ true
  each-built i h = ap₂ (λ (e family : ℕ). good_fields (tables_of e) family (read_at work i)) (sym same.0) (sym same.1) ∙ r.each i h

  goes : Goes s work a e.mode e.attempts (λ i. g)
  goes =
      record {
        sound = sound t count o r.began;
        suits = λ i. same-meter;
        few = few;
        fewer = fit-work.attempts;
        good = λ i h. good;
        optical = λ i. optical;
        ours = ours t count o r.began m optical calls;
        enters = e.as_said;
        works = λ i h.
            renamed (command (read_at work i)) (command (work_at s work i)) _ _ (right_work s work i) (right_read (tables_in g) (family_in g) (get_or work (i * 2) 0) (get_or work (i * 2 + 1) 0))
            (ap command (is_read i)) (judged-so i)
            (right-read work i e.mode e.attempts g fit-work works-in (each-built i (omega (arith, counted))));
      }

  module _ (rooms : ℕ → ℕ → ℕ) (buffers : ℕ → ℕ) (roomy : Roomy rooms buffers) where
    abbrev at : ℕ → Meter
    at = stage s.count a e.mode e.attempts (λ i. g)

    -- the reply to a read is its outcome's
    said-so : (i : ℕ) → i < count → said_after t work o m rooms buffers (i + 3) ≡ (outcome_of (idle e.mode e.attempts 5 g) (command (read_at work i))).reply
    said-so i h =
        let right = right-at s work a e.mode e.attempts (λ j. g) goes (i + 3) (omega (arith, counted)) in
        let here : at (i + 3) ≡ idle e.mode e.attempts 5 g =
        ap at {x = i + 3} {y = suc (suc (suc i))} (omega arith) ∙ at-working s work a e.mode e.attempts (λ j. g) goes i (omega (arith, counted)) in
        let says : message_at s work (i + 3 + 1) ≡ command (read_at work i) =
        ap (message_at s work) {x = i + 3 + 1} {y = i + 4} (omega arith) ∙ message-work s work i (omega (arith, counted)) ∙ ap command (is_read i) in
        ap (λ (x : Talk). reply_to x.meter (rooms (i + 3)) (on_wire x.turn.text))
        (stands_at t work o count r.began a e.mode e.attempts (λ j. g) goes rooms buffers roomy (i + 3) (omega arith))
        ∙ reply-is (at (i + 3)) (message_at s work (i + 3 + 1)) right.good right.hears (rooms (i + 3)) (roomy.replies (i + 3))
        ∙ ap₂ (λ (x : Meter) (y : Message). (outcome_of x y).reply) here says

    read_back : (i : ℕ) → i < count → ReadBack t work o m rooms buffers i
    unfolding outcome_of
    read_back i h =
        let answer = answered_at work i e.mode e.attempts g fit-work works-in (each-built i h) in
        record {
          asks = answer.asks;
          decided = answer.decided;
          said = said-so i h ∙ ap (λ (x : Outcome). x.reply) (answer.obeys (idle e.mode e.attempts 5 g));
          reads = answer-block-reads-back (idle e.mode e.attempts 5 g) (idle-formed e.mode e.attempts 5 g fit-work) answer.asks answer.can;
        }

    reads_so : ReadsDone t work o m rooms buffers
    reads_so =
        record {
          done =
              subst (λ (b : ℕ). Stops t work o m rooms buffers (count + 4) 1 (with_attempts m b)) (sym e.after)
              (all_done t work o count r.began a e.mode e.attempts (λ j. g) goes rooms buffers roomy);
          each = read_back;
        }

-- any started session of reads, with any meter that waits for it
pub reads-done : (t : Told) (work : List ℕ) (room : ℕ) (o : Opening) → Opens t work room o → o.number ≡ 1 → t.kind ≡ 0
    → (m : Meter) → Waits m → ForMeter t m → Calls t m → Enters t m → (rooms : ℕ → ℕ → ℕ) (buffers : ℕ → ℕ) → Roomy rooms buffers → ReadsDone t work o m rooms buffers
reads-done t work room o opens one kind m w same calls enters rooms buffers roomy =
    let f = formed m w.formed in
    let e = waits-is m w in
    subst (λ (x : Meter). ReadsDone t work o x rooms buffers) (sym e)
    (reads_so t work o (reads-began t work room o opens one kind) kind m.attempts m.registers same f.attempts f.registers w.optical
    (subst (Calls t) e calls) (subst (Enters t) e enters) rooms buffers roomy)
