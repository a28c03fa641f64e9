-- The sign-on, the confirmation and B0, given byte by byte to a meter in their mode. Assumes nothing.
use mathlib.Core.Path.{◌≡◌, refl, sym, ap, ap₂, subst, ◌∙◌}
use mathlib.Core.Bool.{Bool, true, false, cond, not, ◌&&◌, ◌||◌, and-true}
use mathlib.Core.Logic.{⊎_elim}
use mathlib.Core.List.{List, [], ◌∷◌, ◌++◌, append_assoc}
use Prim.Native.Nat.{ℕ, suc, ◌≤◌}
use native.Mathlib.Omega.{arith}
use borrow.Author.Tests.{eqb-true, eq-eqb, leb-true}
use lib.Dec.{eqb, leb, lit≤, lit<}
use lib.ListN.{length, take, drop, length-append, take-append-drop}
use lib.Seq.{length-take-le}
use Rattle.line.specs.Characters.{sent}
use Rattle.line.specs.Checksum.{bcc_of}
use Rattle.line.specs.Runs.{every}
use Rattle.line.proofs.Runs.{and_left, and_right, every_append, every_take, every_drop, every-weaker}
use Rattle.text.specs.Classes.{between, is_digit, is_printable, matching, same_text}
use Rattle.text.proofs.Matching.{matching-length, matching-append}
use Rattle.text.proofs.Decimal.{digit-high}
use Rattle.values.specs.Registers.{good_digits, good_serial}
use Rattle.values.specs.Texts.{parted, serial_text, wired_text}
use Rattle.values.proofs.Rules.{digits_long, serial-text-long, wired-text-long}
use Rattle.datasets.proofs.Characters.{Within, within}
use Rattle.frames.specs.Frames.{bare_frame, on_wire}
use Rattle.frames.specs.Commands.{B0}
use Rattle.frames.specs.Session.{sign_on, closing_sign_on, sign_on_to, wired_line, wired_sign_on, confirmation, good_speed, speed_said}
use Rattle.state.specs.Sizes.{reply_room}
use Rattle.state.specs.declared.Registers.{Registers}
use Rattle.state.specs.declared.Meter.{Meter}
use Rattle.state.specs.WellFormed.{tables_in, family_in, limit}
use Rattle.state.specs.Closing.{closing}
use Rattle.state.proofs.Parts.{formed-registers, formed-facts}
use Rattle.receiving.specs.declared.Hearing.TheVariants.{Line, Confirm}
use Rattle.deciding.specs.Verdicts.{Leave}
use Rattle.deciding.specs.Shape.{start_good, bare_shape}
use Rattle.deciding.specs.Verdict.{bare_verdict, shape_verdict, verdict}
use Rattle.state.specs.Link.{is_wired}
use Rattle.meter.specs.Link.{zeros, optical_call, wired_call, calls, closes, identified, slow_too}
use Rattle.meter.specs.Outcomes.{Outcome, silent, saying, ack}
use Rattle.meter.specs.Acting.{acted}
use Rattle.meter.specs.SignOn.{signs_on_by, closes_by, confirms, wants_block, wants_periods, wants_program}
use Rattle.meter.specs.Character.{line_ended, confirmed, heard, character}
use Rattle.commands.specs.Building.{good_choice}
use Rattle.reading.proofs.Leading.{or_cases}
use Rattle.dialogue.specs.Feeding.{said_in, at_last}
use Rattle.commands.specs.Messages.{call, close, call_to, call_wired, confirm, leave}
use Rattle.dialogue.specs.Messages.{names, digit_heard, outcome_of}
use Rattle.dialogue.proofs.Feeding.{Fed, fed-none, fed-next}
use Rattle.dialogue.proofs.Held.{Fit, resting, idle, holding, heard-as, held-is, holding-formed, begun}
use Rattle.dialogue.proofs.Rules.{besides, in_line, line-rule, ends-line, anything, confirmation-rule, ends-confirmation}
use Rattle.dialogue.proofs.Frames.{continued, frame-fed}

-- ---- a line

in_line-small : Within in_line (between 0 127)
unfolding between besides
in_line-small = within in_line (between 0 127) refl (λ x h. omega (arith, leb-true x 127 (and_left (leb x 127) _ h)))

-- answered, a period being closed before it, or nothing said
abbrev called : ℕ → Registers → Bool → Bool → Outcome
called a g ours closes =
    cond ours (saying 1 (resting g) (identified g.facts.link g.facts.edition g.facts.serial) (idle 1 a (resting g) g))
    (cond closes (saying 1 (resting g) (identified g.facts.link g.facts.edition g.facts.serial) (idle 1 a (resting g) (closing g))) (silent 0 (idle 0 a (resting g) g)))

module _ (a : ℕ) (g : Registers) (fit : Fit 0 a (resting g) g) (ys : List ℕ) (plain : every in_line ys ≡ true) (long : length ys ≤ 20) where
  abbrev link : ℕ
  link = g.facts.link

  line-ends : (ours shuts : Bool) → signs_on_by link (47 ∷ ys) g.facts.serial ≡ ours → closes_by link (47 ∷ ys) ≡ shuts
      → character (holding 0 a (resting g) g 47 ys) reply_room (sent 10) ≡ called a g ours shuts
  unfolding heard line_ended limit
  line-ends ours shuts e k =
      let f = holding-formed 0 a (resting g) g fit 47 in_line line-rule ys (omega arith) (every-weaker in_line (between 0 127) in_line-small ys plain) in
      heard-as (holding 0 a (resting g) g 47 ys) 10 Line f (lit< tt) (ends-line (length ys) _)
      ∙ ap (λ (t : List ℕ). called a g (signs_on_by link t g.facts.serial) (closes_by link t)) (held-is 47 ys) ∙ ap₂ (called a g) e k

  -- '/', some characters and LF
  line-fed : (ours shuts : Bool) → signs_on_by link (47 ∷ ys) g.facts.serial ≡ ours → closes_by link (47 ∷ ys) ≡ shuts
      → Fed (idle 0 a (resting g) g) (on_wire ((47 ∷ ys) ++ (10 ∷ []))) (at_last (suc (length ys)) (resting g) (said_in (called a g ours shuts))) (called a g ours shuts).next
  unfolding limit
  line-fed ours shuts e k =
      let o = called a g ours shuts in
      continued (idle 0 a (resting g) g) (holding 0 a (resting g) g 47 ys) o.next (47 ∷ ys) (10 ∷ []) (suc (length ys)) (resting g) (said_in o ∷ [])
      (begun 0 a (resting g) g fit 47 in_line line-rule ys plain (omega arith))
      (fed-next (holding 0 a (resting g) g 47 ys) (sent 10) o [] [] o.next (line-ends ours shuts e k) (fed-none o.next))

-- two serials look the same just where they are, whatever stands between their parts
same-parted : (x : ℕ) (s t : List ℕ) → length s ≡ 10 → length t ≡ 10 → matching eqb (parted x s) (parted x t) ≡ matching eqb s t
unfolding matching
same-parted x s t hs ht =
    let n : length (take 3 s) ≡ length (take 3 t) = length-take-le 3 s (omega arith) ∙ sym (length-take-le 3 t (omega arith)) in
    matching-append eqb (take 3 s) (take 3 t) (x ∷ drop 3 s) (x ∷ drop 3 t) n
    ∙ (rw (eq-eqb x x refl) (sym (matching-append eqb (take 3 s) (take 3 t) (drop 3 s) (drop 3 t) n)))
    ∙ ap₂ (matching eqb) (take-append-drop 3 s) (take-append-drop 3 t)

same-called : (s t : List ℕ) → length s ≡ 10 → length t ≡ 10 → same_text (sign_on_to s) (sign_on_to t) ≡ same_text s t
unfolding sign_on_to serial_text same_text matching
same-called s t hs ht =
    let n : length (serial_text s) ≡ length (serial_text t) = serial-text-long s hs ∙ sym (serial-text-long t ht) in
    matching-append eqb (serial_text s) (serial_text t) (33 ∷ 13 ∷ 10 ∷ []) (33 ∷ 13 ∷ 10 ∷ []) n
    ∙ and-true (matching eqb (serial_text s) (serial_text t)) ∙ same-parted 32 s t hs ht

same-wired : (s t : List ℕ) → length s ≡ 10 → length t ≡ 10 → same_text (wired_sign_on s) (wired_sign_on t) ≡ same_text s t
unfolding wired_line wired_text same_text matching
same-wired s t hs ht =
    let n : length (wired_text s) ≡ length (wired_text t) = wired-text-long s hs ∙ sym (wired-text-long t ht) in
    matching-append eqb (wired_text s) (wired_text t) (13 ∷ 10 ∷ []) (13 ∷ 10 ∷ []) n
    ∙ and-true (matching eqb (wired_text s) (wired_text t)) ∙ same-parted 46 s t hs ht

not-any : (s : List ℕ) → length s ≡ 10 → same_text (sign_on_to s) sign_on ≡ false
unfolding sign_on_to sign_on same_text
not-any s h =
    matching-length eqb (47 ∷ 63 ∷ (serial_text s ++ (33 ∷ 13 ∷ 10 ∷ []))) (47 ∷ 63 ∷ 33 ∷ 13 ∷ 10 ∷ [])
    (λ e. omega (arith, serial-text-long s h, length-append (serial_text s) (33 ∷ 13 ∷ 10 ∷ [])))

-- ---- which line is a sign-on of which link

never : (b : Bool) → (b && false) ≡ false
never true = refl
never false = refl

calls-any : (link : ℕ) (ours : List ℕ) → calls link sign_on ours ≡ not (is_wired link)
unfolding calls optical_call wired_call sign_on wired_line same_text matching
calls-any link ours = go (is_wired link)
  where
    go : (w : Bool) → cond w false true ≡ not w
    go true = refl
    go false = refl

closes_any : (link : ℕ) → closes link sign_on ≡ false
unfolding closes closing_sign_on sign_on same_text matching
closes_any link = never (not (is_wired link))

calls-closing : (link : ℕ) (ours : List ℕ) → calls link closing_sign_on ours ≡ false
unfolding calls optical_call wired_call closing_sign_on sign_on sign_on_to wired_line same_text matching
calls-closing link ours = go (is_wired link)
  where
    go : (w : Bool) → cond w false false ≡ false
    go true = refl
    go false = refl

closes-closing : (link : ℕ) → closes link closing_sign_on ≡ not (is_wired link)
unfolding closes closing_sign_on same_text matching
closes-closing link = and-true (not (is_wired link))

wire-deaf : (s ours : List ℕ) → wired_call (sign_on_to s) ours ≡ false
unfolding wired_call sign_on_to wired_line same_text matching
wire-deaf s ours = refl

window-deaf : (s ours : List ℕ) → optical_call (wired_sign_on s) ours ≡ false
unfolding optical_call sign_on sign_on_to wired_line same_text matching
window-deaf s ours = refl

calls-to : (link : ℕ) (s ours : List ℕ) → length s ≡ 10 → length ours ≡ 10
    → calls link (sign_on_to s) ours ≡ (not (is_wired link) && (same_text s ours || same_text s zeros))
unfolding calls
calls-to link s ours hs ho = go (is_wired link)
  where
    optical : optical_call (sign_on_to s) ours ≡ (same_text s ours || same_text s zeros)
    optical = unfold optical_call in rw (not-any s hs, same-called s ours hs ho, same-called s zeros hs refl)

    go : (w : Bool) → cond w (wired_call (sign_on_to s) ours) (optical_call (sign_on_to s) ours) ≡ (not w && (same_text s ours || same_text s zeros))
    go true = wire-deaf s ours
    go false = optical

calls-wired : (link : ℕ) (s ours : List ℕ) → length s ≡ 10 → length ours ≡ 10
    → calls link (wired_sign_on s) ours ≡ (is_wired link && (same_text s ours || same_text s zeros))
unfolding calls
calls-wired link s ours hs ho = go (is_wired link)
  where
    wired : wired_call (wired_sign_on s) ours ≡ (same_text s ours || same_text s zeros)
    wired = unfold wired_call in rw (same-wired s ours hs ho, same-wired s zeros hs refl)

    go : (w : Bool) → cond w (wired_call (wired_sign_on s) ours) (optical_call (wired_sign_on s) ours) ≡ (w && (same_text s ours || same_text s zeros))
    go true = wired
    go false = window-deaf s ours

closes-to : (link : ℕ) (s : List ℕ) → closes link (sign_on_to s) ≡ false
unfolding closes closing_sign_on sign_on_to same_text matching
closes-to link s = never (not (is_wired link))

closes-wired : (link : ℕ) (s : List ℕ) → closes link (wired_sign_on s) ≡ false
unfolding closes closing_sign_on wired_line same_text matching
closes-wired link s = never (not (is_wired link))

-- ---- what is held of them, after the '/'

digit-in-line : Within is_digit in_line
unfolding is_digit between besides
digit-in-line = within is_digit in_line refl (λ c h. omega (arith, digit-high c h))

parted-in-line : (x : ℕ) (s : List ℕ) → in_line x ≡ true → good_serial s ≡ true → every in_line (parted x s) ≡ true
unfolding good_digits every
parted-in-line x s k h =
    let all = every-weaker is_digit in_line digit-in-line s (and_right (eqb (length s) 10) (every is_digit s) h) in
    every_append in_line (take 3 s) (x ∷ drop 3 s) (every_take in_line 3 s all) (rw k (every_drop in_line 3 s all))

abbrev to_serial : List ℕ → List ℕ
to_serial s = 63 ∷ (serial_text s ++ (33 ∷ 13 ∷ []))

abbrev to_wired : List ℕ → List ℕ
to_wired s = 65 ∷ (wired_text s ++ (13 ∷ []))

to-serial-plain : (s : List ℕ) → good_serial s ≡ true → every in_line (to_serial s) ≡ true
unfolding serial_text every besides
to-serial-plain s h = every_append in_line (serial_text s) (33 ∷ 13 ∷ []) (parted-in-line 32 s refl h) refl

to-wired-plain : (s : List ℕ) → good_serial s ≡ true → every in_line (to_wired s) ≡ true
unfolding wired_text every besides
to-wired-plain s h = every_append in_line (wired_text s) (13 ∷ []) (parted-in-line 46 s refl h) refl

to-serial-is : (s : List ℕ) → (47 ∷ to_serial s) ++ (10 ∷ []) ≡ sign_on_to s
unfolding sign_on_to
to-serial-is s = ap (λ (l : List ℕ). 47 ∷ 63 ∷ l) (append_assoc (serial_text s) (33 ∷ 13 ∷ []) (10 ∷ []))

to-wired-is : (s : List ℕ) → (47 ∷ to_wired s) ++ (10 ∷ []) ≡ wired_sign_on s
unfolding wired_line
to-wired-is s = ap (λ (l : List ℕ). 47 ∷ 65 ∷ l) (append_assoc (wired_text s) (13 ∷ []) (10 ∷ []))

to-serial-long : (s : List ℕ) → length s ≡ 10 → length (to_serial s) ≡ 14
to-serial-long s h = omega (arith, serial-text-long s h, length-append (serial_text s) (33 ∷ 13 ∷ []))

to-wired-long : (s : List ℕ) → length s ≡ 10 → length (to_wired s) ≡ 13
to-wired-long s h = omega (arith, wired-text-long s h, length-append (wired_text s) (13 ∷ []))

module _ (a : ℕ) (g : Registers) (fit : Fit 0 a (resting g) g) where
  abbrev listener : Meter
  listener = idle 0 a (resting g) g

  abbrev there : ℕ
  there = g.facts.link

  pub call-fed : Fed listener (on_wire sign_on) (at_last 4 (resting g) (said_in (outcome_of listener call))) (outcome_of listener call).next
  unfolding sign_on outcome_of every besides
  call-fed = line-fed a g fit (63 ∷ 33 ∷ 13 ∷ []) refl (lit≤ tt) (not (is_wired there)) false (calls-any there g.facts.serial) (closes_any there)

  pub close-fed : Fed listener (on_wire closing_sign_on) (at_last 4 (resting g) (said_in (outcome_of listener close))) (outcome_of listener close).next
  unfolding closing_sign_on outcome_of every besides
  close-fed = line-fed a g fit (67 ∷ 33 ∷ 13 ∷ []) refl (lit≤ tt) false (not (is_wired there)) (calls-closing there g.facts.serial) (closes-closing there)

  own-long : length g.facts.serial ≡ 10
  own-long = digits_long 10 g.facts.serial (formed-facts g.facts (formed-registers g fit.registers).facts).serial

  -- a line with a serial in it, which calls the meter or closes nothing
  serial-fed : (line ys : List ℕ) (n : ℕ) (ours : Bool) → (47 ∷ ys) ++ (10 ∷ []) ≡ line → every in_line ys ≡ true → length ys ≡ n → n ≤ 20
      → calls there line g.facts.serial ≡ ours → closes there line ≡ false
      → Fed listener (on_wire line) (at_last (suc n) (resting g) (said_in (called a g ours false))) (called a g ours false).next
  serial-fed line ys n ours is plain long few e k =
      let o = called a g ours false in
      let c = ap (λ (l : List ℕ). calls there l g.facts.serial) is ∙ e in
      let d = ap (closes there) is ∙ k in
      subst (λ (t : List ℕ). Fed listener (on_wire t) (at_last (suc n) (resting g) (said_in o)) o.next) is
      (subst (λ (i : ℕ). Fed listener (on_wire ((47 ∷ ys) ++ (10 ∷ []))) (at_last (suc i) (resting g) (said_in o)) o.next) long
      (line-fed a g fit ys plain (omega (arith, long, few)) ours false c d))

  pub call-to-fed : (s : List ℕ) → good_serial s ≡ true
      → Fed listener (on_wire (sign_on_to s)) (at_last 15 (resting g) (said_in (outcome_of listener (call_to s)))) (outcome_of listener (call_to s)).next
  unfolding outcome_of names
  call-to-fed s h =
      let n = digits_long 10 s h in
      serial-fed (sign_on_to s) (to_serial s) 14 _ (to-serial-is s) (to-serial-plain s h) (to-serial-long s n) (lit≤ tt)
      (calls-to there s g.facts.serial n own-long) (closes-to there s)

  pub call-wired-fed : (s : List ℕ) → good_serial s ≡ true
      → Fed listener (on_wire (wired_sign_on s)) (at_last 14 (resting g) (said_in (outcome_of listener (call_wired s)))) (outcome_of listener (call_wired s)).next
  unfolding outcome_of names
  call-wired-fed s h =
      let n = digits_long 10 s h in
      serial-fed (wired_sign_on s) (to_wired s) 13 _ (to-wired-is s) (to-wired-plain s h) (to-wired-long s n) (lit≤ tt)
      (calls-wired there s g.facts.serial n own-long) (closes-wired there s)

-- ---- a confirmation

-- what is held of it, after its ACK
abbrev after_ack : ℕ → ℕ → List ℕ
after_ack v y = 48 ∷ v ∷ y ∷ 13 ∷ []

module _ (a : ℕ) (g : Registers) (fit : Fit 1 a (resting g) g) where
  abbrev Confirmed : ℕ → ℕ → Type 0
  Confirmed v y = Fed (idle 1 a (resting g) g) (on_wire (confirmation v y)) (at_last 5 (resting g) (said_in (outcome_of (idle 1 a (resting g) g) (confirm v y)))) (outcome_of (idle 1 a (resting g) g) (confirm v y)).next

  confirmation-fed : (v y : ℕ) → every anything (after_ack v y) ≡ true → every (between 0 127) (after_ack v y) ≡ true
      → confirmed (holding 1 a (resting g) g 6 (after_ack v y)) 10 false ≡ outcome_of (idle 1 a (resting g) g) (confirm v y) → Confirmed v y
  unfolding heard limit confirmation
  confirmation-fed v y plain small e =
      let held = holding 1 a (resting g) g 6 (after_ack v y) in
      let o = outcome_of (idle 1 a (resting g) g) (confirm v y) in
      let f = holding-formed 1 a (resting g) g fit 6 anything confirmation-rule (after_ack v y) (lit< tt) small in
      let ends = heard-as held 10 Confirm f (lit< tt) (ends-confirmation _ 10) ∙ e in
      continued (idle 1 a (resting g) g) held o.next (6 ∷ after_ack v y) (10 ∷ []) 5 (resting g) (said_in o ∷ [])
      (begun 1 a (resting g) g fit 6 anything confirmation-rule (after_ack v y) plain (lit< tt))
      (fed-next held (sent 10) o [] [] o.next ends (fed-none o.next))

  -- each of the four that the head says, at either speed
  pub record Choices (v : ℕ) : Type 0 where
    pub zero : Confirmed v 48
    pub one : Confirmed v 49
    pub six : Confirmed v 54
    pub seven : Confirmed v 55

  slow-fed : Choices 48
  unfolding confirmed confirms wants_block wants_periods wants_program confirmation speed_said same_text matching outcome_of digit_heard every between
  slow-fed = by (slow_too g.facts.link) refl
    where
      by : (b : Bool) → slow_too g.facts.link ≡ b → Choices 48
      by true e = record { zero = confirmation-fed 48 48 refl refl (rw e); one = confirmation-fed 48 49 refl refl (rw e); six = confirmation-fed 48 54 refl refl (rw e); seven = confirmation-fed 48 55 refl refl (rw e) }
      by false e = record { zero = confirmation-fed 48 48 refl refl (rw e); one = confirmation-fed 48 49 refl refl (rw e); six = confirmation-fed 48 54 refl refl (rw e); seven = confirmation-fed 48 55 refl refl (rw e) }

  fast-fed : Choices 53
  unfolding confirmed confirms wants_block wants_periods wants_program confirmation speed_said same_text matching outcome_of digit_heard every between
  fast-fed = by (slow_too g.facts.link) refl
    where
      by : (b : Bool) → slow_too g.facts.link ≡ b → Choices 53
      by true e = record { zero = confirmation-fed 53 48 refl refl refl; one = confirmation-fed 53 49 refl refl (rw e); six = confirmation-fed 53 54 refl refl (rw e); seven = confirmation-fed 53 55 refl refl (rw e) }
      by false e = record { zero = confirmation-fed 53 48 refl refl refl; one = confirmation-fed 53 49 refl refl (rw e); six = confirmation-fed 53 54 refl refl (rw e); seven = confirmation-fed 53 55 refl refl (rw e) }

  any-speed : (v : ℕ) → good_speed v ≡ true → Choices v
  unfolding good_speed
  any-speed v h = ⊎_elim (is 48 slow-fed) (is 53 fast-fed) (or_cases (eqb v 48) (eqb v 53) h)
    where
      is : (n : ℕ) → Choices n → eqb v n ≡ true → Choices v
      is n f e = subst Choices (sym (eqb-true v n e)) f

  pub confirm-fed : (v y : ℕ) → good_speed v ≡ true → good_choice y ≡ true → Confirmed v y
  unfolding good_choice
  confirm-fed v y k h =
      let c = any-speed v k in
      ⊎_elim
      (λ e. ⊎_elim (λ f. ⊎_elim (is 48 c.zero) (is 54 c.six) (or_cases (eqb y 48) (eqb y 54) f)) (is 55 c.seven) (or_cases (eqb y 48 || eqb y 54) (eqb y 55) e))
      (is 49 c.one) (or_cases ((eqb y 48 || eqb y 54) || eqb y 55) (eqb y 49) h)
    where
      is : (n : ℕ) → Confirmed v n → eqb y n ≡ true → Confirmed v y
      is n f e = subst (Confirmed v) (sym (eqb-true y n e)) f

-- ---- B0

leaves : (tables family mode : ℕ) → (leb 2 mode && leb mode 4) ≡ true → verdict tables family mode (1 ∷ 66 ∷ 48 ∷ 3 ∷ []) false (bcc_of (66 ∷ 48 ∷ 3 ∷ [])) ≡ Leave
unfolding verdict shape_verdict bare_verdict bare_shape start_good is_printable between
leaves tables family mode h = rw (eq-eqb (bcc_of (66 ∷ 48 ∷ 3 ∷ [])) _ refl, h)

pub leave-fed : (mode a s : ℕ) (g : Registers) → Fit mode a s g → (leb 2 mode && leb mode 4) ≡ true
    → Fed (idle mode a s g) (on_wire (bare_frame B0)) (at_last 4 s (said_in (outcome_of (idle mode a s g) leave))) (outcome_of (idle mode a s g) leave).next
unfolding bare_frame outcome_of every besides acted
leave-fed mode a s g fit h =
    frame-fed mode a s g fit (leb-true 2 mode (and_left (leb 2 mode) (leb mode 4) h)) (66 ∷ 48 ∷ []) refl (lit≤ tt) (ack s (idle 0 a (resting g) g))
    (ap (acted (holding mode a s g 1 (66 ∷ 48 ∷ 3 ∷ []))) (leaves (tables_in g) (family_in g) mode h))
