-- Every message of the head, given byte by byte to a meter that listens for it, is taken as what it is. Assumes nothing.
use mathlib.Core.Path.{◌≡◌, refl, sym, ap₂, subst, ◌∙◌}
use mathlib.Core.Bool.{Bool, true, false, cond, not, ◌&&◌, ◌||◌}
use mathlib.Core.List.{List, [], ◌∷◌, ◌++◌}
use Prim.Native.Nat.{ℕ, suc, ◌-◌, ◌≤◌}
use native.Mathlib.Omega.{arith}
use borrow.Author.Tests.{eqb-true, le-ltb}
use lib.Dec.{eqb, lit≤}
use lib.ListN.{length, take, drop, length-append, length-map}
use lib.Seq.{take-append_seam}
use Rattle.line.specs.Characters.{sent}
use Rattle.line.specs.Checksum.{bcc_of}
use Rattle.line.proofs.Runs.{and_left, and_right}
use Rattle.text.specs.Classes.{same_text}
use Rattle.text.specs.Writing.{holding}
use Rattle.values.specs.Texts.{serial_text}
use Rattle.values.proofs.Rules.{digits_long, serial-text-long}
use Rattle.frames.specs.Frames.{closed, frame_of, bare_frame, on_wire}
use Rattle.frames.specs.Session.{sign_on, closing_sign_on, sign_on_to, wired_sign_on, confirmation, good_speed}
use Rattle.frames.proofs.Lines.{wired-line-long}
use Rattle.state.specs.declared.Registers.{Registers}
use Rattle.state.specs.WellFormed.{tables_in, family_in}
use Rattle.state.specs.declared.Meter.{Meter}
use Rattle.state.specs.Link.{link_of, is_wired}
use Rattle.state.proofs.Parts.{rest-low}
use Rattle.meter.specs.Link.{slow_too}
use Rattle.meter.specs.Outcomes.{Outcome}
use Rattle.commands.specs.Building.{Built, good_choice, built_in, kept_or, Builds}
use Rattle.commands.specs.Spoken.{Command, enter, password, read_clock, read_serial, read_account, read_total, read_zone, read_total_out, read_zone_out, read_table, write_clock, write_account, write_table, spoken}
use Rattle.dialogue.specs.Feeding.{said_in, at_last}
use Rattle.commands.specs.Messages.{Message, call, close, call_to, call_wired, confirm, command, leave, text_of, good_message}
use Rattle.dialogue.specs.Messages.{allowed_in, tried_with, obeyed, names, digit_heard, heard_on, outcome_of, Listens, Taken, misheard}
use Rattle.dialogue.proofs.Feeding.{Fed, fed-in}
use Rattle.dialogue.proofs.Held.{Fit, resting, idle, idle-formed, idle-is, fit_is}
use Rattle.dialogue.proofs.Commands.{body_of, command-fed}
use Rattle.dialogue.proofs.Session.{call-fed, close-fed, call-to-fed, call-wired-fed, confirm-fed, leave-fed}

-- nothing at each byte but the last, and there what the message comes to
abbrev pub FedAs : Meter → Message → Type 0
FedAs m x = Fed m (on_wire (text_of x)) (at_last (length (text_of x) - 1) m.speed (said_in (outcome_of m x))) (outcome_of m x).next

long-to : (s : List ℕ) → length s ≡ 10 → length (sign_on_to s) - 1 ≡ 15
unfolding sign_on_to
long-to s h = omega (arith, serial-text-long s h, length-append (serial_text s) (33 ∷ 13 ∷ 10 ∷ []))

long-wired : (s : List ℕ) → length s ≡ 10 → length (wired_sign_on s) - 1 ≡ 14
long-wired s h = omega (arith, wired-line-long 65 s h)

pub long-command : (c : Command) → length (spoken c) - 1 ≡ suc (suc (length (body_of c)))
unfolding spoken frame_of closed
long-command c =
    let b = body_of c in
    omega (arith, length-append b (3 ∷ []), length-append (b ++ (3 ∷ [])) (bcc_of (b ++ (3 ∷ [])) ∷ []))

-- in the one mode that allows it
at-mode : (mode n a s : ℕ) (g : Registers) (x : Message) → eqb mode n ≡ true → FedAs (idle n a s g) x → FedAs (idle mode a s g) x
at-mode mode n a s g x e f = subst (λ (k : ℕ). FedAs (idle k a s g) x) (sym (eqb-true mode n e)) f

-- and in modes 0 and 1 the speed is that of the link
at_low : (mode n a s : ℕ) (g : Registers) (x : Message) → n ≤ 1 → eqb mode n ≡ true → Fit mode a s g → (Fit n a (resting g) g → FedAs (idle n a (resting g) g) x) → FedAs (idle mode a s g) x
at_low mode n a s g x low e fit f =
    let here : Fit n a s g = subst (λ (k : ℕ). Fit k a s g) (eqb-true mode n e) fit in
    let slow : s ≡ resting g = rest-low g.facts.link n s low here.speed in
    at-mode mode n a s g x e (subst (λ (k : ℕ). FedAs (idle n a k g) x) (sym slow) (f (subst (λ (k : ℕ). Fit n a k g) slow here)))

pub message-fed : (mode a s : ℕ) (g : Registers) (x : Message) → Fit mode a s g → good_message (tables_in g) (family_in g) x ≡ true → allowed_in x mode ≡ true → FedAs (idle mode a s g) x
unfolding text_of good_message allowed_in
message-fed mode a s g call fit h k = unfold sign_on in (at_low mode 0 a s g call (lit≤ tt) k fit (call-fed a g))
message-fed mode a s g close fit h k = unfold closing_sign_on in (at_low mode 0 a s g close (lit≤ tt) k fit (close-fed a g))
message-fed mode a s g (call_to x) fit h k =
    at_low mode 0 a s g (call_to x) (lit≤ tt) k fit
    (λ f.
    subst (λ (n : ℕ). Fed (idle 0 a (resting g) g) (on_wire (sign_on_to x)) (at_last n (resting g) (said_in (outcome_of (idle 0 a (resting g) g) (call_to x)))) (outcome_of (idle 0 a (resting g) g) (call_to x)).next)
    (sym (long-to x (digits_long 10 x h))) (call-to-fed a g f x h))
message-fed mode a s g (call_wired x) fit h k =
    at_low mode 0 a s g (call_wired x) (lit≤ tt) k fit
    (λ f.
    subst (λ (n : ℕ). Fed (idle 0 a (resting g) g) (on_wire (wired_sign_on x)) (at_last n (resting g) (said_in (outcome_of (idle 0 a (resting g) g) (call_wired x)))) (outcome_of (idle 0 a (resting g) g) (call_wired x)).next)
    (sym (long-wired x (digits_long 10 x h))) (call-wired-fed a g f x h))
message-fed mode a s g (confirm v y) fit h k =
    unfold confirmation in
    at_low mode 1 a s g (confirm v y) (lit≤ tt) k fit
    (λ f. confirm-fed a g f v y (and_left (good_speed v) (good_choice y) h) (and_right (good_speed v) (good_choice y) h))
message-fed mode a s g (command c) fit h k =
    unfold outcome_of in
    subst (λ (n : ℕ). Fed (idle mode a s g) (on_wire (spoken c)) (at_last n s (said_in (obeyed (idle mode a s g) c))) (obeyed (idle mode a s g) c).next)
    (sym (long-command c)) (command-fed mode a s g c fit h k)
message-fed mode a s g leave fit h k = unfold bare_frame closed in leave-fed mode a s g fit k

-- there are meters that listen: good registers and an empty receiver, in any mode that allows the message
pub idle-listens : (mode a s : ℕ) (g : Registers) (x : Message) → Fit mode a s g → allowed_in x mode ≡ true → Listens (idle mode a s g) x
idle-listens mode a s g x fit k = record { formed = idle-formed mode a s g fit; empty = refl; allowed = k }

-- what the head says is what the meter takes
pub message-taken : (m : Meter) (x : Message) → good_message (tables_in m.registers) (family_in m.registers) x ≡ true → Listens m x → Taken m x (on_wire (text_of x))
message-taken m x h l =
    let f = l.formed in
    let fed = subst (λ (n : Meter). FedAs n x) (sym (idle-is m f l.empty)) (message-fed m.mode m.attempts m.speed m.registers x (fit_is m f) h l.allowed) in
    record {
      said = λ rooms room. rw (length-map (text_of x) sent) (fed-in m rooms (on_wire (text_of x)) _ _ room fed).0;
      after = λ rooms room. (fed-in m rooms (on_wire (text_of x)) _ _ room fed).1;
    }

-- and that is what stands in the buffer of a builder whose promise is kept
pub built-is-said : (tables family : ℕ) (x : Message) (buf : List ℕ) (r : Built) (after : List ℕ) → good_message tables family x ≡ true → 64 ≤ length buf
    → Builds buf (good_message tables family x) (on_wire (text_of x)) r after → take r.length after ≡ on_wire (text_of x)
unfolding built_in kept_or holding
built-is-said tables family x buf r after h room b =
    let bytes = on_wire (text_of x) in
    let k : r ≡ record { number = 1; length = length bytes } = rw (h, le-ltb (length buf) 64 room) at b.answer in
    let w : after ≡ bytes ++ drop (length bytes) buf = rw (h, le-ltb (length buf) 64 room) at b.held in
    ap₂ (λ (n : Built) (l : List ℕ). take n.length l) k w ∙ take-append_seam bytes (drop (length bytes) buf)

pub built-taken : (m : Meter) (x : Message) (buf : List ℕ) (r : Built) (after : List ℕ) → Listens m x → good_message (tables_in m.registers) (family_in m.registers) x ≡ true → 64 ≤ length buf
    → Builds buf (good_message (tables_in m.registers) (family_in m.registers) x) (on_wire (text_of x)) r after → Taken m x (take r.length after)
built-taken m x buf r after l h room b = subst (Taken m x) (sym (built-is-said (tables_in m.registers) (family_in m.registers) x buf r after h room b)) (message-taken m x h l)

-- and never as something else
either : (b : Bool) (x y : Outcome) → misheard x.number ≡ false → misheard y.number ≡ false → misheard (cond b x y).number ≡ false
either true x y h k = h
either false x y h k = k

command-heard : (m : Meter) (c : Command) → misheard (obeyed m c).number ≡ false
unfolding obeyed tried_with misheard
command-heard m enter = refl
command-heard m (password p) = either (eqb m.attempts 3) _ _ refl (either (same_text p m.registers.facts.password) _ _ refl refl)
command-heard m read_clock = refl
command-heard m read_serial = refl
command-heard m read_account = refl
command-heard m read_total = refl
command-heard m (read_zone n) = refl
command-heard m read_total_out = refl
command-heard m (read_zone_out n) = refl
command-heard m (read_table n) = refl
command-heard m (write_clock c) = refl
command-heard m (write_account a) = refl
command-heard m (write_table n row) = refl

pub never-misheard : (m : Meter) (x : Message) → heard_on (link_of m) x ≡ true → misheard (outcome_of m x).number ≡ false
unfolding outcome_of misheard heard_on
never-misheard m call h = either (not (is_wired (link_of m))) _ _ refl refl
never-misheard m close h = either (not (is_wired (link_of m))) _ _ refl refl
never-misheard m (call_to s) h = either (not (is_wired (link_of m)) && names m s) _ _ refl refl
never-misheard m (call_wired s) h = either (is_wired (link_of m) && names m s) _ _ refl refl
never-misheard m (confirm v y) h = rw h (either (eqb y 49) _ _ refl refl)
never-misheard m (command c) h = command-heard m c
never-misheard m leave h = refl

-- on the optical link that is every message that the head says
pub heard-optical : (x : Message) (link : ℕ) → is_wired link ≡ false → heard_on link x ≡ true
unfolding heard_on digit_heard slow_too
heard-optical call link h = refl
heard-optical close link h = refl
heard-optical (call_to s) link h = refl
heard-optical (call_wired s) link h = refl
heard-optical (confirm v y) link h = rw h (last (eqb v 53))
  where
    last : (p : Bool) → (p || true) ≡ true
    last true = refl
    last false = refl
heard-optical (command c) link h = refl
heard-optical leave link h = refl
