-- The characters of each message: behind the first, and before the last, none opens a line or a frame in the mode that allows it. Assumes nothing.
use mathlib.Core.Path.{◌≡◌, refl, sym, ap}
use mathlib.Core.Logic.{◌⊎◌, inl, inr, ⊎_elim}
use mathlib.Core.Bool.{Bool, true, false, not, ◌&&◌, ◌||◌, and-false}
use mathlib.Core.List.{List, [], ◌∷◌, ◌++◌, append_assoc}
use Prim.Native.Nat.{ℕ, ◌≤◌}
use native.Mathlib.Omega.{arith}
use borrow.Author.Tests.{eqb-true, leb-true, le-leb, lt-leb, ne_eqb}
use lib.Dec.{eqb, leb}
use lib.ListN.{length, take, drop}
use Rattle.line.specs.Checksum.{bcc_of}
use Rattle.line.specs.Runs.{every}
use Rattle.line.proofs.Runs.{and_left, and_right, and_both, every_append, every_take, every_drop, every-weaker}
use Rattle.text.specs.Classes.{between, is_digit, is_printable, matching, same_text}
use Rattle.text.proofs.Decimal.{digit-high}
use Rattle.values.specs.Registers.{good_digits, good_serial}
use Rattle.values.specs.Texts.{parted, serial_text, wired_text}
use Rattle.frames.specs.Frames.{closed, frame_of, bare_frame}
use Rattle.frames.specs.Commands.{bracketed}
use Rattle.frames.specs.Session.{sign_on, closing_sign_on, sign_on_to, wired_line, wired_sign_on, confirmation, good_speed, enter_data, password_data}
use Rattle.datasets.proofs.Characters.{Within, within}
use Rattle.commands.specs.Building.{good_choice}
use Rattle.commands.specs.Spoken.{Command, enter, password, read_clock, read_serial, read_account, read_total, read_zone, read_total_out, read_zone_out, read_table, write_clock, write_account, write_table, good_fields, letters_of, data_of, spoken}
use Rattle.commands.specs.Messages.{Message, call, close, call_to, call_wired, confirm, command, leave, text_of, good_message}
use Rattle.dialogue.specs.Messages.{allowed_at, allowed_in}
use Rattle.dialogue.proofs.Commands.{body_of}
use Rattle.readback.proofs.Commands.{command-printable, letters-printable}
use Rattle.reading.proofs.Leading.{or_cases}
use Rattle.conversation.proofs.Spoilt.{stray}
use Rattle.conversation.proofs.Damage.{calm, Shape}

-- neither SOH nor '/': it opens nothing in any mode
unfoldable mild : ℕ → Bool
mild c = leb c 127 && not (eqb c 1 || eqb c 47)

no_stray : (a b p q : Bool) → not (p || q) ≡ true → not ((a && p) || (b && q)) ≡ true
no_stray a b true q h = absurd (let z : ◌≡◌ {A = ℕ} 0 1 = cc in omega arith)
no_stray a b false true h = absurd (let z : ◌≡◌ {A = ℕ} 0 1 = cc in omega arith)
no_stray a b false false h = rw (and-false a, and-false b)

mild-calm : (mode c : ℕ) → mild c ≡ true → calm mode c ≡ true
unfolding mild calm stray
mild-calm mode c h =
    and_both (leb c 127) (not ((leb 2 mode && eqb c 1) || (leb mode 2 && eqb c 47))) (and_left (leb c 127) (not (eqb c 1 || eqb c 47)) h)
    (no_stray (leb 2 mode) (leb mode 2) (eqb c 1) (eqb c 47) (and_right (leb c 127) (not (eqb c 1 || eqb c 47)) h))

-- in modes 3 and 4 no printable character opens anything
printable-calm : (mode c : ℕ) → 3 ≤ mode → is_printable c ≡ true → calm mode c ≡ true
unfolding calm stray is_printable between
printable-calm mode c high h =
    let low : 32 ≤ c = leb-true 32 c (and_left (leb 32 c) (leb c 126) h) in
    let most : c ≤ 126 = leb-true c 126 (and_right (leb 32 c) (leb c 126) h) in
    rw (le-leb c 127 (omega arith), ne_eqb c 1 (λ e. omega arith), and-false (leb 2 mode), lt-leb mode 2 (omega arith))

all-mild : (mode : ℕ) (s : List ℕ) → every mild s ≡ true → every (calm mode) s ≡ true
all-mild mode = every-weaker mild (calm mode) (mild-calm mode)

digit-mild : Within is_digit mild
unfolding is_digit between mild
digit-mild = within is_digit mild refl (λ c h. omega (arith, digit-high c h))

digits-mild : (n : ℕ) (s : List ℕ) → good_digits n s ≡ true → every mild s ≡ true
unfolding good_digits
digits-mild n s h = every-weaker is_digit mild digit-mild s (and_right (eqb (length s) n) (every is_digit s) h)

-- ---- the sign-on and the confirmation

parted-mild : (x : ℕ) (s : List ℕ) → mild x ≡ true → good_serial s ≡ true → every mild (parted x s) ≡ true
unfolding every
parted-mild x s k h =
    let digits = digits-mild 10 s h in
    every_append mild (take 3 s) (x ∷ drop 3 s) (every_take mild 3 s digits) (rw k (every_drop mild 3 s digits))

shape-to : (mode : ℕ) (s : List ℕ) → good_serial s ≡ true → Shape mode (sign_on_to s)
unfolding sign_on_to serial_text every mild
shape-to mode s h =
    record {
      first = 47;
      inside = 63 ∷ (serial_text s ++ (33 ∷ 13 ∷ []));
      last = 10;
      is = ap (λ (l : List ℕ). 47 ∷ 63 ∷ l) (sym (append_assoc (serial_text s) (33 ∷ 13 ∷ []) (10 ∷ [])));
      opens-none = all-mild mode (63 ∷ (serial_text s ++ (33 ∷ 13 ∷ []))) (every_append mild (serial_text s) (33 ∷ 13 ∷ []) (parted-mild 32 s refl h) refl);
    }

shape-wired : (mode : ℕ) (s : List ℕ) → good_serial s ≡ true → Shape mode (wired_sign_on s)
unfolding wired_line wired_text every mild
shape-wired mode s h =
    record {
      first = 47;
      inside = 65 ∷ (wired_text s ++ (13 ∷ []));
      last = 10;
      is = ap (λ (l : List ℕ). 47 ∷ 65 ∷ l) (sym (append_assoc (wired_text s) (13 ∷ []) (10 ∷ [])));
      opens-none = all-mild mode (65 ∷ (wired_text s ++ (13 ∷ []))) (every_append mild (wired_text s) (13 ∷ []) (parted-mild 46 s refl h) refl);
    }

equal-mild : (c n : ℕ) → mild n ≡ true → eqb c n ≡ true → mild c ≡ true
equal-mild c n h e = rw (eqb-true c n e) h

speed-mild : (v : ℕ) → good_speed v ≡ true → mild v ≡ true
unfolding good_speed mild
speed-mild v h = ⊎_elim (equal-mild v 48 refl) (equal-mild v 53 refl) (or_cases (eqb v 48) (eqb v 53) h)

choice-mild : (y : ℕ) → good_choice y ≡ true → mild y ≡ true
unfolding good_choice mild
choice-mild y h =
    ⊎_elim (λ e. ⊎_elim (λ f. ⊎_elim (equal-mild y 48 refl) (equal-mild y 54 refl) (or_cases (eqb y 48) (eqb y 54) f)) (equal-mild y 55 refl)
    (or_cases (eqb y 48 || eqb y 54) (eqb y 55) e)) (equal-mild y 49 refl) (or_cases ((eqb y 48 || eqb y 54) || eqb y 55) (eqb y 49) h)

shape-confirm : (mode v y : ℕ) → good_speed v ≡ true → good_choice y ≡ true → Shape mode (confirmation v y)
unfolding confirmation every
shape-confirm mode v y hv hy =
    record {
      first = 6;
      inside = 48 ∷ v ∷ y ∷ 13 ∷ [];
      last = 10;
      is = refl;
      opens-none = all-mild mode (48 ∷ v ∷ y ∷ 13 ∷ []) (rw (speed-mild v hv, choice-mild y hy) (unfold mild in refl));
    }

-- ---- frames

stx-mild : mild 2 ≡ true
unfolding mild
stx-mild = refl

and-then-all : (p : ℕ → Bool) (c : ℕ) (s : List ℕ) → p c ≡ true → every p s ≡ true → every p (c ∷ s) ≡ true
unfolding every
and-then-all p c s h k = and_both (p c) (every p s) h k

four : (mode : ℕ) → eqb mode 4 ≡ true → 3 ≤ mode
four mode e = omega (arith, eqb-true mode 4 e)

high : (mode : ℕ) → (eqb mode 3 || eqb mode 4) ≡ true → 3 ≤ mode
high mode h = ⊎_elim (λ e. omega (arith, eqb-true mode 3 e)) (four mode) (or_cases (eqb mode 3) (eqb mode 4) h)

-- an entry opens nothing more, and every other command has mode 3 or 4
entry-or-high : (tables family : ℕ) (c : Command) (mode : ℕ) → good_fields tables family c ≡ true → allowed_at c mode ≡ true → (every mild (body_of c) ≡ true) ⊎ (3 ≤ mode)
unfolding allowed_at letters_of same_text matching good_fields data_of enter_data password_data bracketed every mild
entry-or-high tables family enter mode h k = inl refl
entry-or-high tables family (password p) mode h k = inl (every_append mild p (41 ∷ []) (digits-mild 8 p h) refl)
entry-or-high tables family read_clock mode h k = inr (high mode k)
entry-or-high tables family read_serial mode h k = inr (high mode k)
entry-or-high tables family read_account mode h k = inr (high mode k)
entry-or-high tables family read_total mode h k = inr (high mode k)
entry-or-high tables family (read_zone n) mode h k = inr (high mode k)
entry-or-high tables family read_total_out mode h k = inr (high mode k)
entry-or-high tables family (read_zone_out n) mode h k = inr (high mode k)
entry-or-high tables family (read_table n) mode h k = inr (high mode k)
entry-or-high tables family (write_clock c) mode h k = inr (four mode k)
entry-or-high tables family (write_account a) mode h k = inr (four mode k)
entry-or-high tables family (write_table n row) mode h k = inr (four mode k)

body-calm : (tables family mode : ℕ) (c : Command) → good_fields tables family c ≡ true → allowed_at c mode ≡ true → every (calm mode) (body_of c) ≡ true
body-calm tables family mode c h k = ⊎_elim (all-mild mode (body_of c)) shown (entry-or-high tables family c mode h k)
  where
    shown : 3 ≤ mode → every (calm mode) (body_of c) ≡ true
    shown l =
        let calms : Within is_printable (calm mode) = λ x. printable-calm mode x l in
        every_append (calm mode) (letters_of c) (2 ∷ data_of c) (every-weaker is_printable (calm mode) calms (letters_of c) (letters-printable c))
        (and-then-all (calm mode) 2 (data_of c) (mild-calm mode 2 stx-mild) (every-weaker is_printable (calm mode) calms (data_of c) (command-printable tables family c h)))

shape-command : (tables family mode : ℕ) (c : Command) → good_fields tables family c ≡ true → allowed_at c mode ≡ true → Shape mode (spoken c)
unfolding spoken frame_of closed
shape-command tables family mode c h k =
    record {
      first = 1;
      inside = body_of c ++ (3 ∷ []);
      last = bcc_of (body_of c ++ (3 ∷ []));
      is = refl;
      opens-none = every_append (calm mode) (body_of c) (3 ∷ []) (body-calm tables family mode c h k) (all-mild mode (3 ∷ []) (unfold every mild in refl));
    }

-- ---- every message

pub shaped : (tables family mode : ℕ) (x : Message) → good_message tables family x ≡ true → allowed_in x mode ≡ true → Shape mode (text_of x)
unfolding good_message allowed_in text_of
shaped tables family mode call h k =
    unfold sign_on in
    (record { first = 47; inside = 63 ∷ 33 ∷ 13 ∷ []; last = 10; is = refl; opens-none = all-mild mode (63 ∷ 33 ∷ 13 ∷ []) (unfold every mild in refl) })
shaped tables family mode close h k =
    unfold closing_sign_on in
    (record { first = 47; inside = 67 ∷ 33 ∷ 13 ∷ []; last = 10; is = refl; opens-none = all-mild mode (67 ∷ 33 ∷ 13 ∷ []) (unfold every mild in refl) })
shaped tables family mode (call_to s) h k = shape-to mode s h
shaped tables family mode (call_wired s) h k = shape-wired mode s h
shaped tables family mode (confirm v y) h k = shape-confirm mode v y (and_left (good_speed v) (good_choice y) h) (and_right (good_speed v) (good_choice y) h)
shaped tables family mode (command c) h k = shape-command tables family mode c h k
shaped tables family mode leave h k =
    unfold bare_frame closed in
    (record { first = 1; inside = 66 ∷ 48 ∷ 3 ∷ []; last = bcc_of (66 ∷ 48 ∷ 3 ∷ []); is = refl; opens-none = all-mild mode (66 ∷ 48 ∷ 3 ∷ []) (unfold every mild in refl) })
