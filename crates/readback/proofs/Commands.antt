-- Each command of the head, its fields within their rules: its data are printable, its characters come back undamaged, its BCC fits,
-- and it is no longer than a frame may be. Assumes nothing.
use mathlib.Core.Path.{◌≡◌, refl}
use mathlib.Core.Bool.{true, ◌||◌}
use mathlib.Core.List.{List, [], ◌∷◌, ◌++◌, map}
use mathlib.Core.Logic.{⊎_elim}
use Prim.Native.Nat.{ℕ, ◌+◌, ◌≤◌}
use native.Mathlib.Omega.{arith}
use borrow.Author.Tests.{leb-true, le-leb, eqb-true}
use lib.ListN.{length, take, drop, length-append}
use lib.Dec.{leb, eqb}
use Rattle.frames.specs.Commands.{B0, P1, R1, W1, bracketed, ask_clock, ask_serial, ask_account, lettered, ask_energy, ask_export, ask_table, set_clock, set_account, set_table}
use Rattle.frames.specs.Frames.{bare_frame, closed, frame_of, on_wire}
use Rattle.frames.specs.Session.{sign_on, sign_on_to, wired_line, wired_sign_on, confirmation, enter_data, password_data}
use Rattle.values.specs.Family.{is_eqm}
use Rattle.values.specs.Registers.{good_serial, good_digits, is_account_character, good_account, good_row, good_table, good_zone}
use Rattle.values.specs.Texts.{parted, serial_text, wired_text, table_form, clock_form, table_text, clock_text}
use Rattle.datasets.proofs.Characters.{layout-within}
use Rattle.values.proofs.Rules.{digits_long, account-long, row-long, zone-most, table-text-long, clock-text-long}
use Rattle.readback.proofs.Sending.{closed-characters, sent-undamaged-all, sent-comes-back-all, frame-characters, closed-sums}
use Rattle.line.specs.Characters.{seven, undamaged_all}
use Rattle.line.specs.Checksum.{bcc_of}
use Rattle.line.specs.Runs.{every}
use Rattle.line.proofs.Runs.{and_left, and_right, and_both, every_append, every_take, every_drop, every-weaker}
use Rattle.text.specs.Classes.{between, is_digit, is_letter, is_printable}
use Rattle.clock.specs.declared.Clock.{Clock}
use Rattle.blocks.specs.Parts.{is_character}
use Rattle.reading.proofs.Leading.{or_cases}
use Rattle.commands.specs.Spoken.{Command, enter, password, read_clock, read_serial, read_account, read_total, read_zone, read_total_out, read_zone_out, read_table, write_clock, write_account, write_table, good_fields, letters_of, data_of, spoken}

printable : (c : ℕ) → 32 ≤ c → c ≤ 126 → is_printable c ≡ true
unfolding is_printable between
printable c low high = rw (le-leb 32 c low, le-leb c 126 high)

-- a character of a range within the printable ones
of_range : (lo hi c : ℕ) → 32 ≤ lo → hi ≤ 126 → between lo hi c ≡ true → is_printable c ≡ true
unfolding between
of_range lo hi c l h e =
    printable c (omega (arith, leb-true lo c (and_left (leb lo c) (leb c hi) e))) (omega (arith, leb-true c hi (and_right (leb lo c) (leb c hi) e)))

digit-printable : (c : ℕ) → is_digit c ≡ true → is_printable c ≡ true
unfolding is_digit
digit-printable c = of_range 48 57 c (omega arith) (omega arith)

letter-printable : (c : ℕ) → is_letter c ≡ true → is_printable c ≡ true
unfolding is_letter
letter-printable c h =
    ⊎_elim (of_range 65 90 c (omega arith) (omega arith)) (of_range 97 122 c (omega arith) (omega arith)) (or_cases (between 65 90 c) (between 97 122 c) h)

equal-printable : (c n : ℕ) → 32 ≤ n → n ≤ 126 → eqb c n ≡ true → is_printable c ≡ true
equal-printable c n l h e = let same : c ≡ n = eqb-true c n e in printable c (omega arith) (omega arith)

account-printable : (c : ℕ) → is_account_character c ≡ true → is_printable c ≡ true
unfolding is_account_character
account-printable c h =
    ⊎_elim
    (λ e. ⊎_elim (letter-printable c) (digit-printable c) (or_cases (is_letter c) (is_digit c) e))
    (λ e. ⊎_elim (equal-printable c 32 (omega arith) (omega arith)) (equal-printable c 95 (omega arith) (omega arith)) (or_cases (eqb c 32) (eqb c 95) e))
    (or_cases (is_letter c || is_digit c) (eqb c 32 || eqb c 95) h)

table-printable : (n : ℕ) → every is_printable (table_text n) ≡ true
unfolding table_text
table-printable n = layout-within is_printable digit-printable table_form (n ∷ []) refl

clock-printable : (c : Clock) → every is_printable (clock_text c) ≡ true
unfolding clock_text every is_printable between
clock-printable c = layout-within is_printable digit-printable clock_form _ refl

digits-printable : (n : ℕ) (s : List ℕ) → good_digits n s ≡ true → every is_printable s ≡ true
unfolding good_digits
digits-printable n s h = every-weaker is_digit is_printable digit-printable s (and_right (eqb (length s) n) (every is_digit s) h)

row-printable : (s : List ℕ) → good_row s ≡ true → every is_printable s ≡ true
unfolding good_row
row-printable s h = every-weaker (between 49 52) is_printable (λ c. of_range 49 52 c (omega arith) (omega arith)) s (and_right (eqb (length s) 24) (every (between 49 52) s) h)

name-printable : (s : List ℕ) → good_account s ≡ true → every is_printable s ≡ true
unfolding good_account
name-printable s h = every-weaker is_account_character is_printable account-printable s (and_right (eqb (length s) 10) (every is_account_character s) h)

bracketed-printable : (s : List ℕ) → every is_printable s ≡ true → every is_printable (bracketed s) ≡ true
unfolding bracketed every is_printable between
bracketed-printable s h = every_append is_printable s (41 ∷ []) h refl

-- a letter before brackets
named-printable : (letter : ℕ) (s : List ℕ) → is_printable letter ≡ true → every is_printable s ≡ true → every is_printable (letter ∷ bracketed s) ≡ true
unfolding every
named-printable letter s l h = rw l (bracketed-printable s h)

-- a letter and a number before them
lettered-printable : (letter n : ℕ) → 32 ≤ letter → letter ≤ 126 → n ≤ 4 → every is_printable (lettered letter n) ≡ true
unfolding bracketed every
lettered-printable letter n low high h = and_both (is_printable letter) _ (printable letter low high) (named-printable (48 + n) [] (printable (48 + n) (omega arith) (omega arith)) refl)

row-data-printable : (n : ℕ) (row : List ℕ) → good_row row ≡ true → every is_printable (table_text n ++ (59 ∷ row)) ≡ true
unfolding every
row-data-printable n row h =
    every_append is_printable (table_text n) (59 ∷ row) (table-printable n) (and_both (is_printable 59) (every is_printable row) (printable 59 (omega arith) (omega arith)) (row-printable row h))

-- the data of a command are printable
pub command-printable : (tables family : ℕ) (c : Command) → good_fields tables family c ≡ true → every is_printable (data_of c) ≡ true
unfolding data_of good_fields bracketed enter_data password_data ask_clock ask_serial ask_account ask_energy ask_export ask_table set_clock set_account set_table
command-printable tables family enter h = bracketed-printable [] (unfold every in refl)
command-printable tables family (password p) h = bracketed-printable p (digits-printable 8 p h)
command-printable tables family read_clock h = named-printable 84 [] (printable 84 (omega arith) (omega arith)) (unfold every in refl)
command-printable tables family read_serial h = named-printable 76 [] (printable 76 (omega arith) (omega arith)) (unfold every in refl)
command-printable tables family read_account h = named-printable 75 [] (printable 75 (omega arith) (omega arith)) (unfold every in refl)
command-printable tables family read_total h = lettered-printable 69 0 (omega arith) (omega arith) (omega arith)
command-printable tables family (read_zone n) h = lettered-printable 69 n (omega arith) (omega arith) (zone-most n h)
command-printable tables family read_total_out h = lettered-printable 71 0 (omega arith) (omega arith) (omega arith)
command-printable tables family (read_zone_out n) h = lettered-printable 71 n (omega arith) (omega arith) (zone-most n (and_right (is_eqm family) (good_zone n) h))
command-printable tables family (read_table n) h = named-printable 90 (table_text n) (printable 90 (omega arith) (omega arith)) (table-printable n)
command-printable tables family (write_clock c) h = named-printable 84 (clock_text c) (printable 84 (omega arith) (omega arith)) (clock-printable c)
command-printable tables family (write_account a) h = named-printable 75 a (printable 75 (omega arith) (omega arith)) (name-printable a h)
command-printable tables family (write_table n row) h =
    named-printable 90 (table_text n ++ (59 ∷ row)) (printable 90 (omega arith) (omega arith)) (row-data-printable n row (and_right (good_table tables n) (good_row row) h))

character-of : (c : ℕ) → is_printable c ≡ true → is_character c ≡ true
unfolding is_printable is_character between
character-of c h = le-leb c 127 (omega (arith, leb-true c 126 (and_right (leb 32 c) (leb c 126) h)))

-- what is said of P1, R1 and W1 is said of each command's letters
of-letters : (P : List ℕ → Type 0) → P P1 → P R1 → P W1 → (c : Command) → P (letters_of c)
unfolding letters_of
of-letters P p r w enter = p
of-letters P p r w (password x) = p
of-letters P p r w read_clock = r
of-letters P p r w read_serial = r
of-letters P p r w read_account = r
of-letters P p r w read_total = r
of-letters P p r w (read_zone n) = r
of-letters P p r w read_total_out = r
of-letters P p r w (read_zone_out n) = r
of-letters P p r w (read_table n) = r
of-letters P p r w (write_clock c) = w
of-letters P p r w (write_account a) = w
of-letters P p r w (write_table n row) = w

pub letters-two : (c : Command) → length (letters_of c) ≡ 2
letters-two = of-letters (λ (l : List ℕ). length l ≡ 2) refl refl refl

pub letters-printable : (c : Command) → every is_printable (letters_of c) ≡ true
unfolding every is_printable between
letters-printable = of-letters (λ (l : List ℕ). every is_printable l ≡ true) refl refl refl

pub command-characters : (tables family : ℕ) (c : Command) → good_fields tables family c ≡ true → every is_character (spoken c) ≡ true
unfolding spoken
command-characters tables family c h =
    frame-characters (letters_of c) (data_of c) (every-weaker is_printable is_character character-of (letters_of c) (letters-printable c)) (every-weaker is_printable is_character character-of (data_of c) (command-printable tables family c h))

-- on the wire no byte of it is damaged, and its seven bits are its characters again
pub command-undamaged : (c : Command) → undamaged_all (on_wire (spoken c)) ≡ true
command-undamaged c = sent-undamaged-all (spoken c)

pub command-comes-back : (tables family : ℕ) (c : Command) → good_fields tables family c ≡ true → map seven (on_wire (spoken c)) ≡ spoken c
command-comes-back tables family c h = sent-comes-back-all (spoken c) (command-characters tables family c h)

-- its BCC fits: from the second character on it sums to nothing
pub command-bcc : (c : Command) → bcc_of (drop 1 (spoken c)) ≡ 0
unfolding spoken frame_of
command-bcc c = closed-sums (letters_of c ++ (2 ∷ data_of c))

-- SOH, two printable characters, STX, printable data, ETX, BCC
pub record Shaped (s letters content : List ℕ) : Type 0 where
  pub whole : s ≡ 1 ∷ (((letters ++ (2 ∷ content)) ++ (3 ∷ [])) ++ (bcc_of ((letters ++ (2 ∷ content)) ++ (3 ∷ [])) ∷ []))
  pub two : length letters ≡ 2
  pub named : every is_printable letters ≡ true
  pub plain : every is_printable content ≡ true

pub command-shape : (tables family : ℕ) (c : Command) → good_fields tables family c ≡ true → Shaped (spoken c) (letters_of c) (data_of c)
unfolding spoken frame_of closed
command-shape tables family c h = record { whole = refl; two = letters-two c; named = letters-printable c; plain = command-printable tables family c h }

bracketed-long : (s : List ℕ) → length (bracketed s) ≡ length s + 2
unfolding bracketed
bracketed-long s = omega (arith, length-append s (41 ∷ []))

pub data-short : (tables family : ℕ) (c : Command) → good_fields tables family c ≡ true → length (data_of c) ≤ 30
unfolding data_of good_fields enter_data password_data ask_clock ask_serial ask_account ask_energy ask_export ask_table set_clock set_account set_table
data-short tables family enter h = omega (arith, bracketed-long [])
data-short tables family (password p) h = omega (arith, bracketed-long p, digits_long 8 p h)
data-short tables family read_clock h = omega (arith, bracketed-long [])
data-short tables family read_serial h = omega (arith, bracketed-long [])
data-short tables family read_account h = omega (arith, bracketed-long [])
data-short tables family read_total h = omega (arith, bracketed-long [])
data-short tables family (read_zone n) h = omega (arith, bracketed-long [])
data-short tables family read_total_out h = omega (arith, bracketed-long [])
data-short tables family (read_zone_out n) h = omega (arith, bracketed-long [])
data-short tables family (read_table n) h = omega (arith, bracketed-long (table_text n), table-text-long n)
data-short tables family (write_clock c) h = omega (arith, bracketed-long (clock_text c), clock-text-long c)
data-short tables family (write_account a) h = omega (arith, bracketed-long a, account-long a h)
data-short tables family (write_table n row) h =
    omega (arith, bracketed-long (table_text n ++ (59 ∷ row)), length-append (table_text n) (59 ∷ row), table-text-long n, row-long row (and_right (good_table tables n) (good_row row) h))

-- no command is longer than 36 characters; a frame may have 64
pub command-short : (tables family : ℕ) (c : Command) → good_fields tables family c ≡ true → length (spoken c) ≤ 36
unfolding spoken frame_of closed
command-short tables family c h =
    let body = letters_of c ++ (2 ∷ data_of c) in
    omega (arith, data-short tables family c h, letters-two c, length-append (letters_of c) (2 ∷ data_of c), length-append body (3 ∷ []), length-append (body ++ (3 ∷ [])) (bcc_of (body ++ (3 ∷ [])) ∷ []))

-- B0 comes back too, and so do the sign-on and the confirmation
pub sign-off-comes-back : map seven (on_wire (bare_frame B0)) ≡ bare_frame B0
unfolding bare_frame every is_character
sign-off-comes-back = sent-comes-back-all (bare_frame B0) (closed-characters B0 refl)

pub sign-on-comes-back : map seven (on_wire sign_on) ≡ sign_on
unfolding sign_on every is_character
sign-on-comes-back = sent-comes-back-all sign_on refl

parted-characters : (x : ℕ) (s : List ℕ) → is_character x ≡ true → good_serial s ≡ true → every is_character (parted x s) ≡ true
unfolding every
parted-characters x s k h =
    let all = every-weaker is_printable is_character character-of s (digits-printable 10 s h) in
    every_append is_character (take 3 s) (x ∷ drop 3 s) (every_take is_character 3 s all) (rw k (every_drop is_character 3 s all))

serial-characters : (s : List ℕ) → good_serial s ≡ true → every is_character (serial_text s) ≡ true
unfolding serial_text is_character
serial-characters s h = parted-characters 32 s refl h

wired-characters : (s : List ℕ) → good_serial s ≡ true → every is_character (wired_text s) ≡ true
unfolding wired_text is_character
wired-characters s h = parted-characters 46 s refl h

pub sign-on-to-comes-back : (s : List ℕ) → good_serial s ≡ true → map seven (on_wire (sign_on_to s)) ≡ sign_on_to s
unfolding sign_on_to every is_character
sign-on-to-comes-back s h =
    sent-comes-back-all (sign_on_to s) (every_append is_character (serial_text s) (33 ∷ 13 ∷ 10 ∷ []) (serial-characters s h) refl)

pub wired-sign-on-comes-back : (s : List ℕ) → good_serial s ≡ true → map seven (on_wire (wired_sign_on s)) ≡ wired_sign_on s
unfolding wired_line every is_character
wired-sign-on-comes-back s h =
    sent-comes-back-all (wired_sign_on s) (every_append is_character (wired_text s) (13 ∷ 10 ∷ []) (wired-characters s h) refl)

pub confirmation-comes-back : (v y : ℕ) → v ≤ 127 → y ≤ 127 → map seven (on_wire (confirmation v y)) ≡ confirmation v y
unfolding confirmation every is_character
confirmation-comes-back v y k h = sent-comes-back-all (confirmation v y) (rw (le-leb v 127 k, le-leb y 127 h))
