-- The wrong answers for `commands` are ruled out, by the two equations of a builder's promise. Assumes nothing.
use mathlib.Core.Path.{◌≡◌, refl}
use mathlib.Core.Bool.{Bool, true, false}
use mathlib.Core.List.{List}
use Prim.Native.Nat.{ℕ}
use lib.Count.{ones}
use lib.Dec.{eqb}
use lib.ListN.{get_or}
use Rattle.line.specs.Characters.{seven, sent}
use Rattle.line.specs.Checksum.{bcc_of}
use Rattle.line.specs.Runs.{every}
use Rattle.text.specs.Writing.{holding}
use Rattle.text.specs.Classes.{between, is_digit, is_letter}
use Rattle.text.specs.Decimal.{decimal}
use Rattle.text.specs.Layout.{layout_text}
use Rattle.clock.specs.Dates.{leap, thirty, days_in, real_date, real_time}
use Rattle.clock.specs.Seconds.{real_clock}
use Rattle.values.specs.Edition.{is_edition, tables_of}
use Rattle.values.specs.Registers.{good_digits, is_account_character, good_account, good_row, good_table, good_zone}
use Rattle.values.specs.Texts.{serial_text, wired_text, table_text, clock_text}
use Rattle.frames.specs.Frames.{closed, frame_of, bare_frame}
use Rattle.frames.specs.Commands.{bracketed, ask_clock, ask_serial, ask_account, ask_energy, ask_export, ask_table, set_clock, set_account, set_table}
use Rattle.frames.specs.Session.{sign_on, closing_sign_on, sign_on_to, wired_line, confirmation, good_speed, enter_data, password_data}
use Rattle.commands.specs.Building.{Built, good_choice, built_in, kept_or}
use Rattle.mistakes.specs.Samples.{serial, password}
use Rattle.mistakes.specs.Commands.{NotAnswered, NotLeft, NotFor, broken, Refusals, Commands}
use Rattle.mistakes.proofs.Differing.{seen, number, byte}

-- by the number, by the length, by a byte of the buffer
by_number : {buf : List ℕ} {ok : Bool} {command : List ℕ} {number size : ℕ} → eqb number (built_in buf ok command).number ≡ false → NotAnswered buf ok command number size
by_number e after b = seen (λ (r : Built). r.number) e b.answer

by_length : {buf : List ℕ} {ok : Bool} {command : List ℕ} {number size : ℕ} → eqb size (built_in buf ok command).length ≡ false → NotAnswered buf ok command number size
by_length e after b = seen (λ (r : Built). r.length) e b.answer

by-byte : (at : ℕ) {buf : List ℕ} {ok : Bool} {command wrong : List ℕ} → eqb (get_or wrong at 0) (get_or (kept_or buf ok command) at 0) ≡ false → NotLeft buf ok command wrong
by-byte at e r b = byte at e b.held

-- for an edition that there is; for another one, which is told by 16
for_some : {edition : ℕ} {buf : List ℕ} {ok : Bool} {command : List ℕ} {number size : ℕ} → is_edition edition ≡ true → NotAnswered buf ok command number size → NotFor edition buf ok command number size
for_some is n after b = n after (b.some is)

for-none : {edition : ℕ} {buf : List ℕ} {ok : Bool} {command : List ℕ} {number size : ℕ} → is_edition edition ≡ false → eqb number 16 ≡ false → NotFor edition buf ok command number size
for-none is e after b = seen (λ (r : Built). r.number) e (b.none is).0

pub refusals : Refusals
refusals = record { number = (number refl, number refl) }

pub commands : Commands
unfolding ones seven sent bcc_of every holding between is_digit is_letter decimal layout_text leap thirty days_in real_date real_time real_clock good_digits is_account_character good_account is_edition tables_of good_row good_table good_zone serial_text wired_text table_text clock_text closed frame_of bare_frame bracketed ask_clock ask_serial ask_account ask_energy ask_export ask_table set_clock set_account set_table sign_on closing_sign_on sign_on_to wired_line confirmation good_speed enter_data password_data good_choice built_in kept_or serial password broken
commands =
    record {
      wrong_sign_on = (by-byte 0 refl, by_length refl);
      close = (by-byte 1 refl, by-byte 1 refl);
      wrong_sign_on_to = (by_number refl, by-byte 5 refl);
      sign_on_wired = (by_number refl, by-byte 5 refl);
      confirm = (by_number refl, by_number refl);
      confirm-speed = (by_number refl, by_number refl);
      enter = (by-byte 2 refl, by_number refl);
      password = (by_number refl, by-byte 4 refl);
      wrong_read_clock = (by-byte 1 refl, by-byte 4 refl);
      wrong_read_serial = (by-byte 4 refl, by_length refl);
      wrong_read_account = (by-byte 4 refl, by_number refl);
      wrong_read_total = (by-byte 5 refl, by-byte 5 refl);
      wrong_read_zone = (by_number refl, by-byte 5 refl);
      wrong_read_total_out = (by-byte 4 refl, by-byte 5 refl);
      wrong_read_zone_out = (by_number refl, by-byte 4 refl);
      read_table_of = (by_number refl, by-byte 6 refl);
      wrong_read_table = (for_some refl (by_number refl), for-none refl refl);
      wrong_write_clock = (by_number refl, by-byte 7 refl);
      wrong_write_account = (by_number refl, by-byte 0 refl);
      write_table_of = (by_number refl, by-byte 0 refl);
      wrong_write_table = (for_some refl (by_number refl), for-none refl refl);
      sign_off = (by-byte 3 refl, by_number refl);
    }
