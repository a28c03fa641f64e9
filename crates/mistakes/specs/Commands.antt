-- Two wrong answers for each builder of `commands`. The C functions of `headlink` have the same promises.
use Rattle.std.specs.Prelude.{Bool, true, ◌&&◌, List, [], ◌∷◌, ◌++◌, ℕ, replicate}
use Rattle.line.specs.Quoted.{chars}
use Rattle.text.specs.Writing.{holding}
use Rattle.clock.specs.Seconds.{real_clock}
use Rattle.values.specs.Edition.{tables_of}
use Rattle.values.specs.Registers.{good_serial, good_password, good_account, good_row, good_table, good_zone}
use Rattle.frames.specs.Frames.{frame_of, bare_frame, on_wire}
use Rattle.frames.specs.Commands.{B0, P0, P1, R1, W1, bracketed, ask_clock, ask_serial, ask_account, ask_energy, ask_export, ask_table, set_clock, set_account, set_table}
use Rattle.values.specs.Texts.{serial_text}
use Rattle.frames.specs.Session.{sign_on, closing_sign_on, sign_on_to, wired_sign_on, confirmation, good_speed, enter_data, password_data}
use Rattle.commands.specs.Building.{Built, number_of, good_choice, Builds, BuildsFor}
use Rattle.commands.specs.declared.Refusal.TheVariants.{Field, Short}
use Rattle.mistakes.specs.RuledOut.{RuledOut}
use Rattle.mistakes.specs.Samples.{clock_at, serial, password}

-- a builder never answers so, whatever it leaves in the buffer
abbrev pub NotAnswered : List ℕ → Bool → List ℕ → ℕ → ℕ → Type 0
NotAnswered buf ok command number size = (after : List ℕ) → Builds buf ok command (record { number = number; length = size }) after → ⊥

-- a builder never leaves this, whatever it answers
abbrev pub NotLeft : List ℕ → Bool → List ℕ → List ℕ → Type 0
NotLeft buf ok command wrong = (r : Built) → Builds buf ok command r wrong → ⊥

-- [3]: one of an edition never answers so
abbrev pub NotFor : ℕ → List ℕ → Bool → List ℕ → ℕ → ℕ → Type 0
NotFor edition buf ok command number size = (after : List ℕ) → BuildsFor edition buf ok command (record { number = number; length = size }) after → ⊥

abbrev pub room : List ℕ
room = replicate 64 0

-- 24 characters, the last of them a bracket
unfoldable pub broken : List ℕ
broken = replicate 23 49 ++ (chars ")")

-- of `commands::Refusal`
pub record Refusals : Type 0 where
  -- 18 for a short buffer; 19 for a field
  pub number : RuledOut (number_of Short) 18 × RuledOut (number_of Field) 19

-- of `commands`
pub record Commands : Type 0 where
  -- no parity; the CR LF not counted
  pub wrong_sign_on : NotLeft room true (on_wire sign_on) (holding room sign_on) × NotAnswered room true (on_wire sign_on) 1 3
  -- the plain sign-on; `/c!`
  pub close : NotLeft room true (on_wire closing_sign_on) (holding room (on_wire sign_on))
      × NotLeft room true (on_wire closing_sign_on) (holding room (on_wire (chars "/c!\r\n")))
  -- nine digits; no space after three of them
  pub wrong_sign_on_to : NotAnswered room (good_serial (replicate 9 49)) (on_wire (sign_on_to (replicate 9 49))) 1 15
      × NotLeft room (good_serial serial) (on_wire (sign_on_to serial)) (holding room (on_wire (chars "/?" ++ (serial ++ (chars "!\r\n")))))
  -- nine digits; a space for the dot
  pub sign_on_wired : NotAnswered room (good_serial (replicate 9 49)) (on_wire (wired_sign_on (replicate 9 49))) 1 14
      × NotLeft room (good_serial serial) (on_wire (wired_sign_on serial)) (holding room (on_wire (chars "/A" ++ (serial_text serial ++ (chars "\r\n")))))
  -- '8' confirmed; '6' refused
  pub confirm : NotAnswered room (good_speed 53 && good_choice 56) (on_wire (confirmation 53 56)) 1 6
      × NotAnswered room (good_speed 53 && good_choice 54) (on_wire (confirmation 53 54)) 9 0
  -- the digit 1 taken as a speed; '0' refused
  pub confirm-speed : NotAnswered room (good_speed 49 && good_choice 48) (on_wire (confirmation 49 48)) 1 6
      × NotAnswered room (good_speed 48 && good_choice 48) (on_wire (confirmation 48 48)) 9 0
  -- P0 for P1; built in 63 bytes
  pub enter : NotLeft room true (on_wire (frame_of P1 enter_data)) (holding room (on_wire (frame_of P0 enter_data)))
      × NotAnswered (replicate 63 0) true (on_wire (frame_of P1 enter_data)) 1 8
  -- seven digits; no brackets
  pub password : NotAnswered room (good_password (replicate 7 49)) (on_wire (frame_of P1 (password_data (replicate 7 49)))) 1 15
      × NotLeft room (good_password password) (on_wire (frame_of P1 (password_data password))) (holding room (on_wire (frame_of P1 password)))
  -- W1 for R1; the serial asked for
  pub wrong_read_clock : NotLeft room true (on_wire (frame_of R1 ask_clock)) (holding room (on_wire (frame_of W1 ask_clock)))
      × NotLeft room true (on_wire (frame_of R1 ask_clock)) (holding room (on_wire (frame_of R1 ask_serial)))
  -- the account asked for; the BCC not counted
  pub wrong_read_serial : NotLeft room true (on_wire (frame_of R1 ask_serial)) (holding room (on_wire (frame_of R1 ask_account)))
      × NotAnswered room true (on_wire (frame_of R1 ask_serial)) 1 8
  -- the serial asked for; 9 for a buffer that is too short
  pub wrong_read_account : NotLeft room true (on_wire (frame_of R1 ask_account)) (holding room (on_wire (frame_of R1 ask_serial)))
      × NotAnswered (replicate 63 0) true (on_wire (frame_of R1 ask_account)) 9 0
  -- the first zone asked for; no digit after the E
  pub wrong_read_total : NotLeft room true (on_wire (frame_of R1 (ask_energy 0))) (holding room (on_wire (frame_of R1 (ask_energy 1))))
      × NotLeft room true (on_wire (frame_of R1 (ask_energy 0))) (holding room (on_wire (frame_of R1 (69 ∷ bracketed []))))
  -- zone 0 taken, which asks for the total; zone 2 asked for as the first
  pub wrong_read_zone : NotAnswered room (good_zone 0) (on_wire (frame_of R1 (ask_energy 0))) 1 10
      × NotLeft room (good_zone 2) (on_wire (frame_of R1 (ask_energy 2))) (holding room (on_wire (frame_of R1 (ask_energy 1))))
  -- [10]: the total of what came in asked for; the first zone
  pub wrong_read_total_out : NotLeft room true (on_wire (frame_of R1 (ask_export 0))) (holding room (on_wire (frame_of R1 (ask_energy 0))))
      × NotLeft room true (on_wire (frame_of R1 (ask_export 0))) (holding room (on_wire (frame_of R1 (ask_export 1))))
  -- zone 0 taken, which asks for the total; what came in asked for
  pub wrong_read_zone_out : NotAnswered room (good_zone 0) (on_wire (frame_of R1 (ask_export 0))) 1 10
      × NotLeft room (good_zone 2) (on_wire (frame_of R1 (ask_export 2))) (holding room (on_wire (frame_of R1 (ask_energy 2))))
  -- table 25; one digit for a number below 10
  pub read_table_of : NotAnswered room (good_table 24 25) (on_wire (frame_of R1 (ask_table 25))) 1 11
      × NotLeft room (good_table 24 7) (on_wire (frame_of R1 (ask_table 7))) (holding room (on_wire (frame_of R1 (90 ∷ bracketed (chars "7")))))
  -- [3]: edition 2 without its table 25; 9 for edition 3
  pub wrong_read_table : NotFor 2 room (good_table (tables_of 2) 25) (on_wire (frame_of R1 (ask_table 25))) 9 0
      × NotFor 3 room (good_table (tables_of 3) 25) (on_wire (frame_of R1 (ask_table 25))) 9 0
  -- 29-02-2001 taken; the month first
  pub wrong_write_clock : NotAnswered room (real_clock (clock_at 2001 2 29 0 0 0)) (on_wire (frame_of W1 (set_clock (clock_at 2001 2 29 0 0 0)))) 1 28
      × NotLeft room (real_clock (clock_at 2001 2 3 0 0 0)) (on_wire (frame_of W1 (set_clock (clock_at 2001 2 3 0 0 0))))
      (holding room (on_wire (frame_of W1 (set_clock (clock_at 2001 3 2 0 0 0)))))
  -- nine characters; a refused account written all the same
  pub wrong_write_account : NotAnswered room (good_account (replicate 9 65)) (on_wire (frame_of W1 (set_account (replicate 9 65)))) 1 18
      × NotLeft room (good_account (replicate 10 45)) (on_wire (frame_of W1 (set_account (replicate 10 45)))) (holding room (on_wire (frame_of W1 (set_account (replicate 10 45)))))
  -- a row with a bracket; a refused row written all the same
  pub write_table_of : NotAnswered room (good_table 24 7 && good_row broken) (on_wire (frame_of W1 (set_table 7 broken))) 1 36
      × NotLeft room (good_table 24 7 && good_row broken) (on_wire (frame_of W1 (set_table 7 broken))) (holding room (on_wire (frame_of W1 (set_table 7 broken))))
  -- [3]: table 25 in edition 1; a table of edition 3
  pub wrong_write_table : NotFor 1 room (good_table (tables_of 1) 25 && good_row (replicate 24 49)) (on_wire (frame_of W1 (set_table 25 (replicate 24 49)))) 1 36
      × NotFor 3 room (good_table (tables_of 3) 7 && good_row (replicate 24 49)) (on_wire (frame_of W1 (set_table 7 (replicate 24 49)))) 1 36
  -- with STX, as the other commands; built in 63 bytes
  pub sign_off : NotLeft room true (on_wire (bare_frame B0)) (holding room (on_wire (frame_of B0 []))) × NotAnswered (replicate 63 0) true (on_wire (bare_frame B0)) 1 5
