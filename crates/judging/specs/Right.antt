-- Request [7]: the right reply to each message of the head. Everything else is a NAK or a wrong reply.
use Rattle.std.specs.Prelude.{Bool, false, cond, ◌&&◌, List, ◌++◌, map, ℕ, eqb, take, drop}
use Rattle.line.specs.Characters.{seven, undamaged_all}
use Rattle.line.specs.Quoted.{char, chars}
use Rattle.text.specs.Classes.{same_text}
use Rattle.text.specs.Decimal.{decimal}
use Rattle.values.specs.Family.{import_name, export_name}
use Rattle.values.specs.Registers.{good_account, good_row}
use Rattle.values.specs.Texts.{table_text}
use Rattle.values.specs.Reading.{date_read, time_read, energy_read}
use Rattle.values.specs.Serials.{serial_read}
use Rattle.frames.specs.Frames.{on_wire}
use Rattle.replies.specs.Fixed.{identification, password_ask, accepted, refused}
use Rattle.blocks.specs.Parts.{part_of}
use Rattle.judging.specs.Lines.{is_line, value_in}

-- the identification of an edition, the P0 ask, ACK and NAK, byte for byte
unfoldable pub identifies : ℕ → List ℕ → Bool
identifies edition reply = same_text reply (on_wire (identification edition))

unfoldable pub asks_password : List ℕ → Bool
asks_password reply = same_text reply (on_wire password_ask)

unfoldable pub accepts : List ℕ → Bool
accepts reply = same_text reply (on_wire accepted)

unfoldable pub refuses : List ℕ → Bool
refuses reply = same_text reply (on_wire refused)

-- T(): the time and then the date, each real
unfoldable pub tells_time : List ℕ → Bool
tells_time s = is_line (chars "0.9.1(") s && (time_read (value_in (chars "0.9.1(") s)).ok

unfoldable pub tells_date : List ℕ → Bool
tells_date s = is_line (chars "0.9.2(") s && (date_read (value_in (chars "0.9.2(") s)).ok

-- the first line has 17 characters
unfoldable pub tells_clock : List ℕ → Bool
tells_clock s = tells_time (take 17 s) && tells_date (drop 17 s)

-- L(): a serial
unfoldable pub tells_serial : List ℕ → Bool
tells_serial s = is_line (chars "C.1.0(") s && (serial_read (value_in (chars "C.1.0(") s)).ok

-- K(): an account
unfoldable pub tells_account : List ℕ → Bool
tells_account s = is_line (chars "0.0.0(") s && good_account (value_in (chars "0.0.0(") s)

-- En() and Gn(): an energy at the address of the one asked, as the family shows it
abbrev pub energy_opening : List ℕ → ℕ → List ℕ
energy_opening name n = name ++ (decimal 1 n ++ chars "(")

unfoldable pub tells_counter : ℕ → List ℕ → List ℕ → Bool
tells_counter family opening s = is_line opening s && (energy_read family (value_in opening s)).ok

unfoldable pub tells_energy : ℕ → ℕ → List ℕ → Bool
tells_energy family n s = tells_counter family (energy_opening (import_name family) n) s

unfoldable pub tells_export : ℕ → ℕ → List ℕ → Bool
tells_export family n s = tells_counter family (energy_opening export_name n) s

-- Z(xx): a row at the number of the table asked
abbrev pub table_opening : ℕ → List ℕ
table_opening n = chars "131.0." ++ (table_text n ++ chars "(")

unfoldable pub tells_row : ℕ → List ℕ → Bool
tells_row n s = is_line (table_opening n) s && good_row (value_in (table_opening n) s)

-- just the lines that a read asked for, of a meter of a family: a letter of R1, with its number
unfoldable pub tells : ℕ → ℕ → ℕ → List ℕ → Bool
tells family letter n s =
    cond (eqb letter (char "T")) (tells_clock s)
    (cond (eqb letter (char "L")) (tells_serial s)
    (cond (eqb letter (char "K")) (tells_account s)
    (cond (eqb letter (char "E")) (tells_energy family n s)
    (cond (eqb letter (char "G")) (tells_export family n s)
    (cond (eqb letter (char "Z")) (tells_row n s) false)))))

-- the data of a stripped block
unfoldable pub data_in : List ℕ → List ℕ
data_in s = take (part_of s).length (drop (part_of s).start s)

-- a stripped block that has such a part
unfoldable pub answers_in : ℕ → ℕ → ℕ → List ℕ → Bool
answers_in family letter n s = eqb (part_of s).number 1 && tells family letter n (data_in s)

-- a block that strips and parts, and whose data is those lines
unfoldable pub answers : ℕ → ℕ → ℕ → List ℕ → Bool
answers family letter n reply = undamaged_all reply && answers_in family letter n (map seven reply)
