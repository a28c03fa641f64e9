-- What a whole frame says: it is compared with the frame that the rules build, for a meter of so many tables and of a family.
use Rattle.std.specs.Prelude.{Bool, true, false, cond, ◌&&◌, ◌||◌, List, [], ◌∷◌, map, ℕ, ◌-◌, eqb, length, take, drop}
use Rattle.line.specs.Characters.{seven}
use Rattle.line.specs.Quoted.{chars}
use Rattle.line.specs.Runs.{every}
use Rattle.text.specs.Classes.{is_printable, same_text}
use Rattle.text.specs.Layout.{fits}
use Rattle.clock.specs.Seconds.{real_clock}
use Rattle.clock.specs.declared.Clock.{Clock}
use Rattle.values.specs.Family.{is_eqm}
use Rattle.values.specs.Registers.{good_account, good_row, good_table}
use Rattle.values.specs.Reading.{clock_read, table_read}
use Rattle.frames.specs.Frames.{frame_of, bare_frame}
use Rattle.frames.specs.Commands.{B0, P1, R1, W1, ask_clock, ask_serial, ask_account, ask_energy, ask_export, set_clock, set_account, set_table}
use Rattle.frames.specs.Session.{enter_data}
use Rattle.history.specs.Saying.{says}

-- what stands behind SOH, two letters and STX, and before ETX and BCC
unfoldable pub data_in : List ℕ → List ℕ
data_in frame = take (length frame - 6) (drop 4 (map seven frame))

-- whole, undamaged and correctly checked: it is the frame of this command with its own data, which is printable
unfoldable pub is_frame : List ℕ → List ℕ → Bool
is_frame command frame = says frame (frame_of command (data_in frame)) && every is_printable (data_in frame)

-- B0
unfoldable pub leaves : List ℕ → Bool
leaves frame = says frame (bare_frame B0)

-- P1 with (), P1 with eight digits in brackets, and these digits
unfoldable pub enters : List ℕ → Bool
enters frame = is_frame P1 frame && same_text (data_in frame) enter_data

unfoldable pub tries : List ℕ → Bool
tries frame = is_frame P1 frame && fits (chars "(########)") (data_in frame)

abbrev pub password_in : List ℕ → List ℕ
password_in frame = take 8 (drop 1 (data_in frame))

-- the writes of document 01: the clock, the account, the row of a table
pub data Write : Type 0 where
  clock : Clock → Write
  account : List ℕ → Write
  row : ℕ → List ℕ → Write

unfoldable pub good_write : ℕ → Write → Bool
good_write tables (clock c) = real_clock c
good_write tables (account a) = good_account a
good_write tables (row n r) = good_table tables n && good_row r

unfoldable pub write_data : Write → List ℕ
write_data (clock c) = set_clock c
write_data (account a) = set_account a
write_data (row n r) = set_table n r

-- data is just what the rules write for this write, and its fields are good
unfoldable pub tells : ℕ → List ℕ → Write → Bool
tells tables d w = good_write tables w && same_text d (write_data w)

-- what stands between the brackets behind a letter
unfoldable pub inside : List ℕ → List ℕ
inside d = take (length d - 3) (drop 2 d)

-- what the write would be, by the place where each field stands
abbrev pub clock_here : List ℕ → Write
clock_here d = clock (clock_read (inside d)).clock

abbrev pub account_here : List ℕ → Write
account_here d = account (inside d)

abbrev pub row_here : ℕ → List ℕ → Write
row_here tables d = row (table_read tables (take 2 (inside d))).table.0 (drop 3 (inside d))

-- the write that data tells, if it tells one
unfoldable pub write_of : ℕ → List ℕ → List Write
write_of tables d =
    cond (tells tables d (clock_here d)) (clock_here d ∷ [])
    (cond (tells tables d (account_here d)) (account_here d ∷ [])
    (cond (tells tables d (row_here tables d)) (row_here tables d ∷ []) []))

-- W1
unfoldable pub write_in : ℕ → List ℕ → List Write
write_in tables frame = cond (is_frame W1 frame) (write_of tables (data_in frame)) []

-- there is one
unfoldable pub some_write : List Write → Bool
some_write [] = false
some_write (w ∷ ws) = true

-- the total's ask or a zone's
unfoldable pub is_one_of : (ℕ → List ℕ) → List ℕ → Bool
is_one_of ask d = same_text d (ask 0) || (same_text d (ask 1) || (same_text d (ask 2) || (same_text d (ask 3) || same_text d (ask 4))))

-- R1 with what may be asked: T(), L(), K(), E0() to E4(), Z(xx); [10]: G0() to G4() of an EQM meter
unfoldable pub is_ask : ℕ → ℕ → List ℕ → Bool
is_ask tables family d =
    same_text d ask_clock || (same_text d ask_serial || (same_text d ask_account
    || (is_one_of ask_energy d || ((is_eqm family && is_one_of ask_export d) || (fits (chars "Z(##)") d && (table_read tables (take 2 (drop 2 d))).ok)))))

unfoldable pub asks : ℕ → ℕ → List ℕ → Bool
asks tables family frame = is_frame R1 frame && is_ask tables family (data_in frame)

-- a frame that is taken in modes 3 and 4: a question in either, a write in mode 4
unfoldable pub is_taken : ℕ → ℕ → ℕ → List ℕ → Bool
is_taken tables family mode frame = asks tables family frame || (eqb mode 4 && some_write (write_in tables frame))
