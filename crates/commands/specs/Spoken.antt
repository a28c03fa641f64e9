-- Document 01, "The head": everything that the head says after the confirmation, with its fields.
use Rattle.std.specs.Prelude.{Bool, true, ◌&&◌, List, ℕ}
use Rattle.clock.specs.declared.Clock.{Clock}
use Rattle.clock.specs.Seconds.{real_clock}
use Rattle.values.specs.Family.{is_eqm}
use Rattle.values.specs.Registers.{good_password, good_account, good_row, good_table, good_zone}
use Rattle.frames.specs.Frames.{frame_of}
use Rattle.frames.specs.Commands.{P1, R1, W1, ask_clock, ask_serial, ask_account, ask_energy, ask_export, ask_table, set_clock, set_account, set_table}
use Rattle.frames.specs.Session.{enter_data, password_data}

-- the commands with data
pub data Command : Type 0 where
  enter : Command
  password : List ℕ → Command
  read_clock : Command
  read_serial : Command
  read_account : Command
  read_total : Command
  read_zone : ℕ → Command
  read_total_out : Command
  read_zone_out : ℕ → Command
  read_table : ℕ → Command
  write_clock : Clock → Command
  write_account : List ℕ → Command
  write_table : ℕ → List ℕ → Command

-- the fields lie within their rules, for a meter of so many tables and of a family: only an EQM meter tells what went out
unfoldable pub good_fields : ℕ → ℕ → Command → Bool
good_fields tables family (password p) = good_password p
good_fields tables family (read_zone n) = good_zone n
good_fields tables family read_total_out = is_eqm family
good_fields tables family (read_zone_out n) = is_eqm family && good_zone n
good_fields tables family (read_table n) = good_table tables n
good_fields tables family (write_clock c) = real_clock c
good_fields tables family (write_account a) = good_account a
good_fields tables family (write_table n row) = good_table tables n && good_row row
good_fields tables family enter = true
good_fields tables family read_clock = true
good_fields tables family read_serial = true
good_fields tables family read_account = true
good_fields tables family read_total = true

unfoldable pub letters_of : Command → List ℕ
letters_of enter = P1
letters_of (password p) = P1
letters_of read_clock = R1
letters_of read_serial = R1
letters_of read_account = R1
letters_of read_total = R1
letters_of (read_zone n) = R1
letters_of read_total_out = R1
letters_of (read_zone_out n) = R1
letters_of (read_table n) = R1
letters_of (write_clock c) = W1
letters_of (write_account a) = W1
letters_of (write_table n row) = W1

unfoldable pub data_of : Command → List ℕ
data_of enter = enter_data
data_of (password p) = password_data p
data_of read_clock = ask_clock
data_of read_serial = ask_serial
data_of read_account = ask_account
data_of read_total = ask_energy 0
data_of (read_zone n) = ask_energy n
data_of read_total_out = ask_export 0
data_of (read_zone_out n) = ask_export n
data_of (read_table n) = ask_table n
data_of (write_clock c) = set_clock c
data_of (write_account a) = set_account a
data_of (write_table n row) = set_table n row

-- the characters of a command
unfoldable pub spoken : Command → List ℕ
spoken c = frame_of (letters_of c) (data_of c)
