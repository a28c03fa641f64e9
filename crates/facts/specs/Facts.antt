-- Document 01, "Both sides of the line": the facts marked [P], each over the definitions that the crates promise.
use Rattle.std.specs.Prelude.{◌≡◌, true, false, List, [], ◌∷◌, ◌++◌, ℕ, ◌+◌, ◌*◌, ◌≤◌, length, get_or, replicate}
use Rattle.line.specs.Quoted.{char, chars}
use Rattle.line.specs.Controls.{SOH, STX, ETX}
use Rattle.values.specs.Edition.{row_length}
use Rattle.values.specs.Family.{is_eqm, counter_end}
use Rattle.values.specs.Texts.{energy_text}
use Rattle.values.specs.Registers.{good_row, zone_energy}
use Rattle.clock.specs.Seconds.{date_of, time_of}
use Rattle.clock.specs.Weekday.{weekday}
use Rattle.frames.specs.Frames.{frame_of, bare_frame, block_of, on_wire}
use Rattle.frames.specs.Commands.{B0, P0, P1, W1, set_table}
use Rattle.frames.specs.Session.{enter_data}
use Rattle.state.specs.declared.Counters.{Counters}
use Rattle.state.specs.declared.Registers.{Registers}
use Rattle.state.specs.Sizes.{period_places}
use Rattle.state.specs.WellFormed.{tables_in, family_in, registers_good}
use Rattle.state.specs.Setting.{counter_of}
use Rattle.replies.specs.declared.Ask.TheVariants.{Energy, Export}
use Rattle.replies.specs.Answers.{asked_data}
use Rattle.replies.specs.Block.{directions_long, block_data}
use Rattle.replies.specs.Periods.{period_long, long_data}
use Rattle.deciding.specs.Verdicts.{Refuse, Read, WriteClock}
use Rattle.deciding.specs.Asking.{asked}
use Rattle.deciding.specs.Telling.{told}
use Rattle.tariff.specs.Zones.{table_for, counted}
use Rattle.post.specs.Grammar.{line_text}
use Rattle.post.specs.Place.{CheckedAs}

-- the row of '1' alone
abbrev pub all_ones : List ℕ
all_ones = replicate row_length (char "1")

-- the answer of the check is this one and no other
pub record Answers (text : List ℕ) (number place : ℕ) : Type 0 where
  pub right : CheckedAs 24 text number place
  pub only : (n p : ℕ) → CheckedAs 24 text n p → (n ≡ number) × (p ≡ place)

pub record Facts : Type 0 where
  -- BCC of B0: 71 (hex)
  pub leave : bare_frame B0 ≡ SOH ∷ chars "B0" ++ ETX ∷ 0x71 ∷ []
  -- P0 (0000): 60
  pub ask-password : frame_of P0 (chars "(0000)") ≡ SOH ∷ chars "P0" ++ STX ∷ chars "(0000)" ++ ETX ∷ 0x60 ∷ []
  -- P1 (): 61, on the wire E1
  pub enter : frame_of P1 enter_data ≡ SOH ∷ chars "P1" ++ STX ∷ chars "()" ++ ETX ∷ 0x61 ∷ []
  pub enter-wire : get_or (on_wire (frame_of P1 enter_data)) 7 0 ≡ 0xE1
  -- all-'1' write for table 01: 06; table 04: 03, an ETX; table 06: 01, a SOH
  pub ones-01 : get_or (frame_of W1 (set_table 1 all_ones)) 35 0 ≡ 0x06
  pub ones-04 : get_or (frame_of W1 (set_table 4 all_ones)) 35 0 ≡ ETX
  pub ones-06 : get_or (frame_of W1 (set_table 6 all_ones)) 35 0 ≡ SOH
  -- 1,500 Wh in T1, E1(): STX 15.8.1(000001.500*kWh) CR LF ETX, BCC 6C
  pub asks-first : (family : ℕ) → asked 24 family (chars "E1()") ≡ Read (Energy (zone_energy 1))
  pub energy-block : (g : Registers) → family_in g ≡ 0 → counter_of g.counters 1 ≡ 1500
      → block_of (asked_data g (Energy (zone_energy 1)))
      ≡ STX ∷ chars "15.8.1(000001.500*kWh)\r\n" ++ ETX ∷ 0x6C ∷ []
  -- 2000-01-01 is a Saturday: table 13; [3]: of edition 2 table 25, and the Sunday after it table 13
  pub saturday : weekday (date_of 2000 1 1) ≡ 5
  pub saturday-table : table_for 1 (date_of 2000 1 1) ≡ 13
  pub saturday-kilns : table_for 2 (date_of 2000 1 1) ≡ 25
  pub sunday-kilns : table_for 2 (date_of 2000 1 2) ≡ 13
  -- 999,999,999 + 1 Wh gives 0
  pub wraps : (c : Counters) → counter_of c 1 ≡ 999999999 → counter_of (counted (counter_end 0) c 1 1) 1 ≡ 0
  -- 29-02-2000 accepted, 29-02-2001 refused with 9
  pub leap-day : told 24 (chars "T(29-02-2000;00:00:00)") ≡ WriteClock (record { date = date_of 2000 2 29; time = time_of 0 0 0 })
  pub no-leap-day : told 24 (chars "T(29-02-2001;00:00:00)") ≡ Refuse 9
  -- empty text and `!` alone: 20 at place 0
  pub empty-text : Answers [] 20 0
  pub only-last : Answers (chars "!") 20 0
  -- table 24's line, then '1': 20 at place 36
  pub past-24 : (row : List ℕ) → good_row row ≡ true → Answers (line_text 24 row ++ chars "1") 20 36
  -- [10], beside document 01's: two, three and four decimals
  pub two-decimals : energy_text 2 12345678 ≡ chars "123456.78*kWh"
  pub three-decimals : energy_text 3 12345678 ≡ chars "12345.678*kWh"
  pub four-decimals : energy_text 4 12345678 ≡ chars "1234.5678*kWh"
  -- 1.500 kWh went out in T1, G1() of a meter with three: STX 2.8.1(00001.500*kWh) CR LF ETX, BCC 6A; one of document 01's family refuses it with 9
  pub asks-out : asked 24 3 (chars "G1()") ≡ Read (Export (zone_energy 1))
  pub out-block : (g : Registers) → family_in g ≡ 3 → counter_of g.exported 1 ≡ 1500
      → block_of (asked_data g (Export (zone_energy 1)))
      ≡ STX ∷ chars "2.8.1(00001.500*kWh)\r\n" ++ ETX ∷ 0x6A ∷ []
  pub asks-out-01 : asked 24 0 (chars "G1()") ≡ Refuse 9
  -- 99,999,999 + 1 of an EQM meter gives 0
  pub eqm-wraps : (family : ℕ) → is_eqm family ≡ true → (c : Counters) → counter_of c 1 ≡ 99999999 → counter_of (counted (counter_end family) c 1 1) 1 ≡ 0
  -- [12], [3], [10]: a block has 36 characters a table and 120 or 220 of energies, and with its closed periods 134 or 226 more for each; of document 01's family the
  -- longest have 2,671 and 2,707, of an EQM meter 3,875 and 3,911
  pub block-length : (g : Registers) → registers_good g ≡ true → length (block_of (block_data (tables_in g) g)) ≡ 79 + directions_long (family_in g) + tables_in g * 36
  pub long-block : (g : Registers) → registers_good g ≡ true
      → length (block_of (long_data (tables_in g) g)) ≡ 79 + directions_long (family_in g) + tables_in g * 36 + g.archive.count * period_long (family_in g)
  pub longest-block : (g : Registers) → registers_good g ≡ true → length (block_of (long_data (tables_in g) g)) ≤ 3911
  pub twelve-periods : (g : Registers) → registers_good g ≡ true → g.archive.count ≡ period_places → is_eqm (family_in g) ≡ false
      → length (block_of (long_data (tables_in g) g)) ≡ 1807 + tables_in g * 36
  pub twelve-periods-eqm : (g : Registers) → registers_good g ≡ true → g.archive.count ≡ period_places → is_eqm (family_in g) ≡ true
      → length (block_of (long_data (tables_in g) g)) ≡ 3011 + tables_in g * 36
