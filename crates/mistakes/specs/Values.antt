-- Two wrong answers for each call of `clock` and `values`.
use Rattle.std.specs.Prelude.{true, false, [], ◌∷◌, ◌++◌, replicate}
use Rattle.line.specs.Quoted.{chars}
use Rattle.text.specs.Writing.{stored}
use Rattle.text.specs.Decimal.{decimal}
use Rattle.clock.specs.Dates.{leap, days_in, real_date, real_time}
use Rattle.clock.specs.Seconds.{real_clock, real_stamp, stamp_of, date_of, time_of, next_second}
use Rattle.clock.specs.Weekday.{weekday}
use Rattle.values.specs.Edition.{is_edition, tables_of}
use Rattle.values.specs.Family.{is_family, is_eqm, counter_digits, counter_decimals, counter_end, export_end}
use Rattle.values.specs.Registers.{good_digits, is_account_character, good_account, good_row, good_table, good_zone, energy_no, zone_energy}
use Rattle.values.specs.declared.Energy.TheVariants.{Total}
use Rattle.values.specs.Texts.{serial_text, table_text, date_text, time_text, clock_text, stamp_text, counter_text, energy_text}
use Rattle.values.specs.Reading.{date_read, time_read, clock_read, stamp_read, energy_read, table_read}
use Rattle.values.specs.Serials.{serial_read, account_read, row_read}
use Rattle.mistakes.specs.RuledOut.{RuledOut}
use Rattle.mistakes.specs.Samples.{clock_at, stamp_at, serial, account}

-- of `clock`
pub record Clock : Type 0 where
  -- leap years one year late; a whole century never one
  pub is_leap : RuledOut (leap 2001) true × RuledOut (leap 2000) false
  -- 29 days in every February; 31 days in April
  pub wrong_days_in : RuledOut (days_in 2001 2) 29 × RuledOut (days_in 2001 4) 31
  -- 29-02-2001 as a date; a year past the century
  pub is_date : RuledOut (real_date 2001 2 29) true × RuledOut (real_date 2100 1 1) true
  -- 24:00:00 as a time; a leap second
  pub is_time : RuledOut (real_time 24 0 0) true × RuledOut (real_time 23 59 60) true
  -- the time looked at alone; the date looked at alone
  pub is_clock : RuledOut (real_clock (clock_at 2001 2 29 0 0 0)) true × RuledOut (real_clock (clock_at 2001 2 28 24 0 0)) true
  -- 29-02-2001 as a date; minute 60
  pub is_stamp : RuledOut (real_stamp (stamp_at 2001 2 29 0 0)) true × RuledOut (real_stamp (stamp_at 2001 2 28 23 60)) true
  -- hour and minute changed about; the second for the minute
  pub wrong_stamp_of : RuledOut (stamp_of (clock_at 2001 2 3 4 5 6)) (stamp_at 2001 2 3 5 4) × RuledOut (stamp_of (clock_at 2001 2 3 4 5 6)) (stamp_at 2001 2 3 4 6)
  -- 2100 after 2099; no 29 February in 2000
  pub wrong_next_second : RuledOut (next_second (clock_at 2099 12 31 23 59 59)) (clock_at 2100 1 1 0 0 0)
      × RuledOut (next_second (clock_at 2000 2 28 23 59 59)) (clock_at 2000 3 1 0 0 0)
  -- a Saturday as the last day, 6; a 1 March that forgets the leap day
  pub day_of_week : RuledOut (weekday (date_of 2000 1 1)) 6 × RuledOut (weekday (date_of 2000 3 1)) 1

-- of `values`
pub record Rules : Type 0 where
  -- [3]: an edition 3; no edition 2
  pub wrong_is_edition : RuledOut (is_edition 3) true × RuledOut (is_edition 2) false
  -- 24 tables in edition 2; 25 in edition 1
  pub wrong_tables_of : RuledOut (tables_of 2) 24 × RuledOut (tables_of 1) 25
  -- any number of digits; ':' among them
  pub is_digits : RuledOut (good_digits 8 (replicate 7 49)) true × RuledOut (good_digits 2 (chars "1:")) true
  -- no underscore; a hyphen
  pub wrong_is_account_character : RuledOut (is_account_character 95) false × RuledOut (is_account_character 45) true
  -- nine characters; no account of spaces
  pub is_account : RuledOut (good_account (replicate 9 65)) true × RuledOut (good_account (replicate 10 32)) false
  -- a zone 5; a bracket as the last character
  pub is_row : RuledOut (good_row (replicate 24 53)) true × RuledOut (good_row (replicate 23 49 ++ (chars ")"))) true
  -- table 25 of 24; table 0
  pub is_table : RuledOut (good_table 24 25) true × RuledOut (good_table 24 0) true
  -- zone 0, which would be the total; no zone 4
  pub is_zone : RuledOut (good_zone 0) true × RuledOut (good_zone 4) false
  -- a number of its own for the total; the total's for a zone
  pub wrong_energy_no : RuledOut (energy_no Total) 5 × RuledOut (energy_no (zone_energy 2)) 0

-- of `values::family`
pub record Families : Type 0 where
  -- a family of one decimal; document 01's as none
  pub wrong_is_family : RuledOut (is_family 1) true × RuledOut (is_family 0) false
  -- document 01's family among the EQM ones; two decimals not
  pub wrong_is_eqm : RuledOut (is_eqm 0) true × RuledOut (is_eqm 2) false
  -- nine digits of an EQM meter; eight in document 01's family
  pub wrong_counter_digits : RuledOut (counter_digits 4) 9 × RuledOut (counter_digits 0) 8
  -- no decimals in document 01's family; three of a meter with two
  pub wrong_counter_decimals : RuledOut (counter_decimals 0) 0 × RuledOut (counter_decimals 2) 3
  -- 1,000,000,000 of an EQM meter; 100,000,000 in document 01's family
  pub wrong_counter_end : RuledOut (counter_end 3) 1000000000 × RuledOut (counter_end 0) 100000000
  -- a counter of what goes out in document 01's family; 1,000,000,000 for it
  pub wrong_export_end : RuledOut (export_end 0) 1000000000 × RuledOut (export_end 4) 1000000000

-- of `values::reading`
pub record Reading : Type 0 where
  -- 01-02-29 as a date; the year 0 for 00-02-29
  pub read_date : RuledOut (date_read (chars "01-02-29")) (record { ok = true; date = date_of 2001 2 29 })
      × RuledOut (date_read (chars "00-02-29")) (record { ok = true; date = date_of 0 2 29 })
  -- 24:00:00 as a time; 23:58:59 with minutes and seconds changed about
  pub read_time : RuledOut (time_read (chars "24:00:00")) (record { ok = true; time = time_of 24 0 0 })
      × RuledOut (time_read (chars "23:58:59")) (record { ok = true; time = time_of 23 59 58 })
  -- 29-02-2001 as a date; 03-02-2001 with day and month changed about
  pub wrong_read_clock : RuledOut (clock_read (clock_text (clock_at 2001 2 29 0 0 0))) (record { ok = true; clock = clock_at 2001 2 29 0 0 0 })
      × RuledOut (clock_read (clock_text (clock_at 2001 2 3 0 0 0))) (record { ok = true; clock = clock_at 2001 3 2 0 0 0 })
  -- 24:00 as a time; 23:05 with hour and minute changed about
  pub read_stamp : RuledOut (stamp_read (stamp_text (stamp_at 2001 2 3 24 0))) (record { ok = true; stamp = stamp_at 2001 2 3 24 0 })
      × RuledOut (stamp_read (stamp_text (stamp_at 2001 2 3 23 5))) (record { ok = true; stamp = stamp_at 2001 2 3 5 23 })
  -- the decimals left out; four decimals
  pub read_counter : RuledOut (energy_read 0 (energy_text 0 1500)) (record { ok = true; number = 1 })
      × RuledOut (energy_read 0 (counter_text 10 4 15000)) (record { ok = true; number = 15000 })
  -- [10]: of three decimals, the point in the column of two taken; a decimal too many counted
  pub read-counter-eqm : RuledOut (energy_read 3 (energy_text 2 12345678)) (record { ok = true; number = 12345678 })
      × RuledOut (energy_read 3 (energy_text 3 1500)) (record { ok = true; number = 15000 })
  -- 25 of 24 tables; table 00
  pub wrong_read_table : RuledOut (table_read 24 (chars "25")) (record { ok = true; table = record { 0 = 25 } })
      × RuledOut (table_read 24 (chars "00")) (record { ok = true; table = record { 0 = 0 } })

-- of `values::characters`
pub record Characters : Type 0 where
  -- the space handed out with the digits; a serial without its space
  pub wrong_read_serial : RuledOut (serial_read (serial_text serial)) (record { ok = true; serial = decimal 3 123 ++ (32 ∷ decimal 6 456789) })
      × RuledOut (serial_read serial) (record { ok = true; serial = serial })
  -- a hyphen let through; a bad account handed out all the same
  pub wrong_read_account : RuledOut (account_read (replicate 10 45)) (record { ok = true; account = replicate 10 45 })
      × RuledOut (account_read (replicate 10 45)) (record { ok = false; account = replicate 10 45 })
  -- zone 5 let through; a bad row handed out all the same
  pub read_row : RuledOut (row_read (replicate 24 53)) (record { ok = true; row = replicate 24 53 })
      × RuledOut (row_read (replicate 24 53)) (record { ok = false; row = replicate 24 53 })

-- of `values::writing`
pub record Writing : Type 0 where
  -- no space after three digits; the space after four
  pub put_serial : RuledOut (stored (replicate 11 0) 0 (serial_text serial)) (serial ++ (0 ∷ []))
      × RuledOut (stored (replicate 11 0) 0 (serial_text serial)) (decimal 4 1234 ++ (32 ∷ decimal 6 567890))
  -- one digit for a number below 10; at the front, whatever the place
  pub put_table : RuledOut (stored (replicate 4 0) 2 (table_text 7)) (0 ∷ 0 ∷ chars "7" ++ 0 ∷ [])
      × RuledOut (stored (replicate 4 0) 2 (table_text 7)) (chars "07" ++ 0 ∷ 0 ∷ [])
  -- the day first; hours' colons for the date's hyphens
  pub put_date : RuledOut (stored (replicate 8 0) 0 (date_text (date_of 2001 2 3))) (date_text (date_of 2003 2 1))
      × RuledOut (stored (replicate 8 0) 0 (date_text (date_of 2001 2 3))) (time_text (time_of 1 2 3))
  -- the seconds first; the date's hyphens for colons
  pub put_time : RuledOut (stored (replicate 8 0) 0 (time_text (time_of 1 2 3))) (time_text (time_of 3 2 1))
      × RuledOut (stored (replicate 8 0) 0 (time_text (time_of 1 2 3))) (date_text (date_of 2001 2 3))
  -- the month first; the year of two digits in front, as a data set has it
  pub put_clock : RuledOut (stored (replicate 19 0) 0 (clock_text (clock_at 2001 2 3 4 5 6))) (clock_text (clock_at 2001 3 2 4 5 6))
      × RuledOut (stored (replicate 19 0) 0 (clock_text (clock_at 2001 2 3 4 5 6)))
      (date_text (date_of 2001 2 3) ++ (59 ∷ (time_text (time_of 4 5 6) ++ (0 ∷ 0 ∷ []))))
  -- hour and minute changed about; a semicolon for the space, as a write of the clock has it
  pub put_stamp : RuledOut (stored (replicate 14 0) 0 (stamp_text (stamp_at 2001 2 3 4 5))) (stamp_text (stamp_at 2001 2 3 5 4))
      × RuledOut (stored (replicate 14 0) 0 (stamp_text (stamp_at 2001 2 3 4 5))) (date_text (date_of 2001 2 3) ++ (59 ∷ (decimal 2 4 ++ (58 ∷ decimal 2 5))))
  -- Wh shown as kWh; two decimals
  pub put_counter : RuledOut (stored (replicate 14 0) 0 (energy_text 0 1500)) (energy_text 0 1500000)
      × RuledOut (stored (replicate 14 0) 0 (energy_text 0 1500)) (counter_text 9 2 150)
  -- [10]: of three decimals, the point in the column of two; nine digits
  pub put-counter-eqm : RuledOut (stored (replicate 13 0) 0 (energy_text 3 12345678)) (energy_text 2 12345678)
      × RuledOut (stored (replicate 14 0) 0 (energy_text 3 12345678)) (counter_text 9 3 12345678)
