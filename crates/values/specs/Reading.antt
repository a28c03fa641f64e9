-- Document 01, "The head" and "Deciding a frame": a text read back to the value that made it, or zeros where it is no such text.
use Rattle.std.specs.Prelude.{Bool, true, false, cond, Option, is_some, unwrap_or, List, ℕ, ◌+◌, ◌*◌, ◌-◌, ◌^◌}
use Rattle.text.specs.Decimal.{number_at}
use Rattle.text.specs.Layout.{pattern, fits}
use Rattle.clock.specs.Dates.{real_date, real_time}
use Rattle.clock.specs.Seconds.{date_of, time_of, real_clock, real_stamp}
use Rattle.clock.specs.declared.Date.{Date}
use Rattle.clock.specs.declared.Time.{Time}
use Rattle.clock.specs.declared.Clock.{Clock}
use Rattle.clock.specs.declared.Stamp.{Stamp}
use Rattle.values.specs.declared.TableNo.{TableNo}
use Rattle.values.specs.Family.{counter_digits, counter_decimals}
use Rattle.values.specs.Registers.{good_table}
use Rattle.values.specs.Texts.{date_form, time_form, clock_form, stamp_form, counter_form, table_form}

-- what was read, and whether anything was; zeros where nothing was
pub record DateRead : Type 0 where
  pub ok : Bool
  pub date : Date

pub record TimeRead : Type 0 where
  pub ok : Bool
  pub time : Time

pub record ClockRead : Type 0 where
  pub ok : Bool
  pub clock : Clock

pub record StampRead : Type 0 where
  pub ok : Bool
  pub stamp : Stamp

pub record CounterRead : Type 0 where
  pub ok : Bool
  pub number : ℕ

pub record TableRead : Type 0 where
  pub ok : Bool
  pub table : TableNo

abbrev pub no_date : DateRead
no_date = record { ok = false; date = date_of 0 0 0 }

abbrev pub no_time : TimeRead
no_time = record { ok = false; time = time_of 0 0 0 }

abbrev pub no_clock : ClockRead
no_clock = record { ok = false; clock = record { date = date_of 0 0 0; time = time_of 0 0 0 } }

-- what a function that reads gives, so told
abbrev pub date_found : Option Date → DateRead
date_found o = record { ok = is_some o; date = unwrap_or o (date_of 0 0 0) }

abbrev pub time_found : Option Time → TimeRead
time_found o = record { ok = is_some o; time = unwrap_or o (time_of 0 0 0) }

abbrev pub clock_found : Option Clock → ClockRead
clock_found o = record { ok = is_some o; clock = unwrap_or o no_clock.clock }

abbrev pub some_date : ℕ → ℕ → ℕ → DateRead
some_date y m d = cond (real_date y m d) (record { ok = true; date = date_of y m d }) no_date

abbrev pub some_time : ℕ → ℕ → ℕ → TimeRead
some_time h n s = cond (real_time h n s) (record { ok = true; time = time_of h n s }) no_time

-- yy-mm-dd, where yy is 20yy
unfoldable pub date_read : List ℕ → DateRead
date_read s = cond (fits (pattern date_form) s) (some_date (2000 + number_at s 0 2) (number_at s 3 2) (number_at s 6 2)) no_date

-- hh:nn:ss
unfoldable pub time_read : List ℕ → TimeRead
time_read s = cond (fits (pattern time_form) s) (some_time (number_at s 0 2) (number_at s 3 2) (number_at s 6 2)) no_time

-- dd-mm-yyyy;hh:nn:ss
abbrev pub clock_in : List ℕ → Clock
clock_in s = record { date = date_of (number_at s 6 4) (number_at s 3 2) (number_at s 0 2); time = time_of (number_at s 11 2) (number_at s 14 2) (number_at s 17 2) }

abbrev pub some_clock : Clock → ClockRead
some_clock c = cond (real_clock c) (record { ok = true; clock = c }) no_clock

unfoldable pub clock_read : List ℕ → ClockRead
clock_read s = cond (fits (pattern clock_form) s) (some_clock (clock_in s)) no_clock

-- yy-mm-dd hh:nn
abbrev pub no_stamp : StampRead
no_stamp = record { ok = false; stamp = record { date = date_of 0 0 0; hour = 0; minute = 0 } }

abbrev pub stamp_found : Option Stamp → StampRead
stamp_found o = record { ok = is_some o; stamp = unwrap_or o no_stamp.stamp }

abbrev pub stamp_in : List ℕ → Stamp
stamp_in s = record { date = date_of (2000 + number_at s 0 2) (number_at s 3 2) (number_at s 6 2); hour = number_at s 9 2; minute = number_at s 12 2 }

abbrev pub some_stamp : Stamp → StampRead
some_stamp t = cond (real_stamp t) (record { ok = true; stamp = t }) no_stamp

unfoldable pub stamp_read : List ℕ → StampRead
stamp_read s = cond (fits (pattern stamp_form) s) (some_stamp (stamp_in s)) no_stamp

abbrev pub counter_found : Option ℕ → CounterRead
counter_found o = record { ok = is_some o; number = unwrap_or o 0 }

-- eeeeee.eee*kWh
abbrev pub counter_in : ℕ → ℕ → List ℕ → ℕ
counter_in all decimals s = number_at s 0 (all - decimals) * 10 ^ decimals + number_at s (all - decimals + 1) decimals

unfoldable pub counter_read : ℕ → ℕ → List ℕ → CounterRead
counter_read all decimals s =
    cond (fits (pattern (counter_form all decimals)) s) (record { ok = true; number = counter_in all decimals s }) (record { ok = false; number = 0 })

-- as a family shows it
unfoldable pub energy_read : ℕ → List ℕ → CounterRead
energy_read family s = counter_read (counter_digits family) (counter_decimals family) s

-- xx, of so many tables
abbrev pub no_table : TableRead
no_table = record { ok = false; table = record { 0 = 0 } }

abbrev pub table_found : Option TableNo → TableRead
table_found o = record { ok = is_some o; table = unwrap_or o no_table.table }

abbrev pub some_table : ℕ → ℕ → TableRead
some_table tables n = cond (good_table tables n) (record { ok = true; table = record { 0 = n } }) no_table

unfoldable pub table_read : ℕ → List ℕ → TableRead
table_read tables s = cond (fits (pattern table_form) s) (some_table tables (number_at s 0 2)) no_table
