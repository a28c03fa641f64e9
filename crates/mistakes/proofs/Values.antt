-- The wrong answers for `clock` and `values` are ruled out, by computing. Assumes nothing.
use mathlib.Core.Path.{refl}
use mathlib.Core.Bool.{cond}
use lib.ListN.{get_or}
use Rattle.line.specs.Runs.{every}
use Rattle.text.specs.Writing.{stored}
use Rattle.text.specs.Classes.{between, is_digit, is_letter, matching}
use Rattle.text.specs.Decimal.{decimal, value_from, value_of, number_at}
use Rattle.text.specs.Layout.{layout_text, pattern, agrees, fits}
use Rattle.clock.specs.declared.Clock.{Clock as Moment}
use Rattle.clock.specs.declared.Stamp.{Stamp}
use Rattle.clock.specs.Dates.{leap, thirty, days_in, real_date, real_time}
use Rattle.clock.specs.Seconds.{real_clock, real_stamp, next_month, next_day, next_second}
use Rattle.clock.specs.Weekday.{days_before, day_number, weekday}
use Rattle.values.specs.Reading.{DateRead, TimeRead, ClockRead, StampRead, CounterRead, TableRead, date_read, time_read, clock_read, stamp_read, counter_read, energy_read, table_read}
use Rattle.values.specs.Serials.{SerialRead, AccountRead, RowRead, serial_read, account_read, row_read}
use Rattle.values.specs.Edition.{is_edition, tables_of}
use Rattle.values.specs.Family.{is_family, is_eqm, counter_digits, counter_decimals, counter_end, export_end}
use Rattle.values.specs.Registers.{good_digits, is_account_character, good_account, good_row, good_table, good_zone, energy_no}
use Rattle.values.specs.Texts.{serial_text, table_text, date_text, time_text, clock_text, stamp_text, counter_text, energy_text}
use Rattle.mistakes.specs.Samples.{serial}
use Rattle.mistakes.specs.Values.{Clock, Rules, Families, Reading, Characters, Writing}
use Rattle.mistakes.proofs.Differing.{seen, number, flag, byte}

pub clock : Clock
unfolding leap thirty days_in real_date real_time real_clock real_stamp next_month next_day next_second days_before day_number weekday
clock =
    record {
      is_leap = (flag refl, flag refl);
      wrong_days_in = (number refl, number refl);
      is_date = (flag refl, flag refl);
      is_time = (flag refl, flag refl);
      is_clock = (flag refl, flag refl);
      is_stamp = (flag refl, flag refl);
      wrong_stamp_of = (seen (λ (s : Stamp). s.hour) refl, seen (λ (s : Stamp). s.minute) refl);
      wrong_next_second = (seen (λ (c : Moment). c.date.year) refl, seen (λ (c : Moment). c.date.month) refl);
      day_of_week = (number refl, number refl);
    }

pub rules : Rules
unfolding every between is_digit is_letter is_edition tables_of good_digits is_account_character good_account good_row good_table good_zone energy_no
rules =
    record {
      wrong_is_edition = (flag refl, flag refl);
      wrong_tables_of = (number refl, number refl);
      is_digits = (flag refl, flag refl);
      wrong_is_account_character = (flag refl, flag refl);
      is_account = (flag refl, flag refl);
      is_row = (flag refl, flag refl);
      is_table = (flag refl, flag refl);
      is_zone = (flag refl, flag refl);
      wrong_energy_no = (number refl, number refl);
    }

pub families : Families
unfolding between is_family is_eqm counter_digits counter_decimals counter_end export_end
families =
    record {
      wrong_is_family = (flag refl, flag refl);
      wrong_is_eqm = (flag refl, flag refl);
      wrong_counter_digits = (number refl, number refl);
      wrong_counter_decimals = (number refl, number refl);
      wrong_counter_end = (number refl, number refl);
      wrong_export_end = (number refl, number refl);
    }

pub reading : Reading × Characters
unfolding every between is_digit is_letter matching decimal value_from value_of number_at layout_text pattern agrees fits leap thirty days_in real_date real_time real_clock real_stamp is_account_character good_account good_row good_table serial_text clock_text stamp_text counter_digits counter_decimals counter_text energy_text date_read time_read clock_read stamp_read counter_read energy_read table_read serial_read account_read row_read serial
reading = (
  record {
    read_date = (seen (λ (r : DateRead). cond r.ok 1 0) refl, seen (λ (r : DateRead). r.date.year) refl);
    read_time = (seen (λ (r : TimeRead). cond r.ok 1 0) refl, seen (λ (r : TimeRead). r.time.second) refl);
    wrong_read_clock = (seen (λ (r : ClockRead). cond r.ok 1 0) refl, seen (λ (r : ClockRead). r.clock.date.month) refl);
    read_stamp = (seen (λ (r : StampRead). cond r.ok 1 0) refl, seen (λ (r : StampRead). r.stamp.hour) refl);
    read_counter = (seen (λ (r : CounterRead). r.number) refl, seen (λ (r : CounterRead). cond r.ok 1 0) refl);
    read-counter-eqm = (seen (λ (r : CounterRead). cond r.ok 1 0) refl, seen (λ (r : CounterRead). r.number) refl);
    wrong_read_table = (seen (λ (r : TableRead). cond r.ok 1 0) refl, seen (λ (r : TableRead). cond r.ok 1 0) refl);
  },
  record {
    wrong_read_serial = (seen (λ (r : SerialRead). get_or r.serial 3 0) refl, seen (λ (r : SerialRead). cond r.ok 1 0) refl);
    wrong_read_account = (seen (λ (r : AccountRead). cond r.ok 1 0) refl, seen (λ (r : AccountRead). get_or r.account 0 0) refl);
    read_row = (seen (λ (r : RowRead). cond r.ok 1 0) refl, seen (λ (r : RowRead). get_or r.row 0 0) refl);
  },
)

pub writing : Writing
unfolding stored decimal layout_text serial_text table_text date_text time_text clock_text stamp_text counter_digits counter_decimals counter_text energy_text serial
writing =
    record {
      put_serial = (byte 3 refl, byte 3 refl);
      put_table = (byte 3 refl, byte 0 refl);
      put_date = (byte 1 refl, byte 2 refl);
      put_time = (byte 1 refl, byte 2 refl);
      put_clock = (byte 1 refl, byte 1 refl);
      put_stamp = (byte 10 refl, byte 8 refl);
      put_counter = (byte 5 refl, byte 6 refl);
      put-counter-eqm = (byte 5 refl, byte 0 refl);
    }
