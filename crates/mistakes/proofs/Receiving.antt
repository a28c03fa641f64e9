-- The wrong answers for `state::setting`, `receiving`, `deciding` and `tariff` are ruled out, by computing. Assumes nothing.
use mathlib.Core.Path.{refl}
use mathlib.Core.List.{List}
use lib.ListN.{get_or}
use Rattle.receiving.specs.Receivers.{held_after}
use Prim.Native.Nat.{ℕ, ◌+◌}
use Rattle.line.specs.Characters.{seven}
use Rattle.line.specs.Checksum.{bcc_of}
use Rattle.line.specs.Runs.{every}
use Rattle.text.specs.Writing.{stored}
use Rattle.text.specs.Classes.{between, is_digit, is_printable, matching, same_text}
use Rattle.text.specs.Decimal.{decimal}
use Rattle.text.specs.Layout.{layout_text, agrees, fits}
use Rattle.clock.specs.Dates.{leap, thirty, days_in, real_date, real_time}
use Rattle.clock.specs.Seconds.{real_stamp, next_month, next_day, next_second}
use Rattle.clock.specs.Weekday.{days_before, day_number, weekday}
use Rattle.values.specs.Edition.{tables_of}
use Rattle.values.specs.Family.{is_eqm, counter_end, export_end}
use Rattle.values.specs.Texts.{table_text}
use Rattle.frames.specs.Frames.{closed, frame_of, bare_frame}
use Rattle.frames.specs.Commands.{bracketed, ask_clock, ask_serial, ask_account, ask_export, set_table}
use Rattle.state.specs.declared.Receiver.{Receiver}
use Rattle.state.specs.declared.Meter.{Meter}
use Rattle.state.specs.declared.Counters.{Counters}
use Rattle.state.specs.declared.Period.{Period}
use Rattle.state.specs.declared.Registers.{Registers}
use Rattle.state.specs.WellFormed.{below, zones_below, both_below, no_time, unused, period_good, every_period, archive_good}
use Rattle.state.specs.Link.{is_wired, rest_speed}
use Rattle.state.specs.Making.{no_period, new_rows}
use Rattle.state.specs.Closing.{periods_of, closed_with}
use Rattle.state.specs.Setting.{counter_of}
use Rattle.receiving.specs.declared.Hearing.{Hearing}
use Rattle.receiving.specs.declared.Hearing.TheVariants.{Drop, Hold, Restart, Empty, Line, Confirm, Frame, TooLong}
use Rattle.receiving.specs.Hearing.{hearing, listening, confirming, framing}
use Rattle.replies.specs.declared.Ask.{Ask}
use Rattle.replies.specs.declared.Ask.TheVariants.{Clock, Serial, Account, Energy, Export, Table}
use Rattle.deciding.specs.Asking.{table_asked, energy_named, energy_at, energy_asked, asked}
use Rattle.deciding.specs.Verdicts.{number_of, Verdict, Refuse, Leave, Enter, Password, Read, WriteClock, WriteAccount, WriteTable}
use Rattle.deciding.specs.Shape.{start_good, bare_shape, content, framed_shape}
use Rattle.deciding.specs.Verdict.{entry, bare_verdict, framed_verdict, shape_verdict, verdict}
use Rattle.tariff.specs.Zones.{own_day, table_for, zone_in, counted}
use Rattle.tariff.specs.Months.{month_starts, month_closed}
use Rattle.mistakes.specs.Samples.{serial, account, twos, new_meter, used, new_eqm, used_eqm, held_in, closed_twice, oldest_first}
use Rattle.mistakes.specs.Receiving.{full_eqm, Refusals, Setting, Hearings, Decisions, Closing, Tariff}
use Rattle.mistakes.proofs.Differing.{seen, number, flag, byte}

-- each case as a number
unfoldable hearing_case : Hearing → ℕ
hearing_case Drop = 0
hearing_case Hold = 1
hearing_case Restart = 2
hearing_case Empty = 3
hearing_case Line = 4
hearing_case Confirm = 5
hearing_case Frame = 6
hearing_case TooLong = 7

unfoldable ask_case : Ask → ℕ
ask_case Clock = 0
ask_case Serial = 1
ask_case Account = 2
ask_case (Energy e) = 3
ask_case (Export e) = 4
ask_case (Table t) = 5

unfoldable verdict_case : Verdict → ℕ
verdict_case (Refuse n) = n
verdict_case Leave = 100
verdict_case Enter = 101
verdict_case Password = 102
verdict_case (Read a) = 110 + ask_case a
verdict_case (WriteClock c) = 104
verdict_case WriteAccount = 105
verdict_case (WriteTable t) = 106

pub hearings : Hearings
unfolding held_after hearing listening confirming framing hearing_case stored new_meter held_in tables_of new_rows
hearings =
    record {
      hear = (seen hearing_case refl, seen hearing_case refl);
      wrong_last_held = (number refl, number refl);
      keep = (seen (λ (r : Receiver). r.mark) refl, seen (λ (r : Receiver). r.count) refl);
      restart = (seen (λ (r : Receiver). r.mark) refl, seen (λ (r : Receiver). r.count) refl);
      wrong_hurt_place = (number refl, number refl);
      keep-place = (seen (λ (r : Receiver). r.place) refl, seen (λ (r : Receiver). r.place) refl);
      hold = (seen (λ (l : List ℕ). get_or l 1 0) refl, seen (λ (l : List ℕ). get_or l 1 0) refl);
      puts-it-a-place-early = seen (λ (r : Receiver). get_or r.held 0 0) refl;
    }

pub decisions : Decisions
unfolding seven bcc_of every between is_digit is_printable matching same_text decimal layout_text agrees fits table_text closed frame_of bare_frame bracketed set_table start_good bare_shape content framed_shape entry bare_verdict framed_verdict shape_verdict verdict asked energy_asked energy_named energy_at table_asked is_eqm ask_clock ask_serial ask_account ask_export ask_case verdict_case twos
decisions =
    record {
      decide = (seen verdict_case refl, seen verdict_case refl);
      decide-out = (seen verdict_case refl, seen verdict_case refl);
      sums-the-soh = (seen verdict_case refl, seen verdict_case refl);
    }

pub refusals : Refusals
unfolding number_of
refusals = record { wrong_number = (number refl, number refl) }

pub setting : Setting
unfolding stored decimal serial account twos new_meter used held_in tables_of new_rows is_wired rest_speed
setting =
    record {
      wrong_with_receiver = (seen (λ (m : Meter). m.receiver.count) refl, seen (λ (m : Meter). m.mode) refl);
      wrong_in_mode = (seen (λ (m : Meter). m.speed) refl, seen (λ (m : Meter). m.speed) refl);
      wrong_with_attempts = (seen (λ (m : Meter). m.attempts) refl, seen (λ (m : Meter). m.attempts) refl);
      wrong_with_registers = (seen (λ (m : Meter). counter_of m.registers.counters 1) refl, seen (λ (m : Meter). m.mode) refl);
      ten = (byte 0 refl, byte 0 refl);
      wrong_row_start = (number refl, number refl);
      one_place = number refl;
      wrong_with_zones = (seen (λ (c : Counters). counter_of c 1) refl, seen (λ (c : Counters). counter_of c 2) refl);
      wrong_with_total = (seen (λ (c : Counters). c.total) refl, seen (λ (c : Counters). c.total) refl);
      wrong_zone_place = (number refl, number refl);
      wrong_counter_of = (number refl, number refl);
    }

pub closings : Closing
unfolding stored decimal leap thirty days_in real_date real_time real_stamp every below zones_below counter_end export_end both_below no_time unused period_good every_period archive_good periods_of closed_with serial account twos new_meter used closed_twice oldest_first tables_of new_rows
closings =
    record {
      wrong_archive_good = (flag refl, flag refl);
      close = (seen (λ (g : Registers). g.archive.count) refl, seen (λ (g : Registers). counter_of g.counters 1) refl);
      close-first = seen (λ (g : Registers). (get_or g.archive.periods 0 no_period).closed.date.year) refl;
    }

pub tariff : Tariff
unfolding stored decimal leap thirty days_in next_month next_day next_second month_starts month_closed periods_of closed_with days_before day_number weekday table_for zone_in counter_end export_end counted serial account twos new_meter used new_eqm used_eqm full_eqm held_in tables_of new_rows own_day
tariff =
    record {
      table-for-kilns = (number refl, number refl);
      wrong_table_for = (number refl, number refl);
      wrong_zone_in = (number refl, number refl);
      wrong_zone_at = (number refl, number refl);
      wrong_month_starts = (flag refl, flag refl);
      count = (seen (λ (c : Counters). counter_of c 2) refl, seen (λ (c : Counters). counter_of c 1) refl);
      count-total = (seen (λ (c : Counters). c.total) refl, seen (λ (c : Counters). c.total) refl);
      count-eqm = (seen (λ (c : Counters). counter_of c 1) refl, seen (λ (c : Counters). c.total) refl);
      count_in = (seen (λ (g : Registers). counter_of g.counters 1) refl, seen (λ (g : Registers). g.counters.total) refl);
      count_out = (seen (λ (g : Registers). counter_of g.exported 1) refl, seen (λ (g : Registers). g.counters.total) refl);
      counts-export-as-import = seen (λ (g : Registers). g.exported.total) refl;
      forgets-the-fourth-zone = seen (λ (c : Counters). counter_of c 4) refl;
      rolls-over-a-digit-late = seen (λ (g : Registers). g.counters.total) refl;
      wrong_second_later = (seen (λ (g : Registers). g.archive.count) refl, seen (λ (g : Registers). g.archive.count) refl);
      second-later-month =
          (seen (λ (g : Registers). g.archive.count) refl, seen (λ (g : Registers). (get_or g.archive.periods 0 no_period).closed.date.day) refl);
    }
