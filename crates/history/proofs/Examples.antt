-- The examples, computed. Assumes nothing.
use mathlib.Core.Path.{refl}
use lib.Count.{ones}
use Rattle.line.specs.Characters.{damaged_at, seven, sent, undamaged_all}
use Rattle.line.specs.Checksum.{bcc_of}
use Rattle.line.specs.Runs.{every}
use Rattle.text.specs.Classes.{between, is_digit, is_letter, is_printable, matching, same_text}
use Rattle.text.specs.Layout.{agrees, fits, pattern, layout_text}
use Rattle.text.specs.Decimal.{decimal, value_from, value_of, number_at}
use Rattle.clock.specs.Dates.{leap, thirty, days_in, real_date, real_time}
use Rattle.clock.specs.Seconds.{real_clock}
use Rattle.values.specs.Edition.{tables_of}
use Rattle.values.specs.Family.{is_eqm}
use Rattle.values.specs.Registers.{good_digits, is_account_character, good_account, good_row, good_table}
use Rattle.values.specs.Reading.{clock_read, table_read}
use Rattle.values.specs.Texts.{serial_text, wired_text, table_text, clock_text}
use Rattle.frames.specs.Frames.{closed, frame_of, bare_frame}
use Rattle.frames.specs.Commands.{bracketed, ask_clock, ask_serial, ask_account, ask_energy, ask_export, set_clock, set_account, set_table}
use Rattle.frames.specs.Session.{sign_on, closing_sign_on, sign_on_to, wired_line, confirmation, enter_data, password_data}
use Rattle.state.specs.Link.{is_wired}
use Rattle.history.specs.Saying.{carries, says, or_else, since, ends_with}
use Rattle.history.specs.Frames.{data_in, is_frame, leaves, enters, tries, good_write, write_data, tells, inside, write_of, write_in, some_write, is_one_of, is_ask, asks, is_taken}
use Rattle.history.specs.Past.{happens, past_of}
use Rattle.history.specs.Standing.{calls, calls_optical, calls_wired, closes_period, signs_on, asks_for_password, opened, refused_in, standing}
use Rattle.history.specs.Deeds.{wrote_all, deeds_at, deeds, writes_of}
use Rattle.history.specs.Examples.{spoken, Examples}

pub examples : Examples
unfolding damaged_at seven sent undamaged_all bcc_of every between is_digit is_letter is_printable matching same_text agrees fits pattern layout_text decimal value_from value_of number_at leap thirty days_in real_date real_time real_clock good_digits is_account_character tables_of is_eqm good_account good_row good_table clock_read table_read serial_text wired_text table_text clock_text closed frame_of bare_frame bracketed ask_clock ask_serial ask_account ask_energy ask_export set_clock set_account set_table sign_on closing_sign_on sign_on_to wired_line is_wired confirmation enter_data password_data carries says or_else since ends_with data_in is_frame leaves enters tries good_write write_data tells inside write_of write_in some_write is_one_of is_ask asks is_taken happens past_of calls calls_optical calls_wired closes_period signs_on asks_for_password opened refused_in standing wrote_all deeds_at deeds writes_of spoken ones
examples =
    record {
      programmed = refl;
      only-read = refl;
      not-signed-on = refl;
      left = refl;
      crafted-post = refl;
      crafted-well = refl;
      behind-noise = refl;
      behind-spoilt = refl;
      wrong-bcc = refl;
      bcc-soh = refl;
      bcc-starts-nothing = refl;
      restarted = refl;
      cut-by-silence = refl;
      cut-by-power-up = refl;
      not-cut = refl;
      no_room = refl;
      locked = refl;
      unlocked = refl;
      wired = refl;
      wired-deaf = refl;
      wired-dropped = refl;
      wired-asked = refl;
      asked-out = refl;
      no-out = refl;
      pulse-out = refl;
      no-pulse-out = refl;
      saturday = refl;
      no-saturday = refl;
    }
