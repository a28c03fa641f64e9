-- The wrong answers for `frames`, `state`, `datasets` and `replies` are ruled out, by computing. Assumes nothing.
use mathlib.Core.Path.{◌≡◌, refl}
use mathlib.Core.Bool.{true}
use lib.Count.{ones}
use lib.ListN.{get_or}
use Rattle.line.specs.Characters.{seven, sent}
use Rattle.line.specs.Checksum.{bcc_of}
use Rattle.line.specs.Runs.{every}
use Rattle.text.specs.Writing.{stored, holding}
use Rattle.text.specs.Classes.{between, is_digit, is_letter}
use Rattle.text.specs.Decimal.{decimal}
use Rattle.text.specs.Layout.{layout_text}
use Rattle.clock.specs.Dates.{leap, thirty, days_in, real_date, real_time}
use Rattle.clock.specs.Seconds.{real_clock, real_stamp}
use Rattle.values.specs.Edition.{is_edition, tables_of}
use Rattle.values.specs.Family.{is_family, is_eqm, counter_digits, counter_decimals, counter_end, export_end, import_name}
use Rattle.values.specs.Registers.{good_digits, is_account_character, good_account, energy_no}
use Rattle.values.specs.Texts.{serial_text, table_text, date_text, time_text, stamp_text, counter_text, energy_text}
use Rattle.frames.specs.Frames.{closed, sealed, frame_of, bare_frame, block_of}
use Rattle.frames.specs.Commands.{bracketed}
use Rattle.state.specs.declared.Meter.{Meter}
use Rattle.state.specs.WellFormed.{limit, first_good, held_good, mark_good, receiver_good, below, zones_below, both_below, sum_of, total, tables_good, no_time, unused, period_good, every_period, archive_good, link_good, facts_good, factory_good, registers_good, well_formed, speed_good, hurt_good}
use Rattle.state.specs.Link.{is_wired, rest_speed}
use Rattle.state.specs.Making.{number_of, Made, facts_refused, made_of, new_rows}
use Rattle.state.specs.Closing.{periods_of, closed_with}
use Rattle.datasets.specs.Sets.{data_set, lines_of, energy_name}
use Rattle.replies.specs.Shown.{energy, row_of}
use Rattle.replies.specs.Answers.{asked_sets, asked_data}
use Rattle.replies.specs.Block.{fact_sets, energy_sets, in_and_out, table_sets, block_sets, block_data}
use Rattle.replies.specs.Periods.{kept_sets, period_sets, archive_sets, long_sets, long_data}
use Rattle.replies.specs.Fixed.{identification, password_ask}
use Rattle.state.specs.Setting.{in_mode}
use Rattle.mistakes.specs.Samples.{serial, account, password, twos, new_meter, used, new_eqm, used_eqm, closed_twice, oldest_first, held_in}
use Rattle.mistakes.specs.Sending.{Refusals, numbered_before, next_rows, Frames, States, Sets, Replies}
use Rattle.mistakes.proofs.Differing.{seen, number, flag, byte}

pub frames : Frames
unfolding ones seven sent bcc_of holding closed sealed
frames = record { seal = (byte 4 refl, byte 5 refl); send = (byte 1 refl, byte 0 refl) }

-- the states, and that a new meter in programming mode is well-formed
computed : States × (well_formed (in_mode new_meter 4) ≡ true)
unfolding every between is_digit is_letter decimal leap thirty days_in real_date real_time real_clock good_digits is_account_character good_account limit first_good held_good mark_good hurt_good receiver_good below zones_below counter_end export_end sum_of total tables_good is_edition tables_of link_good is_family facts_good factory_good registers_good well_formed facts_refused made_of serial account password new_meter held_in stored speed_good is_wired rest_speed real_stamp no_time unused both_below period_good every_period archive_good periods_of closed_with new_eqm new_rows
computed = (
  record {
    limit_of = (number refl, number refl);
    is_well_formed = (flag refl, flag refl);
    is-well-formed-place = (flag refl, flag refl);
    is-well-formed-total = (flag refl, flag refl);
    is-well-formed-family = (flag refl, flag refl);
    is-well-formed-directions = (flag refl, flag refl);
    is-well-formed-ends = (flag refl, flag refl);
    is-well-formed-archive = (flag refl, flag refl);
    has_edition = (flag refl, flag refl);
    wrong_not_made = (seen (λ (r : Made). r.number) refl, seen (λ (r : Made). r.number) refl);
    blank = (seen (λ (m : Meter). m.attempts) refl, seen (λ (m : Meter). get_or m.registers.account 0 0) refl);
    make = (seen (λ (r : Made). r.number) refl, seen (λ (r : Made). get_or r.meter.registers.facts.serial 0 0) refl);
  },
  refl,
)

pub states : States
states = computed.0

pub ready-formed : well_formed (in_mode new_meter 4) ≡ true
ready-formed = computed.1

pub refusals : Refusals
unfolding number_of
refusals = record { wrong_number = (number refl, number refl) }

pub sets : Sets
unfolding stored decimal layout_text serial_text table_text date_text time_text stamp_text counter_digits counter_decimals counter_text energy_text import_name energy_name data_set energy_no serial account twos
sets =
    record {
      put_time_set = (byte 4 refl, byte 15 refl);
      put_date_set = (byte 4 refl, byte 7 refl);
      put_serial_set = (byte 0 refl, byte 9 refl);
      put_account_set = (byte 0 refl, byte 6 refl);
      put_energy_set = (byte 5 refl, byte 12 refl);
      put-energy-set-eqm = (byte 0 refl, byte 1 refl);
      put_table_set = (byte 7 refl, byte 32 refl);
      put_closed_set = (byte 7 refl, byte 19 refl);
      put_kept_set = (byte 5 refl, byte 13 refl);
      put-kept-set-eqm = (byte 0 refl, byte 14 refl);
    }

pub replies : Replies
unfolding ones seven sent bcc_of holding closed frame_of bare_frame block_of bracketed stored decimal layout_text serial_text table_text date_text time_text stamp_text counter_digits counter_decimals counter_text energy_text import_name energy_name is_eqm in_and_out kept_sets data_set lines_of periods_of closed_with period_sets archive_sets long_sets long_data closed_twice oldest_first energy energy_no row_of asked_sets asked_data fact_sets energy_sets table_sets block_sets block_data numbered_before next_rows identification password_ask serial account twos new_meter used new_eqm used_eqm tables_of new_rows
replies =
    record {
      identify = (byte 0 refl, byte 12 refl);
      acknowledge = (byte 0 refl, byte 0 refl);
      refuse = (byte 0 refl, byte 0 refl);
      ask_password = (byte 2 refl, byte 3 refl);
      answer = (byte 17 refl, byte 10 refl);
      answer-directions = (byte 13 refl, byte 14 refl);
      data-block-directions = (byte 198 refl, byte 88 refl);
      data_block = (byte 1030 refl, byte 1058 refl);
      next_row = byte 201 refl;
      long_block = (byte 1058 refl, byte 1068 refl);
    }
