-- [14]: each wrong answer of the wired link differs from what is ruled. Assumes nothing.
use mathlib.Core.Path.{refl}
use mathlib.Core.Bool.{cond}
use Prim.Native.Nat.{ℕ}
use lib.Count.{ones}
use lib.ListN.{get_or}
use Rattle.line.specs.Characters.{damaged_at, seven, sent}
use Rattle.line.specs.Checksum.{bcc_of}
use Rattle.line.specs.Runs.{every}
use Rattle.text.specs.Writing.{stored, holding}
use Rattle.text.specs.Classes.{between, is_digit, is_letter, is_printable, matching, same_text}
use Rattle.text.specs.Decimal.{decimal, value_from, value_of, number_at}
use Rattle.text.specs.Layout.{layout_text, pattern, agrees, fits}
use Rattle.clock.specs.Dates.{leap, thirty, days_in, real_date, real_time}
use Rattle.clock.specs.Seconds.{real_clock, next_second}
use Rattle.clock.specs.Weekday.{days_before, day_number, weekday}
use Rattle.values.specs.Edition.{is_edition, tables_of}
use Rattle.values.specs.Family.{is_family, counter_end, export_end}
use Rattle.values.specs.Registers.{good_digits, is_account_character, good_account, good_row, good_table}
use Rattle.values.specs.Texts.{table_text}
use Rattle.values.specs.Reading.{table_read}
use Rattle.frames.specs.Frames.{closed, frame_of, bare_frame}
use Rattle.frames.specs.Commands.{bracketed, set_table}
use Rattle.frames.specs.Session.{sign_on_to, wired_line, closing_sign_on, sign_on, confirmation, speed_said}
use Rattle.state.specs.declared.Meter.{Meter}
use Rattle.state.specs.WellFormed.{limit, first_good, held_good, mark_good, receiver_good, below, zones_below, both_below, sum_of, total, tables_good, no_time, unused, period_good, every_period, archive_good, link_good, facts_good, factory_good, registers_good, well_formed, speed_good, hurt_good}
use Rattle.state.specs.Making.{new_rows, facts_refused, made_of}
use Rattle.state.specs.Setting.{counter_of}
use Rattle.receiving.specs.Hearing.{hearing, listening, confirming, framing}
use Rattle.deciding.specs.Shape.{start_good, bare_shape, content, framed_shape}
use Rattle.deciding.specs.Telling.{enclosed, inner, table_told, told as told_by}
use Rattle.deciding.specs.Verdict.{entry, bare_verdict, framed_verdict, shape_verdict, verdict}
use Rattle.meter.specs.declared.Answer.{Answer}
use Rattle.state.specs.Link.{is_wired, rest_speed}
use Rattle.meter.specs.Link.{optical_call, wired_call, calls, closes, identified, slow_too, refused_reply, after_refusal}
use Rattle.meter.specs.Acting.{tried, acted}
use Rattle.meter.specs.SignOn.{confirms, wants_block, wants_program, wants_periods}
use Rattle.meter.specs.Character.{symbol, line_ended, confirmed, heard, taken, character}
use Rattle.meter.specs.Events.{after_silence, silence, tick, pulse, power_up}
use Rattle.values.specs.Texts.{serial_text, wired_text}
use Rattle.mistakes.specs.Samples.{serial, account, password, new_meter}
use Rattle.mistakes.specs.Wire.{wired_meter, wired_in, zeros_called, plain_called, wrong_sum, slow_digit, Written, Lined, Linked, Answered, Heard}
use Rattle.mistakes.proofs.Differing.{seen, number, flag, byte}

pub wire : Written × Lined × Linked × Answered × Heard
unfolding ones damaged_at seven sent bcc_of every stored holding between is_digit is_letter is_printable matching same_text decimal value_from value_of number_at layout_text pattern agrees fits leap thirty days_in real_date real_time real_clock good_digits is_account_character good_account closed bracketed sign_on limit first_good held_good mark_good hurt_good receiver_good tables_good is_edition tables_of new_rows link_good is_family facts_good registers_good well_formed hearing listening confirming framing start_good bare_shape content framed_shape entry bare_verdict framed_verdict shape_verdict verdict is_wired rest_speed refused_reply after_refusal tried acted calls optical_call wired_call identified slow_too symbol line_ended confirmed heard taken character serial account password new_meter after_silence silence power_up below zones_below counter_end export_end both_below sum_of total factory_good confirms wants_block wants_program confirmation speed_said bare_frame speed_good no_time unused period_good every_period archive_good closes closing_sign_on wants_periods wired_meter wired_in zeros_called plain_called wrong_sum slow_digit serial_text wired_text wired_line sign_on_to
wire = (
  record { put_wired = (byte 3 refl, byte 3 refl) },
  record { wrong_wired_line = (byte 1 refl, byte 0 refl) },
  record { wrong_link_of = (number refl, number refl); wrong_is_wired = (flag refl, flag refl); wrong_rest_speed = (number refl, number refl) },
  record { answer_call = (byte 2 refl, byte 1 refl) },
  record {
    receive-zeros = (byte 2 refl, seen (λ (a : Answer). a.number) refl);
    receive-plain = (seen (λ (a : Answer). a.number) refl, seen (λ (a : Answer). a.speed) refl);
    receive-wrong = (seen (λ (a : Answer). a.length) refl, seen (λ (a : Answer). a.next.mode) refl);
    receive-digit-0 = (seen (λ (a : Answer). a.number) refl, seen (λ (a : Answer). a.number) refl);
    up-and-quiet = (seen (λ (a : Answer). a.speed) refl, seen (λ (a : Answer). a.length) refl);
  },
)
