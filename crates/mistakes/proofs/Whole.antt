-- The wrong answers for `whole` are ruled out, by computing. Assumes nothing.
use mathlib.Core.Path.{refl}
use mathlib.Core.Bool.{cond}
use Prim.Native.Nat.{ℕ}
use lib.Count.{ones}
use lib.ListN.{get_or}
use Rattle.line.specs.Characters.{damaged_at, seven, sent}
use Rattle.line.specs.Checksum.{bcc_of}
use Rattle.line.specs.Runs.{every}
use Rattle.text.specs.Writing.{stored, holding}
use Rattle.text.specs.Classes.{between, is_digit, is_letter, is_printable, matching, same_text}
use Rattle.text.specs.Decimal.{decimal, value_from, value_of, number_at}
use Rattle.text.specs.Layout.{layout_text, pattern, agrees, fits}
use Rattle.clock.specs.Dates.{leap, thirty, days_in, real_date, real_time}
use Rattle.clock.specs.Seconds.{real_clock, next_second}
use Rattle.values.specs.Edition.{is_edition, tables_of}
use Rattle.values.specs.Family.{is_family, counter_end, export_end}
use Rattle.values.specs.Registers.{good_digits, is_account_character, good_account, good_row, good_table}
use Rattle.values.specs.Texts.{table_text}
use Rattle.values.specs.Reading.{table_read}
use Rattle.frames.specs.Frames.{closed, frame_of, bare_frame}
use Rattle.frames.specs.Commands.{bracketed, set_table}
use Rattle.frames.specs.Session.{sign_on, confirmation, speed_said}
use Rattle.state.specs.declared.Meter.{Meter}
use Rattle.state.specs.WellFormed.{limit, first_good, held_good, mark_good, hurt_good, receiver_good, below, zones_below, both_below, sum_of, total, tables_good, link_good, facts_good, factory_good, registers_good, well_formed, speed_good, no_time, unused, period_good, every_period, archive_good}
use Rattle.state.specs.Making.{new_rows}
use Rattle.receiving.specs.Hearing.{hearing, listening, confirming, framing}
use Rattle.deciding.specs.Shape.{start_good, bare_shape, content, framed_shape}
use Rattle.deciding.specs.Telling.{enclosed, inner, table_told, told as told_by}
use Rattle.deciding.specs.Verdict.{entry, bare_verdict, framed_verdict, shape_verdict, verdict}
use Rattle.meter.specs.declared.Answer.{Answer}
use Rattle.state.specs.Link.{is_wired, rest_speed}
use Rattle.meter.specs.Link.{optical_call, wired_call, calls, closes, identified, slow_too, refused_reply, after_refusal}
use Rattle.meter.specs.Acting.{tried, acted}
use Rattle.meter.specs.SignOn.{confirms, wants_block, wants_program}
use Rattle.meter.specs.Character.{symbol, line_ended, confirmed, heard, taken, character}
use Rattle.whole.specs.Whole.{ends, finishes_at, at_the_last, awaits, frame_taken, frame_at}
use Rattle.whole.specs.Gathering.{is, held_next, held_after, held_at_last, held_over, held_in as held_before}
use Rattle.whole.specs.Looking.{Looked, gathered, looked_by}
use Rattle.mistakes.specs.Samples.{serial, account, password, new_meter, held_in}
use Rattle.mistakes.specs.Whole.{awaiting, slice, held_slice, Whole}
use Rattle.mistakes.proofs.Differing.{seen, number}

pub frames : Whole
unfolding ones damaged_at seven sent bcc_of every stored holding between is_digit is_letter is_printable matching same_text decimal value_from value_of number_at layout_text pattern agrees fits leap thirty days_in real_date real_time real_clock good_digits is_account_character good_account good_row good_table table_text table_read closed bracketed sign_on limit first_good held_good mark_good hurt_good receiver_good tables_good link_good is_family facts_good registers_good well_formed hearing listening confirming framing start_good bare_shape content framed_shape enclosed inner table_told told_by entry bare_verdict framed_verdict shape_verdict verdict is_wired rest_speed refused_reply after_refusal tried acted calls optical_call wired_call identified slow_too symbol line_ended confirmed heard taken character serial account password new_meter held_in below zones_below counter_end export_end both_below sum_of total factory_good confirms wants_block wants_program confirmation speed_said speed_good ends finishes_at at_the_last awaits frame_taken frame_at awaiting slice held_slice no_time unused period_good every_period archive_good closes is_edition tables_of new_rows is held_next held_after held_at_last held_over held_before gathered looked_by
frames =
    record {
      receive_frame = (seen (λ (a : Answer). a.number) refl, seen (λ (a : Answer). a.number) refl);
      receive-frame-end = (seen (λ (a : Answer). a.number) refl, seen (λ (a : Answer). a.number) refl);
      takes-the-bcc-for-the-end = seen (λ (a : Answer). a.number) refl;
      receive-frame-held = (seen (λ (a : Answer). a.next.receiver.count) refl, seen (λ (a : Answer). a.number) refl);
      look = (seen (λ (l : Looked). l.speed) refl, seen (λ (l : Looked). l.receiver.count) refl);
      refusal-number = (number refl, number refl);
      refusal-speed = (number refl, number refl);
    }
