-- The wrong answers for `meter`, `settling`, `firmware` and `keeping` are ruled out, by computing. Assumes nothing.
use mathlib.Core.Path.{refl}
use mathlib.Core.Bool.{cond}
use Prim.Native.Nat.{ℕ}
use lib.Count.{ones}
use lib.ListN.{get_or}
use Rattle.line.specs.Characters.{damaged_at, seven, sent}
use Rattle.line.specs.Checksum.{bcc_of}
use Rattle.line.specs.Runs.{every}
use Rattle.text.specs.Writing.{stored, holding}
use Rattle.text.specs.Classes.{between, is_digit, is_letter, is_printable, matching, same_text}
use Rattle.text.specs.Decimal.{decimal, value_from, value_of, number_at}
use Rattle.text.specs.Layout.{layout_text, pattern, agrees, fits}
use Rattle.clock.specs.Dates.{leap, thirty, days_in, real_date, real_time}
use Rattle.clock.specs.Seconds.{real_clock, next_month, next_day, next_second}
use Rattle.clock.specs.Weekday.{days_before, day_number, weekday}
use Rattle.values.specs.Edition.{is_edition, tables_of}
use Rattle.values.specs.Family.{is_family, is_eqm, counter_end, export_end}
use Rattle.values.specs.Registers.{good_digits, is_account_character, good_account, good_row, good_table}
use Rattle.values.specs.Texts.{clock_text, table_text}
use Rattle.values.specs.Reading.{clock_read, table_read}
use Rattle.frames.specs.Frames.{closed, frame_of, bare_frame}
use Rattle.frames.specs.Commands.{bracketed, set_clock, set_table}
use Rattle.frames.specs.Session.{closing_sign_on, sign_on, confirmation, speed_said}
use Rattle.state.specs.declared.Meter.{Meter}
use Rattle.state.specs.WellFormed.{limit, first_good, held_good, mark_good, receiver_good, below, zones_below, both_below, sum_of, total, tables_good, no_time, unused, period_good, every_period, archive_good, link_good, facts_good, factory_good, registers_good, well_formed, speed_good, hurt_good}
use Rattle.state.specs.Making.{facts_refused, made_of, new_rows}
use Rattle.state.specs.Setting.{counter_of}
use Rattle.replies.specs.Fixed.{identification}
use Rattle.receiving.specs.Hearing.{hearing, listening, confirming, framing}
use Rattle.deciding.specs.Shape.{start_good, bare_shape, content, framed_shape}
use Rattle.deciding.specs.Telling.{enclosed, inner, clock_told, table_told, told as told_by}
use Rattle.deciding.specs.Verdict.{entry, bare_verdict, framed_verdict, shape_verdict, verdict}
use Rattle.tariff.specs.Zones.{own_day, table_for, zone_in, counted}
use Rattle.meter.specs.declared.Answer.{Answer}
use Rattle.state.specs.Link.{is_wired, rest_speed}
use Rattle.meter.specs.Link.{optical_call, wired_call, calls, closes, identified, slow_too, refused_reply, after_refusal}
use Rattle.meter.specs.Acting.{tried, acted}
use Rattle.meter.specs.SignOn.{confirms, wants_block, wants_program, wants_periods}
use Rattle.tariff.specs.Months.{month_starts, month_closed}
use Rattle.meter.specs.Character.{symbol, line_ended, confirmed, heard, taken, character}
use Rattle.meter.specs.Events.{after_silence, silence, tick, pulse_refused, pulse, power_up}
use Rattle.meter.specs.declared.Event.{Event}
use Rattle.meter.specs.declared.Event.TheVariants.{Character, Silence, Tick, Pulse, PowerUp, PulseOut, Unknown}
use Rattle.meter.specs.Life.{event_of, met, refusal, happened}
use Rattle.settling.specs.Settling.{Heard, heard_as, heard_by, ticked_by, heard_of, settles_by, clock_after, counters_after, exported_after}
use Rattle.keeping.specs.Shown.{Shown, checked_as, shown_as}
use Rattle.storing.specs.declared.Reply.{Reply}
use Rattle.mistakes.specs.Samples.{serial, account, password, twos, new_meter, new_eqm, held_in}
use Rattle.mistakes.specs.Events.{told, told_all, told_met, short_password, short_tried, signed_on, slow_confirmed, odd_confirmed, slow_entered, fast_left, restarted, hurt, hurt_last, hurt_anew, clock_sent, clock_set, month_ends, no_edition, one_unit, Receiving, Passing, Happening, Settling, Lent, Kept}
use Rattle.mistakes.proofs.Differing.{seen, number, flag, byte}

-- the kinds of event, as numbers
kind_of : Event → ℕ
kind_of (Character b) = 0
kind_of Silence = 1
kind_of Tick = 2
kind_of (Pulse units) = 3
kind_of PowerUp = 4
kind_of (PulseOut units) = 5
kind_of Unknown = 6

pub events : Receiving × Passing × Happening × Settling × Lent × Kept
unfolding ones damaged_at seven sent bcc_of every stored holding between is_digit is_letter is_printable matching same_text decimal value_from value_of number_at layout_text pattern agrees fits leap thirty days_in real_date real_time real_clock good_digits is_account_character good_account good_row good_table table_text table_read closed frame_of bracketed set_table sign_on limit first_good held_good mark_good hurt_good receiver_good tables_good is_edition tables_of link_good is_family facts_good registers_good well_formed hearing listening confirming framing start_good bare_shape content framed_shape enclosed inner table_told told_by entry bare_verdict framed_verdict shape_verdict verdict is_wired rest_speed refused_reply after_refusal tried acted calls optical_call wired_call identified slow_too symbol line_ended confirmed heard taken character serial account password twos new_meter held_in told told_all told_met short_password short_tried signed_on restarted hurt hurt_last hurt_anew days_before day_number weekday next_second table_for zone_in counted after_silence silence tick is_eqm pulse_refused pulse power_up new_eqm heard_as heard_by heard_of settles_by clock_after counters_after exported_after one_unit event_of met refusal happened facts_refused made_of checked_as shown_as kind_of below zones_below counter_end export_end both_below sum_of total factory_good confirms wants_block wants_program confirmation speed_said bare_frame speed_good slow_confirmed odd_confirmed slow_entered fast_left clock_sent clock_set month_ends no_edition identification clock_text set_clock clock_read clock_told ticked_by next_month next_day no_time unused period_good every_period archive_good closes closing_sign_on wants_periods month_starts month_closed new_rows own_day
events = (
  record {
    receive = (seen (λ (a : Answer). a.number) refl, seen (λ (a : Answer). get_or a.next.registers.tables 144 0) refl);
    keeps-its-state = seen (λ (a : Answer). a.next.registers.clock.date.day) refl;
    receive-reply = (byte 0 refl, byte 1 refl);
    receive-password = (seen (λ (a : Answer). a.next.attempts) refl, seen (λ (a : Answer). a.next.mode) refl);
    receive-sign-on = (seen (λ (a : Answer). a.speed) refl, seen (λ (a : Answer). a.next.mode) refl);
    receive-restart = (seen (λ (a : Answer). a.next.receiver.mark) refl, seen (λ (a : Answer). a.next.receiver.count) refl);
    receive-restart-place = (seen (λ (a : Answer). a.next.receiver.place) refl, seen (λ (a : Answer). a.next.receiver.place) refl);
    receive-hurt = (seen (λ (a : Answer). a.place) refl, seen (λ (a : Answer). a.place) refl);
    receive-hurt-last = (seen (λ (a : Answer). a.place) refl, seen (λ (a : Answer). a.place) refl);
    receive-hurt-anew = (seen (λ (a : Answer). a.place) refl, seen (λ (a : Answer). a.place) refl);
    receive-refused = (seen (λ (a : Answer). a.number) refl, seen (λ (a : Answer). a.number) refl);
    symbol_of = (number refl, number refl);
    receive-slow = (seen (λ (a : Answer). a.speed) refl, seen (λ (a : Answer). a.next.speed) refl);
    receive-entered = (seen (λ (a : Answer). a.next.speed) refl, seen (λ (a : Answer). a.speed) refl);
    receive-left = (seen (λ (a : Answer). a.next.speed) refl, seen (λ (a : Answer). a.speed) refl);
    receive-digit = (seen (λ (a : Answer). a.number) refl, seen (λ (a : Answer). a.number) refl);
    hear_nothing = (seen (λ (a : Answer). a.length) refl, seen (λ (a : Answer). a.speed) refl);
  },
  record {
    pass_second = (seen (λ (a : Answer). a.next.registers.clock.time.second) refl, seen (λ (a : Answer). a.number) refl);
    take_pulse = (seen (λ (a : Answer). counter_of a.next.registers.counters 1) refl, seen (λ (a : Answer). a.number) refl);
    take-pulse-out = (seen (λ (a : Answer). counter_of a.next.registers.exported 1) refl, seen (λ (a : Answer). a.number) refl);
    take-pulse-out-first = (seen (λ (a : Answer). a.number) refl, seen (λ (a : Answer). a.number) refl);
    wrong_family_of = (number refl, number refl);
    refuses_pulse = (flag refl, flag refl);
    wrong_power_up = (seen (λ (a : Answer). a.next.attempts) refl, seen (λ (a : Answer). a.next.mode) refl);
  },
  record {
    wrong_event_of = (seen kind_of refl, seen kind_of refl);
    event-of-out = (seen kind_of refl, seen kind_of refl);
    refusal_of = (number refl, number refl);
    act = (seen (λ (a : Answer). counter_of a.next.registers.counters 1) refl, seen (λ (a : Answer). a.next.registers.clock.time.second) refl);
    meet = (seen (λ (a : Answer). a.number) refl, seen (λ (a : Answer). a.number) refl);
    meet-reply = (byte 0 refl, byte 0 refl);
  },
  record {
    look = (seen (λ (h : Heard). cond h.settled 1 0) refl, seen (λ (h : Heard). h.number) refl);
    look-refused = (seen (λ (h : Heard). h.number) refl, seen (λ (h : Heard). h.number) refl);
    settles-all = seen (λ (h : Heard). cond h.settled 1 0) refl;
    settles-a-month = seen (λ (h : Heard). h.number) refl;
    stores-no-second = seen (λ (m : Meter). m.registers.clock.time.second) refl;
    stores-in-as-out = seen (λ (m : Meter). m.registers.counters.total) refl;
    says-16-after-12 = seen (λ (h : Heard). h.number) refl;
    refusal-number = (number refl, number refl);
  },
  record {
    meet_in_place = (seen (λ (r : Reply). r.length) refl, seen (λ (m : Meter). m.receiver.count) refl);
    dirgemist_meter_meet = (number refl, number refl);
    dirgemist-meter-meet-place = (number refl, number refl);
    always-says-9600 = seen (λ (r : Reply). r.speed) refl;
    dirgemist-meter-meet-lent = (seen (λ (m : Meter). get_or m.registers.tables 144 0) refl, byte 0 refl);
  },
  record {
    dirgemist_meter_make = (number refl, byte 0 refl);
    dirgemist_meter_check = (number refl, number refl);
    dirgemist_meter_total = (seen (λ (s : Shown). s.number) refl, seen (λ (s : Shown). s.number) refl);
  },
)
