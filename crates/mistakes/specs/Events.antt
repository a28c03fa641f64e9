-- Two wrong answers for each call of `meter`, `settling`, `firmware` and `keeping`, and some that document 01 warns of.
use Rattle.std.specs.Prelude.{true, false, List, [], ◌∷◌, ℕ, length, get_or, take, replicate}
use Rattle.line.specs.Controls.{ACK, SOH}
use Rattle.line.specs.Quoted.{chars}
use Rattle.line.specs.Characters.{sent}
use Rattle.text.specs.Writing.{holding}
use Rattle.frames.specs.Frames.{frame_of, bare_frame, on_wire}
use Rattle.frames.specs.Commands.{B0, P1, W1, bracketed, set_clock, set_table}
use Rattle.state.specs.Sizes.{reply_room}
use Rattle.state.specs.declared.Counters.{Counters}
use Rattle.state.specs.declared.Meter.{Meter}
use Rattle.state.specs.WellFormed.{family_of}
use Rattle.replies.specs.Fixed.{accepted, refused, identification, password_ask}
use Rattle.receiving.specs.Receivers.{kept_receiver, restarted_receiver}
use Rattle.state.specs.Making.{empty_receiver, no_counters, facts_of, meter_of, made_of}
use Rattle.state.specs.Setting.{with_held, with_mark, with_receiver, in_mode, with_attempts, with_registers, with_clock, with_counters, with_exported, with_zones, with_total, with_speed}
use Rattle.meter.specs.Outcomes.{Outcome, answer_of, at_place, silent, unheard, saying, nak, ack}
use Rattle.meter.specs.Character.{symbol, character}
use Rattle.meter.specs.Events.{silence, tick, pulse_refused, pulse, power_up}
use Rattle.meter.specs.declared.Event.TheVariants.{Character, Silence, Tick, Pulse, Unknown}
use Rattle.meter.specs.Life.{event_of, met, refusal, happened}
use Rattle.receiving.specs.declared.Holding.TheVariants.{Anew}
use Rattle.settling.specs.declared.Refusal.TheVariants.{NoEdition, Malformed}
use Rattle.settling.specs.Settling.{number_of, Time, In, seen_in, standing, goes_on, refuses, moves_on, settles, settled_in}
use Rattle.keeping.specs.Shown.{checked_as, shown_as}
use Rattle.storing.specs.Replies.{reply_of}
use Rattle.mistakes.specs.RuledOut.{RuledOut}
use Rattle.mistakes.specs.Samples.{clock_at, serial, account, password, twos, new_meter, new_eqm, held_in}

-- table 7 with the row of '2', all but its BCC held in programming mode; and what its BCC comes to
unfoldable pub told : Meter
told = with_speed (held_in 4 (take 35 (frame_of W1 (set_table 7 twos)))) 5

unfoldable pub told_all : Outcome
told_all = character told reply_room (sent (get_or (frame_of W1 (set_table 7 twos)) 35 0))

-- the same as an event in numbers
unfoldable pub told_met : Outcome
told_met = met told reply_room (event_of 0 (sent (get_or (frame_of W1 (set_table 7 twos)) 35 0)))

-- a password of three digits, all but its BCC held; and what its BCC comes to
unfoldable pub short_password : Meter
short_password = held_in 2 (take 10 (frame_of P1 (bracketed (chars "123"))))

unfoldable pub short_tried : Outcome
short_tried = character short_password reply_room (sent (get_or (frame_of P1 (bracketed (chars "123"))) 10 0))

-- /?! CR held, and its LF
unfoldable pub signed_on : Outcome
signed_on = character (held_in 0 (chars "/?!\r")) reply_room (sent 10)

-- request [1]: ACK 0 0 1 CR held in mode 1, and its LF; the same with the digit 1
unfoldable pub slow_confirmed : Outcome
slow_confirmed = character (held_in 1 (ACK ∷ chars "001\r")) reply_room (sent 10)

unfoldable pub odd_confirmed : Outcome
odd_confirmed = character (held_in 1 (ACK ∷ chars "011\r")) reply_room (sent 10)

-- the right password in a slow session, all but its BCC held, and its BCC
unfoldable pub slow_entered : Outcome
slow_entered = character (held_in 2 (take 15 (frame_of P1 (bracketed password)))) reply_room (sent (get_or (frame_of P1 (bracketed password)) 15 0))

-- B0 in a fast session, all but its BCC held, and its BCC
unfoldable pub fast_left : Outcome
fast_left = character (with_speed (held_in 4 (take 4 (bare_frame B0))) 5) reply_room (sent (get_or (bare_frame B0) 4 0))

-- a damaged character held, then a SOH
unfoldable pub restarted : Outcome
restarted = character (with_receiver (in_mode new_meter 2) (with_mark (with_held empty_receiver (restarted_receiver 1).held 2) 1 1)) reply_room (sent 1)

-- SOH, two damaged characters, ETX, and then a BCC
unfoldable pub hurt : Outcome
hurt =
    character (with_receiver (in_mode new_meter 4) (kept_receiver (kept_receiver (kept_receiver (restarted_receiver 1) 0 true) 0 true) 3 false)) reply_room (sent 0)

-- SOH B0 ETX, and then a damaged BCC
unfoldable pub hurt_last : Outcome
hurt_last = character (held_in 4 (take 4 (bare_frame B0))) reply_room 193

-- SOH and three characters, and then SOH, a damaged one, ETX and a BCC
unfoldable pub hurt_anew : Outcome
hurt_anew =
    let begun = (character (held_in 4 (SOH ∷ chars "B00")) reply_room (sent 1)).next in
    let damaged = (character begun reply_room 193).next in
    character (character damaged reply_room (sent 3)).next reply_room (sent 0)

-- demand 3: a clock, all but its BCC held in programming mode; and what its BCC comes to
unfoldable pub clock_sent : List ℕ
clock_sent = frame_of W1 (set_clock (clock_at 2001 2 3 4 5 6))

unfoldable pub clock_set : Outcome
clock_set = character (with_speed (held_in 4 (take 27 clock_sent)) 5) reply_room (sent (get_or clock_sent 27 0))

-- a second before a month
unfoldable pub month_ends : Meter
month_ends = with_registers new_meter (with_clock new_meter.registers (clock_at 2000 1 31 23 59 59))

-- [3]: of an edition that there is not
unfoldable pub no_edition : Meter
no_edition = meter_of (facts_of serial password 3 1 0) account (clock_at 2000 1 1 12 0 0)

-- a unit in the first zone
unfoldable pub one_unit : Counters
one_unit = with_total (with_zones no_counters (1 ∷ 0 ∷ 0 ∷ 0 ∷ [])) 1

-- of `meter`
pub record Receiving : Type 0 where
  -- NAK to a good write; ACK to it, and the old tables
  pub receive : RuledOut (answer_of told_all) (answer_of (nak 9 told)) × RuledOut (answer_of told_all) (answer_of (ack 5 (with_speed (in_mode new_meter 4) 5)))
  -- ACK to a clock, and the old one
  pub keeps-its-state : RuledOut (answer_of clock_set) (answer_of (ack 5 (with_speed (in_mode new_meter 4) 5)))
  -- NAK in the buffer; ACK with the buffer's other bytes cleared
  pub receive-reply : RuledOut (holding (replicate reply_room 9) (on_wire told_all.reply)) (holding (replicate reply_room 9) (on_wire refused))
      × RuledOut (holding (replicate reply_room 9) (on_wire told_all.reply)) (holding (replicate reply_room 0) (on_wire accepted))
  -- one attempt counted for a malformed password; refused, and no way back to mode 0
  pub receive-password : RuledOut (answer_of short_tried) (answer_of (nak 9 (with_attempts short_password 1)))
      × RuledOut (answer_of short_tried) (answer_of (saying 9 5 refused (in_mode new_meter 2)))
  -- the identification at the speed of a data block; mode 0 after it
  pub receive-sign-on : RuledOut (answer_of signed_on) (answer_of (saying 1 5 (identification 1) (in_mode new_meter 1)))
      × RuledOut (answer_of signed_on) (answer_of (saying 1 0 (identification 1) new_meter))
  -- the mark kept at a restart; a SOH taken for one more character
  pub receive-restart : RuledOut (answer_of restarted)
      (answer_of (silent 0 (with_receiver (in_mode new_meter 2) (with_mark (restarted_receiver 1) 1 0))))
      × RuledOut (answer_of restarted)
      (answer_of (silent 0 (with_receiver (in_mode new_meter 2) (with_mark (with_held empty_receiver (1 ∷ 0 ∷ 1 ∷ replicate 60 0) 3) 1 1))))
  -- the place kept at a restart; mark and place both
  pub receive-restart-place : RuledOut (answer_of restarted) (answer_of (silent 0 (with_receiver (in_mode new_meter 2) (with_mark (restarted_receiver 1) 0 1))))
      × RuledOut (answer_of restarted) (answer_of (silent 0 (with_receiver (in_mode new_meter 2) (with_mark (restarted_receiver 1) 1 1))))
  -- 3 with the place of the last damaged character; with none
  pub receive-hurt : RuledOut (answer_of hurt) (answer_of (at_place hurt 2)) × RuledOut (answer_of hurt) (answer_of (at_place hurt 0))
  -- 0 for a damaged BCC; the last held character's place
  pub receive-hurt-last : RuledOut (answer_of hurt_last) (answer_of (at_place hurt_last 0)) × RuledOut (answer_of hurt_last) (answer_of (at_place hurt_last 3))
  -- counted from the first byte that was received; from the byte before the restart
  pub receive-hurt-anew : RuledOut (answer_of hurt_anew) (answer_of (at_place hurt_anew 5)) × RuledOut (answer_of hurt_anew) (answer_of (at_place hurt_anew 2))
  -- a malformed state said before a short buffer; a character taken in a short buffer
  pub receive-refused : RuledOut (answer_of (character (with_attempts new_meter 4) 2047 47)) (answer_of (unheard 14 (with_attempts new_meter 4)))
      × RuledOut (answer_of (character new_meter 2047 (sent 47))) (answer_of (silent 0 (with_receiver new_meter (restarted_receiver 47))))
  -- a damaged '0' taken for a character; the parity bit left on a '1'
  pub symbol_of : RuledOut (symbol 176) 48 × RuledOut (symbol 177) 177
  -- the slow confirmation answered at 9600 baud; answered slowly, and the session at 9600
  pub receive-slow : RuledOut (answer_of slow_confirmed) (answer_of (saying 1 5 password_ask (in_mode new_meter 2)))
      × RuledOut (answer_of slow_confirmed) (answer_of (saying 1 0 password_ask (with_speed (in_mode new_meter 2) 5)))
  -- the slow speed forgotten at the password; the ACK to it at 9600 baud
  pub receive-entered : RuledOut (answer_of slow_entered) (answer_of (ack 0 (with_speed (in_mode new_meter 4) 5)))
      × RuledOut (answer_of slow_entered) (answer_of (ack 5 (in_mode new_meter 4)))
  -- the session's speed kept in mode 0; the ACK to B0 at the speed of mode 0
  pub receive-left : RuledOut (answer_of fast_left) (answer_of (ack 5 (with_speed new_meter 5))) × RuledOut (answer_of fast_left) (answer_of (ack 0 new_meter))
  -- a digit 1 taken as a speed; taken as the slow one
  pub receive-digit : RuledOut (answer_of odd_confirmed) (answer_of (saying 1 1 password_ask (with_speed (in_mode new_meter 2) 1)))
      × RuledOut (answer_of odd_confirmed) (answer_of (saying 1 0 password_ask (in_mode new_meter 2)))
  -- no NAK in mode 1; NAK at speed 5
  pub hear_nothing : RuledOut (answer_of (silence (in_mode new_meter 1) reply_room)) (answer_of (silent 1 new_meter))
      × RuledOut (answer_of (silence (in_mode new_meter 1) reply_room)) (answer_of (saying 1 5 refused new_meter))

-- of `meter::passing`
pub record Passing : Type 0 where
  -- a clock that stands; a malformed state's clock that goes on
  pub pass_second : RuledOut (answer_of (tick new_meter)) (answer_of (silent 1 new_meter))
      × RuledOut (answer_of (tick (with_attempts new_meter 4)))
      (answer_of (silent 1 (with_registers (with_attempts new_meter 4) (with_clock new_meter.registers (clock_at 2000 1 1 12 0 1)))))
  -- the next zone's counter; more than 1,000,000 Wh taken
  pub take_pulse : RuledOut (answer_of (pulse new_meter false 5))
      (answer_of (silent 1 (with_registers new_meter (with_counters new_meter.registers (with_zones no_counters (0 ∷ 5 ∷ 0 ∷ 0 ∷ []))))))
      × RuledOut (answer_of (pulse new_meter false 1000001))
      (answer_of (silent 1 (with_registers new_meter (with_counters new_meter.registers (with_zones no_counters (1000001 ∷ 0 ∷ 0 ∷ 0 ∷ []))))))
  -- [10]: what goes out counted as what comes in; taken by a meter of document 01's family
  pub take-pulse-out : RuledOut (answer_of (pulse new_eqm true 5)) (answer_of (pulse new_eqm false 5)) × RuledOut (answer_of (pulse new_meter true 5)) (answer_of (silent 1 new_meter))
  -- a malformed state said before a pulse out that nothing counts; before one that is too much
  pub take-pulse-out-first : RuledOut (answer_of (pulse (with_attempts new_meter 4) true 5)) (answer_of (unheard 14 (with_attempts new_meter 4)))
      × RuledOut (answer_of (pulse (with_attempts new_eqm 4) true 1000001)) (answer_of (unheard 14 (with_attempts new_eqm 4)))
  -- no family; an EQM meter's for one of document 01's
  pub wrong_family_of : RuledOut (family_of new_eqm) 0 × RuledOut (family_of new_meter) 3
  -- what goes out of a meter of document 01's family let through; that of an EQM meter refused
  pub refuses_pulse : RuledOut (pulse_refused 0 true 5) false × RuledOut (pulse_refused 3 true 5) true
  -- the attempts kept; programming mode kept
  pub wrong_power_up : RuledOut (answer_of (power_up (with_attempts new_meter 3))) (answer_of (silent 1 (with_attempts new_meter 3)))
      × RuledOut (answer_of (power_up (in_mode new_meter 4))) (answer_of (silent 1 (in_mode new_meter 4)))

-- of `meter::events`
pub record Happening : Type 0 where
  -- a pulse taken as a tick; a character of nine bits taken by its low eight
  pub wrong_event_of : RuledOut (event_of 3 5) Tick × RuledOut (event_of 0 303) (Character 47)
  -- [10]: a pulse out taken as one in; as no event
  pub event-of-out : RuledOut (event_of 5 5) (Pulse 5) × RuledOut (event_of 5 5) Unknown
  -- room asked of a pulse that is too much; no room asked of silence
  pub refusal_of : RuledOut (refusal 0 0 (Pulse 1000001)) 12 × RuledOut (refusal 0 2047 Silence) 0
  -- a pulse taken as a tick; a tick on a clock that stands
  pub act : RuledOut (answer_of (happened new_meter (event_of 3 5))) (answer_of (tick new_meter))
      × RuledOut (answer_of (happened new_meter (event_of 2 5))) (answer_of (silent 1 new_meter))
  -- a malformed state said before a pulse that is too much; an event that is none taken for silence
  pub meet : RuledOut (answer_of (met (with_attempts new_meter 4) 0 (Pulse 1000001))) (answer_of (unheard 14 (with_attempts new_meter 4)))
      × RuledOut (answer_of (met new_meter reply_room Unknown)) (answer_of (met new_meter reply_room Silence))
  -- NAK to a good write; the buffer as it was
  pub meet-reply : RuledOut (holding (replicate reply_room 9) (on_wire told_met.reply)) (holding (replicate reply_room 9) (on_wire refused))
      × RuledOut (holding (replicate reply_room 9) (on_wire told_met.reply)) (replicate reply_room 9)

-- of `settling`
pub record Settling : Type 0 where
  -- the last character of a frame settled with nothing said; a character taken in a short buffer
  pub look : RuledOut (settles told reply_room (Character (sent (get_or (frame_of W1 (set_table 7 twos)) 35 0)))) (goes_on (seen_in told) (Anew 0) 0 0 0)
      × RuledOut (settles new_meter 2047 (Character (sent 47))) (goes_on (seen_in new_meter) (Anew 47) 1 0 0)
  -- a malformed state said before a pulse that is too much; an event that is none left to the meter
  pub look-refused : RuledOut (settles (with_attempts new_meter 4) 0 (Pulse 1000001)) (refuses (seen_in (with_attempts new_meter 4)) 14)
      × RuledOut (settles new_meter reply_room Unknown) (settles new_meter reply_room Silence)
  -- the last character of a frame settled, and nothing changed
  pub settles-all : RuledOut (settles told reply_room (Character (sent (get_or (frame_of W1 (set_table 7 twos)) 35 0)))) (standing (seen_in told) true 0 0)
  -- the second that starts a month settled
  pub settles-a-month : RuledOut (settles month_ends reply_room Tick) (moves_on (seen_in month_ends) (Time (clock_at 2000 2 1 0 0 0)) month_ends.registers.counters)
  -- a second that is answered and not stored
  pub stores-no-second : RuledOut (settled_in new_meter (moves_on (seen_in new_meter) (Time (clock_at 2000 1 1 12 0 1)) new_meter.registers.counters)) new_meter
  -- what came in stored as what went out
  pub stores-in-as-out : RuledOut (settled_in new_meter (moves_on (seen_in new_meter) In one_unit)) (with_registers new_meter (with_exported new_meter.registers one_unit))
  -- 12 for an edition that there is not
  pub says-16-after-12 : RuledOut (settles no_edition 2047 (Character 47)) (refuses (seen_in no_edition) 12)
  -- 14 for an edition that there is not; 16 for a malformed state
  pub refusal-number : RuledOut (number_of NoEdition) 14 × RuledOut (number_of Malformed) 16

-- of `firmware`
pub record Lent : Type 0 where
  -- no reply to a good write; the lent state as it was
  pub meet_in_place : RuledOut (reply_of told_met) (record { number = 1; length = 0; speed = 5; place = 0 }) × RuledOut told_met.next told
  -- the place of the last damaged character; none
  pub dirgemist-meter-meet-place : RuledOut hurt.place 2 × RuledOut hurt.place 0
  -- NAK's number; the speed of the mode before the session
  pub dirgemist_meter_meet : RuledOut told_met.number 9 × RuledOut told_met.speed 0
  -- the old tables in the record; the buffer as it was
  pub dirgemist-meter-meet-lent : RuledOut told_met.next (in_mode new_meter 4) × RuledOut (holding (replicate reply_room 9) (on_wire told_met.reply)) (replicate reply_room 9)
  -- the identification at 9600 baud
  pub always-says-9600 : RuledOut (reply_of signed_on) (record { number = 1; length = 19; speed = 5; place = 0 })

-- of `keeping`
pub record Kept : Type 0 where
  -- a serial of nine digits taken; the account of bad facts kept
  pub dirgemist_meter_make : RuledOut (made_of (facts_of (take 9 serial) password 1 1 0) account (clock_at 2000 1 1 12 0 0)).number 1
      × RuledOut (made_of (facts_of serial (take 7 password) 1 1 0) account (clock_at 2000 1 1 12 0 0)).meter.registers.account account
  -- a speed of 5 passed in mode 0; a new one refused
  pub dirgemist_meter_check : RuledOut (checked_as (with_speed new_meter 5)) 1 × RuledOut (checked_as new_meter) 14
  -- the total of a malformed state shown; none shown of a good one
  pub dirgemist_meter_total : RuledOut (shown_as (with_registers new_meter (with_counters new_meter.registers (with_total no_counters 1)))) (record { number = 1; total = 1 })
      × RuledOut (shown_as new_meter) (record { number = 14; total = 0 })
