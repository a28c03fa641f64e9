-- [14]: wrong answers of the wired link.
use Rattle.std.specs.Prelude.{Bool, true, false, List, [], ◌∷◌, ◌++◌, ℕ, length, take, replicate}
use Rattle.line.specs.Controls.{ACK}
use Rattle.line.specs.Quoted.{char, chars}
use Rattle.line.specs.Characters.{sent}
use Rattle.text.specs.Writing.{stored, holding}
use Rattle.values.specs.Texts.{serial_text, wired_text}
use Rattle.values.specs.Registers.{good_serial}
use Rattle.frames.specs.Frames.{bare_frame, on_wire}
use Rattle.frames.specs.Commands.{B0}
use Rattle.frames.specs.Session.{sign_on_to, wired_line, wired_sign_on, wired_answer}
use Rattle.state.specs.Sizes.{reply_room}
use Rattle.state.specs.declared.Meter.{Meter}
use Rattle.state.specs.Link.{link_of, is_wired, rest_speed}
use Rattle.state.specs.Making.{empty_receiver, facts_of, meter_of}
use Rattle.state.specs.Setting.{with_held, with_receiver, with_speed, in_mode}
use Rattle.replies.specs.Fixed.{identification, refused, password_ask}
use Rattle.meter.specs.Link.{zeros}
use Rattle.meter.specs.Outcomes.{Outcome, answer_of, silent, saying}
use Rattle.meter.specs.Character.{character}
use Rattle.meter.specs.Events.{silence, power_up}
use Rattle.mistakes.specs.RuledOut.{RuledOut}
use Rattle.mistakes.specs.Samples.{noon, serial, account, password, new_meter}

unfoldable pub wired_meter : Meter
wired_meter = meter_of (facts_of serial password 1 2 0) account noon

-- in a mode, holding some characters
unfoldable pub wired_in : ℕ → List ℕ → Meter
wired_in mode s = with_receiver (in_mode wired_meter mode) (with_held empty_receiver (stored empty_receiver.held 0 s) (length s))

-- called by zeros; by the optical sign-on; a BCC that does not fit; the digit '0'
unfoldable pub zeros_called : Outcome
zeros_called = character (wired_in 0 (chars "/A000.0000000\r")) reply_room (sent 10)

unfoldable pub plain_called : Outcome
plain_called = character (wired_in 0 (chars "/?!\r")) reply_room (sent 10)

unfoldable pub wrong_sum : Outcome
wrong_sum = character (wired_in 3 (take 4 (bare_frame B0))) reply_room (sent 0)

unfoldable pub slow_digit : Outcome
slow_digit = character (wired_in 1 (ACK ∷ chars "001\r")) reply_room (sent 10)

-- of `values::writing`
pub record Written : Type 0 where
  -- a space for the dot; the dot behind four digits
  pub put_wired : RuledOut (stored (replicate 11 0) 0 (wired_text serial)) (serial_text serial)
      × RuledOut (stored (replicate 11 0) 0 (wired_text serial)) (chars "1234.567890")

-- of `frames`
pub record Lined : Type 0 where
  -- another letter; no '/'
  pub wrong_wired_line : RuledOut (wired_line (char "A") serial) (wired_line (char "g") serial)
      × RuledOut (wired_line (char "A") serial) (chars "A123.4567890\r\n")

-- of `state::link`
pub record Linked : Type 0 where
  -- the optical link of a wired meter; the edition
  pub wrong_link_of : RuledOut (link_of wired_meter) 1 × RuledOut (link_of new_meter) 2
  -- the optical one is; the wired one is not
  pub wrong_is_wired : RuledOut (is_wired 1) true × RuledOut (is_wired 2) false
  -- 300 baud on the wire; 9600 at the window
  pub wrong_rest_speed : RuledOut (rest_speed 2) 0 × RuledOut (rest_speed 1) 5

-- of `replies`
pub record Answered : Type 0 where
  -- zeros; the call sent back
  pub answer_call : RuledOut (holding (replicate 15 0) (on_wire (wired_answer serial))) (on_wire (wired_answer zeros))
      × RuledOut (holding (replicate 15 0) (on_wire (wired_answer serial))) (on_wire (wired_sign_on serial))

-- of `meter`
pub record Heard : Type 0 where
  -- 000.0000000 answered with zeros; not answered
  pub receive-zeros : RuledOut (holding (replicate reply_room 9) (on_wire zeros_called.reply)) (holding (replicate reply_room 9) (on_wire (wired_answer zeros)))
      × RuledOut (answer_of zeros_called) (answer_of (silent 0 wired_meter))
  -- `/?!` answered; heard at 300 baud
  pub receive-plain : RuledOut (answer_of plain_called) (answer_of (saying 1 5 (identification 1) (in_mode wired_meter 1)))
      × RuledOut (answer_of plain_called) (answer_of (silent 0 (with_speed wired_meter 0)))
  -- NAK; mode 3 kept
  pub receive-wrong : RuledOut (answer_of wrong_sum) (answer_of (saying 4 5 refused (in_mode wired_meter 0)))
      × RuledOut (answer_of wrong_sum) (answer_of (silent 4 (in_mode wired_meter 3)))
  -- the digit '0' taken; taken for '5'
  pub receive-digit-0 : RuledOut (answer_of slow_digit) (answer_of (saying 1 0 password_ask (with_speed (in_mode wired_meter 2) 0)))
      × RuledOut (answer_of slow_digit) (answer_of (saying 1 5 password_ask (in_mode wired_meter 2)))
  -- speed 0 after power-up; NAK at silence
  pub up-and-quiet : RuledOut (answer_of (power_up wired_meter)) (answer_of (silent 1 (with_speed wired_meter 0)))
      × RuledOut (answer_of (silence (in_mode wired_meter 1) reply_room)) (answer_of (saying 1 5 refused wired_meter))
