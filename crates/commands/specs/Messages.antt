-- Document 01, "The head": everything that the head says.
use Rattle.std.specs.Prelude.{Bool, true, ◌&&◌, List, ℕ}
use Rattle.values.specs.Registers.{good_serial}
use Rattle.frames.specs.Frames.{bare_frame}
use Rattle.frames.specs.Commands.{B0}
use Rattle.frames.specs.Session.{sign_on, closing_sign_on, sign_on_to, wired_sign_on, confirmation, good_speed}
use Rattle.commands.specs.Building.{good_choice}
use Rattle.commands.specs.Spoken.{Command, good_fields, spoken}

-- the sign-on to any meter, the one that closes a period, the one to a serial, the one on the wired link, the confirmation, a command with data, B0
pub data Message : Type 0 where
  call : Message
  close : Message
  call_to : List ℕ → Message
  call_wired : List ℕ → Message
  confirm : ℕ → ℕ → Message
  command : Command → Message
  leave : Message

-- its characters
unfoldable pub text_of : Message → List ℕ
text_of call = sign_on
text_of close = closing_sign_on
text_of (call_to serial) = sign_on_to serial
text_of (call_wired serial) = wired_sign_on serial
text_of (confirm v y) = confirmation v y
text_of (command c) = spoken c
text_of leave = bare_frame B0

-- its fields lie within their rules, for a meter of so many tables and of a family
unfoldable pub good_message : ℕ → ℕ → Message → Bool
good_message tables family call = true
good_message tables family close = true
good_message tables family (call_to serial) = good_serial serial
good_message tables family (call_wired serial) = good_serial serial
good_message tables family (confirm v y) = good_speed v && good_choice y
good_message tables family (command c) = good_fields tables family c
good_message tables family leave = true
