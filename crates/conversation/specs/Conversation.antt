-- Request [7], end to end: the head's message is given to the meter byte by byte, what it says at the last byte is given to the head, and so on.
use Rattle.std.specs.Prelude.{cond, List, [], ◌∷◌, ℕ, zero, suc, eqb, length}
use Rattle.frames.specs.Frames.{on_wire}
use Rattle.state.specs.declared.Meter.{Meter}
use Rattle.commands.specs.Messages.{text_of}
use Rattle.session.specs.declared.Session.{Session}
use Rattle.session.specs.Messages.{message_at}
use Rattle.session.specs.Turns.{Turn, standing, replied, silent}
use Rattle.session.specs.Starting.{Opening}
use Rattle.dialogue.specs.Feeding.{Said, answered, left}

-- where it stands: what the head made of the last reply, with the characters that it sends next; and the meter
pub record Talk : Type 0 where
  pub turn : Turn
  pub meter : Meter

-- a session that was started, before anything is heard
abbrev pub begun : Opening → Meter → Talk
begun o m = record { turn = record { number = o.number; fact = 0; message = 1; text = o.text; next = o.session }; meter = m }

-- the reply of the last answer
unfoldable pub last_reply : List ℕ → List Said → List ℕ
last_reply reply [] = reply
last_reply reply (s ∷ ss) = last_reply s.reply ss

-- what the meter says at the last of some bytes
unfoldable pub reply_to : Meter → (ℕ → ℕ) → List ℕ → List ℕ
reply_to m rooms bytes = last_reply [] (answered m rooms bytes)

-- what the head makes of the bytes that came; none are silence
unfoldable pub heard_as : Session → List ℕ → List ℕ → ℕ → Turn
heard_as s work reply room = cond (eqb (length reply) 0) (silent s) (replied s work reply room)

-- an exchange in which these bytes reach the meter
unfoldable pub exchange_of : (ℕ → ℕ) → ℕ → List ℕ → Talk → List ℕ → Talk
exchange_of rooms room work t bytes =
    record { turn = heard_as t.turn.next work (on_wire (reply_to t.meter rooms bytes)) room; meter = left t.meter rooms bytes }

-- an exchange: they are the message's
abbrev pub exchange : (ℕ → ℕ) → ℕ → List ℕ → Talk → Talk
exchange rooms room work t = exchange_of rooms room work t (on_wire t.turn.text)

-- the meter has a reply buffer for each byte of each exchange, the head a buffer for each message
unfoldable pub converse : (ℕ → ℕ → ℕ) → (ℕ → ℕ) → List ℕ → Talk → ℕ → Talk
converse rooms buffers work t zero = t
converse rooms buffers work t (suc k) = exchange (rooms k) (buffers k) work (converse rooms buffers work t k)

-- the message of a number is sent, and the session goes on
abbrev pub asking : Session → List ℕ → ℕ → Turn
asking s work n = record { number = 1; fact = 0; message = n; text = text_of (message_at s work n); next = standing s n 0 }

-- it has stopped with a fact, at the message of a number
abbrev pub stopped : Session → ℕ → ℕ → Turn
stopped s n fact = record { number = 1; fact = fact; message = n; text = []; next = standing s n fact }
