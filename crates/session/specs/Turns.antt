-- Request [7]: what the head makes of a reply, and of silence.
use Rattle.std.specs.Prelude.{Bool, cond, ◌&&◌, List, [], ℕ, Result, Ok, Err, ◌+◌, ◌-◌, ◌*◌, eqb, leb, ltb, length, get_or}
use Rattle.values.specs.Edition.{tables_of}
use Rattle.commands.specs.Spoken.{good_fields}
use Rattle.commands.specs.Messages.{text_of, good_message}
use Rattle.judging.specs.Right.{identifies, asks_password, accepts, refuses, answers}
use Rattle.session.specs.declared.Session.{Session}
use Rattle.session.specs.declared.Outcome.{Outcome}
use Rattle.session.specs.declared.Outcome.TheVariants.{Says, Ends}
use Rattle.session.specs.declared.Refusal.{Refusal}
use Rattle.session.specs.Refusals.{number_of, fact_number}
use Rattle.session.specs.Messages.{read_of, message_at, messages}
use Rattle.session.specs.Standing.{session_good}

-- the number, the fact, the number of the message that it is about, the characters that are sent next, and the session after it
pub record Turn : Type 0 where
  pub number : ℕ
  pub fact : ℕ
  pub message : ℕ
  pub text : List ℕ
  pub next : Session

-- a turn in numbers: the fact is 0 for the next message, of that number and length, and else that of an end at that message
pub record Step : Type 0 where
  pub number : ℕ
  pub fact : ℕ
  pub message : ℕ
  pub length : ℕ
  pub next : Session

-- as the call gives it; a refusal changes nothing
abbrev pub step_told : Session → Result Outcome Refusal → Step
step_told s (Ok (Says message length next)) = record { number = 1; fact = 0; message = message; length = length; next = next }
step_told s (Ok (Ends fact message next)) = record { number = 1; fact = fact_number fact; message = message; length = 0; next = next }
step_told s (Err e) = record { number = number_of e; fact = 0; message = 0; length = 0; next = s }

abbrev pub step_of : Turn → Step
step_of t = record { number = t.number; fact = t.fact; message = t.message; length = length t.text; next = t.next }

-- the session with another message sent, or with a fact that ends it
abbrev pub standing : Session → ℕ → ℕ → Session
standing s sent fact =
    record { serial = s.serial; password = s.password; named = s.named; access = s.access; work = s.work; count = s.count; sent = sent; fact = fact; edition = s.edition; decimals = s.decimals }

-- 19, 31: nothing changed
abbrev pub unturned : ℕ → Session → Turn
unturned number s = record { number = number; fact = 0; message = 0; text = []; next = s }

-- it ends with a fact, at the message just answered; once ended it says the same again
abbrev pub ends : Session → ℕ → Turn
ends s fact = record { number = 1; fact = fact; message = s.sent; text = []; next = standing s s.sent fact }

-- the next message, of its own number
abbrev pub goes_on : Session → List ℕ → Turn
goes_on s work =
    record { number = 1; fact = 0; message = s.sent + 1; text = text_of (message_at s work (s.sent + 1)); next = standing s (s.sent + 1) 0 }

-- a block with what a read asked for; a read that the head can't build has no right reply
unfoldable pub right_read : ℕ → ℕ → ℕ → ℕ → List ℕ → Bool
right_read tables family letter n reply = good_fields tables family (read_of letter n) && answers family letter n reply

-- ACK for a table write; for a read a block with what was asked
unfoldable pub right_work : Session → List ℕ → ℕ → List ℕ → Bool
right_work s work i reply = cond (eqb s.work 1) (accepts reply) (right_read (tables_of s.edition) s.decimals (get_or work (i * 2) 0) (get_or work (i * 2 + 1) 0) reply)

-- the right reply to the message of a number
unfoldable pub right_at : Session → List ℕ → ℕ → List ℕ → Bool
right_at s work n reply =
    cond (eqb n 1) (identifies s.edition reply)
    (cond (eqb n 2) (asks_password reply)
    (cond (eqb n 3) (accepts reply)
    (cond (leb n (s.count + 3)) (right_work s work (n - 4) reply) (accepts reply))))

-- after the right reply to the last message it is done; work from which the next message can't be built is not this session's
unfoldable pub answered_right : Session → List ℕ → Turn
answered_right s work =
    cond (leb (messages s) s.sent) (ends s 1) (cond (good_message (tables_of s.edition) s.decimals (message_at s work (s.sent + 1))) (goes_on s work) (unturned 31 s))

unfoldable pub answered : Session → List ℕ → List ℕ → Turn
answered s work reply =
    cond (refuses reply) (ends s 2) (cond (right_at s work s.sent reply) (answered_right s work) (ends s 3))

-- a buffer under 64 gives 19, a value that no session has 31
unfoldable pub replied : Session → List ℕ → List ℕ → ℕ → Turn
replied s work reply room =
    cond (ltb room 64) (unturned 19 s)
    (cond (session_good s) (cond (eqb s.fact 0) (answered s work reply) (ends s s.fact)) (unturned 31 s))

-- no reply came
unfoldable pub silent : Session → Turn
silent s = cond (session_good s) (cond (eqb s.fact 0) (ends s 4) (ends s s.fact)) (unturned 31 s)
