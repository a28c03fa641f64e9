-- Two wrong answers for each call of `judging` and `session`. The C functions of `sessionlink` have the same promises.
use Rattle.std.specs.Prelude.{true, false, List, [], ◌∷◌, ◌++◌, ℕ, replicate}
use Rattle.line.specs.Quoted.{char, chars}
use Rattle.frames.specs.Frames.{frame_of, block_of, on_wire}
use Rattle.frames.specs.Commands.{P0}
use Rattle.frames.specs.Session.{enter_data}
use Rattle.replies.specs.Fixed.{identification, password_ask, refused}
use Rattle.post.specs.Grammar.{post_text}
use Rattle.commands.specs.Spoken.{good_fields}
use Rattle.commands.specs.Messages.{text_of}
use Rattle.judging.specs.Right.{identifies, asks_password, accepts, refuses, answers}
use Rattle.session.specs.declared.Session.{Session}
use Rattle.session.specs.declared.Refusal.TheVariants.{Short, NoPost}
use Rattle.session.specs.declared.Fact.TheVariants.{Done, Silent}
use Rattle.session.specs.Refusals.{number_of, fact_number}
use Rattle.session.specs.Messages.{entering, read_of}
use Rattle.session.specs.Turns.{ends, goes_on, step_of, replied, silent}
use Rattle.session.specs.Starting.{told_of, Starts}
use Rattle.mistakes.specs.RuledOut.{RuledOut}
use Rattle.mistakes.specs.Commands.{room}
use Rattle.mistakes.specs.Posts.{one}

-- the total read from any meter, with `()`: so many messages sent, and how it stands
abbrev pub total_read : List ℕ
total_read = char "E" ∷ 0 ∷ []

abbrev pub waiting : ℕ → ℕ → Session
waiting sent fact =
    record { serial = replicate 10 0; password = replicate 8 0; named = 0; access = 0; work = 0; count = 1; sent = sent; fact = fact; edition = 1; decimals = 0 }

-- the line of a zone's energy, and a block as it comes
unfoldable pub energy_block : List ℕ → List ℕ
energy_block zone = on_wire (block_of (chars "15.8." ++ (zone ++ chars "(000123.456*kWh)\r\n")))

-- of `judging`
pub record Judging : Type 0 where
  -- without its parity; edition 2's taken for edition 1
  pub is_identification : RuledOut (identifies 1 (identification 1)) true × RuledOut (identifies 1 (on_wire (identification 2))) true
  -- P0 with `()`; the ask itself refused
  pub is_password_ask : RuledOut (asks_password (on_wire (frame_of P0 enter_data))) true × RuledOut (asks_password (on_wire password_ask)) false
  -- a damaged ACK; two of them
  pub is_ack : RuledOut (accepts (0x86 ∷ [])) true × RuledOut (accepts (0x06 ∷ 0x06 ∷ [])) true
  -- without its parity; NAK itself as another reply
  pub is_nak : RuledOut (refuses (0x15 ∷ [])) true × RuledOut (refuses (0x95 ∷ [])) false
  -- a zone's energy for the total; another line behind the one asked for
  pub is_answer : RuledOut (answers 0 (char "E") 0 (energy_block (chars "1"))) true
      × RuledOut (answers 0 (char "K") 0 (on_wire (block_of (chars "0.0.0(Kiln_7 old)\r\nC.1.0(123 4567890)\r\n")))) true
  -- [10]: document 01's line from an EQM meter; what came in for what went out
  pub is-answer-family : RuledOut (answers 3 (char "E") 1 (energy_block (chars "1"))) true
      × RuledOut (answers 3 (char "G") 1 (on_wire (block_of (chars "1.8.1(00123.456*kWh)\r\n")))) true
  -- the total for a zone's energy
  pub takes-any-energy : RuledOut (answers 0 (char "E") 1 (energy_block (chars "0"))) true
  -- an account that does not end with its bracket
  pub leaves-the-end-open : RuledOut (answers 0 (char "K") 0 (on_wire (block_of (chars "0.0.0(Kiln_7 old]\r\n")))) true

-- of `session::Refusal`
pub record Refusals : Type 0 where
  -- 18 for a short buffer; the place for the number
  pub number : RuledOut (number_of Short) 18 × RuledOut (number_of (NoPost 5)) 5

-- of `session::Fact`
pub record Facts : Type 0 where
  -- done as a session that goes on; silence as a wrong reply
  pub number : RuledOut (fact_number Done) 0 × RuledOut (fact_number Silent) 3

-- of `session`
pub record Sessions : Type 0 where
  -- on after a NAK; over without B0
  pub hear : RuledOut (step_of (replied (waiting 3 0) total_read (on_wire refused) 64)) (step_of (goes_on (waiting 3 0) total_read))
      × RuledOut (step_of (replied (waiting 4 0) total_read (energy_block (chars "0")) 64)) (step_of (ends (waiting 4 0) 1))
  -- NAK with no fact, so that the session goes on
  pub goes-on-after-nak : RuledOut (step_of (replied (waiting 3 0) total_read (on_wire refused) 64)) (step_of (ends (waiting 3 0) 0))
  -- the work judged as the reply, and the reply taken for the work
  pub hears-the-work : RuledOut (step_of (replied (waiting 3 0) total_read (on_wire refused) 64)) (step_of (replied (waiting 3 0) (on_wire refused) total_read 64))
  -- the password before the meter asks for it; an ended session that goes on
  pub hear-order : RuledOut (replied (waiting 1 0) total_read (on_wire (identification 1)) 64).text (text_of (entering (waiting 1 0)))
      × RuledOut (step_of (replied (waiting 1 4) total_read (on_wire (identification 1)) 64)) (step_of (goes_on (waiting 1 4) total_read))
  -- silence as done; silence after a NAK in its place
  pub hear_nothing : RuledOut (step_of (silent (waiting 5 0))) (step_of (ends (waiting 5 0) 1)) × RuledOut (step_of (silent (waiting 3 2))) (step_of (ends (waiting 3 2) 4))

-- of `session::starting`
pub record Starting : Type 0 where
  -- 9 for no reads at all; 9 before 30
  pub start : ((place size : ℕ) (s : Session) (after : List ℕ) → Starts (told_of 1 0 0 [] 0 [] 0) [] room (record { number = 9; place = place; length = size; session = s }) after → ⊥)
      × ((place size : ℕ) (s : Session) (after : List ℕ) → Starts (told_of 1 0 1 [] 0 [] 1) (post_text one) room (record { number = 9; place = place; length = size; session = s }) after → ⊥)
  -- the sign-on counted as no message; a refused start that leaves a session
  pub start-record : ((place size : ℕ) (after : List ℕ) → Starts (told_of 1 0 0 [] 0 [] 0) total_read room (record { number = 1; place = place; length = size; session = waiting 0 0 }) after → ⊥)
      × ((place size : ℕ) (after : List ℕ) → Starts (told_of 1 0 0 [] 0 [] 0) [] room (record { number = 28; place = place; length = size; session = waiting 1 0 }) after → ⊥)
  -- the sign-on's length for the place
  pub hands-out-the-length-as-place : (s : Session) (after : List ℕ) → Starts (told_of 1 0 0 [] 0 [] 0) total_read room (record { number = 1; place = 5; length = 5; session = s }) after → ⊥
  -- energy 5; table 0
  pub read_good : RuledOut (good_fields 24 0 (read_of (char "E") 5)) true × RuledOut (good_fields 24 0 (read_of (char "Z") 0)) true
  -- [10]: what went out of a meter of document 01's family; energy 5
  pub read-good-out : RuledOut (good_fields 24 0 (read_of (char "G") 1)) true × RuledOut (good_fields 24 3 (read_of (char "G") 5)) true
  -- one decimal taken; 9 for it
  pub start-family : ((place size : ℕ) (s : Session) (after : List ℕ) → Starts (told_of 1 1 0 [] 0 [] 0) total_read room (record { number = 1; place = place; length = size; session = s }) after → ⊥)
      × ((place size : ℕ) (s : Session) (after : List ℕ) → Starts (told_of 1 1 0 [] 0 [] 0) total_read room (record { number = 9; place = place; length = size; session = s }) after → ⊥)
