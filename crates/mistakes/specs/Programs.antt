-- Wrong programs by what they would answer, in crates where a must-fail edit costs the gate half a minute. A field has the program's name.
use Rattle.std.specs.Prelude.{true, List, [], ◌∷◌, ◌++◌, ℕ, ◌*◌, get_or, take, drop, replicate}
use Rattle.line.specs.Controls.{SOH}
use Rattle.line.specs.Quoted.{chars}
use Rattle.line.specs.Characters.{sent}
use Rattle.text.specs.Writing.{stored, holding}
use Rattle.values.specs.Registers.{good_serial}
use Rattle.frames.specs.Frames.{frame_of, block_of, on_wire}
use Rattle.frames.specs.Commands.{P1, R1, bracketed, ask_export}
use Rattle.frames.specs.Session.{wired_sign_on, wired_answer}
use Rattle.state.specs.Sizes.{row_length, table_places, reply_room}
use Rattle.state.specs.declared.Meter.{Meter}
use Rattle.state.specs.declared.Facts.{Facts}
use Rattle.state.specs.WellFormed.{well_formed}
use Rattle.state.specs.Making.{empty_receiver, no_counters, facts_of, meter_of, made_of}
use Rattle.state.specs.Setting.{with_held, with_mark, with_receiver, in_mode, with_speed, with_attempts, with_registers, with_counters, with_zones, with_total, row_start}
use Rattle.replies.specs.Fixed.{password_ask}
use Rattle.meter.specs.Outcomes.{Outcome, answer_of, saying, nak}
use Rattle.meter.specs.Character.{character}
use Rattle.meter.specs.Events.{tick}
use Rattle.meter.specs.declared.Event.TheVariants.{Silence}
use Rattle.meter.specs.Life.{refusal}
use Rattle.receiving.specs.declared.Holding.TheVariants.{Anew}
use Rattle.settling.specs.Settling.{seen_in, goes_on}
use Rattle.firmware.specs.Replies.{settled_reply}
use Rattle.history.specs.Frames.{account as account_told}
use Rattle.history.specs.Examples.{spoken, tells_us, tells_there, programming, read_only, programming_there, new_account, account_write, ones_write, ones as all_ones}
use Rattle.post.specs.Grammar.{line_text, post_text}
use Rattle.post.specs.Place.{CheckedAs}
use Rattle.datasets.specs.Sets.{data_set}
use Rattle.reading.specs.Sets.{set_read}
use Rattle.showing.specs.Shown.{readout_shown, register_shown}
use Rattle.mistakes.specs.RuledOut.{RuledOut}
use Rattle.mistakes.specs.Samples.{noon, serial, account, password, twos, new_meter, held_in}
use Rattle.mistakes.specs.Events.{slow_confirmed}
use Rattle.mistakes.specs.Posts.{entry}
use Rattle.mistakes.specs.Commands.{NotLeft, room}
use Rattle.mistakes.specs.Replying.{two_sets}

-- good facts but for the link
abbrev pub third_link : Facts
third_link = facts_of serial password 1 3 0

-- a SOH held
unfoldable pub begun : Meter
begun = held_in 2 (SOH ∷ [])

-- the same with an 'A' in the first place that nothing is held at
unfoldable pub trailed : Meter
trailed = with_receiver (in_mode new_meter 2) (with_held empty_receiver (stored empty_receiver.held 0 (SOH ∷ chars "A")) 1)

-- in programming mode at 9600 baud
unfoldable pub fast : Meter
fast = with_speed (in_mode new_meter 4) 5

-- eight zeros for the password, all but the BCC held; and the BCC
unfoldable pub wrong_password : Meter
wrong_password = held_in 2 (take 15 (frame_of P1 (bracketed (replicate 8 48))))

unfoldable pub wrong_tried : Outcome
wrong_tried = character wrong_password reply_room (sent (get_or (frame_of P1 (bracketed (replicate 8 48))) 15 0))

-- a row whose eighth character is a bracket, which is column 16 of its line
unfoldable pub bracket_within : List ℕ
bracket_within = post_text (entry 7 (replicate 7 49 ++ (chars ")" ++ replicate 16 49)) ∷ [])

pub record State : Type 0 where
  -- the rows of all tables but the first go past the last one
  pub first-row-only : RuledOut (row_start 2) (table_places * row_length)
  -- a new meter with a failed attempt
  pub starts-with-an-attempt : RuledOut (made_of (facts_of serial password 1 1 0) account noon) (record { number = 1; meter = with_attempts new_meter 1 })
  -- 9600 baud passes in mode 1
  pub takes-9600-outside-a-session : RuledOut (well_formed (with_speed (in_mode new_meter 1) 5)) true
  -- a mark of 2 passes
  pub takes-a-mark-of-two : RuledOut (well_formed (with_receiver begun (with_mark begun.receiver 2 0))) true
  -- a link 3 passes, in what a meter is made from and in a state
  pub takes-a-third-link : RuledOut (made_of third_link account noon).number 1 × RuledOut (well_formed (meter_of third_link account noon)) true
  -- a character in the first unused place passes
  pub overlooks-an-unused-place : RuledOut (well_formed trailed) true
  -- a total without the fourth counter passes
  pub total-of-three : RuledOut (well_formed (with_registers new_meter (with_counters new_meter.registers (with_total (with_zones no_counters (0 ∷ 0 ∷ 0 ∷ 1 ∷ [])) 0)))) true

pub record Meters : Type 0 where
  -- 14 for a buffer that is too small
  pub calls-a-small-buffer-malformed : RuledOut (refusal 0 4095 Silence) 14
  -- 10, and no attempt more
  pub forgives-a-wrong-password : RuledOut (answer_of wrong_tried) (answer_of (nak 10 wrong_password))
  -- the slow confirmation answered at 9600 baud, and the session at 9600
  pub answers-the-slow-at-9600 : RuledOut (answer_of slow_confirmed) (answer_of (saying 1 5 password_ask (with_speed (in_mode new_meter 2) 5)))
  -- the mode for the speed, where nothing is replied
  pub gives-the-wrong-speed : RuledOut (answer_of (tick fast)) (answer_of (saying 1 4 [] (tick fast).next))
  -- a settled character with a reply of one byte
  pub says-a-byte-was-sent : RuledOut (settled_reply (goes_on (seen_in fast) (Anew 0) 0 0 0)) (record { number = 0; length = 1; speed = 5; place = 0 })

pub record Head : Type 0 where
  -- what a meter answers for the head's own call on the wire
  pub calls-by-the-answer : NotLeft room (good_serial serial) (on_wire (wired_sign_on serial)) (holding room (on_wire (wired_answer serial)))
  -- of a set, the place behind it for the length of its value
  pub hands-out-the-next-place-as-length : RuledOut (set_read two_sets 0) (record { number = 1; address_length = 1; value_length = 6; next = 6; place = 0 })

-- A(1) CR LF, and a set that does not close, as a meter sends it
unfoldable pub bad_second : List ℕ
bad_second = on_wire (block_of (data_set (chars "A") (chars "1") ++ chars "B(2\r\n"))

pub record Readouts : Type 0 where
  -- a malformed set shown with place 0
  pub shows-place-0 : RuledOut (readout_shown bad_second).text (chars "A 1\n25 0\n")
  -- the same where one register is asked for
  pub loses-the-bad-set : RuledOut (register_shown bad_second (chars "B")).text (chars "25 0\n")
  -- all data sets where one is asked for
  pub shows-every-set : RuledOut (register_shown (on_wire (block_of two_sets)) (chars "B")).text (chars "A 1\nB 22\n")

-- a meter that was told something else by what happened to it
pub record Histories : Type 0 where
  -- one write told twice
  pub applies-a-write-twice : RuledOut (tells_us (spoken (programming ++ account_write))) (account_told new_account ∷ account_told new_account ∷ [])
  -- a write in a session that may only read
  pub takes-a-frame-in-read-only-mode : RuledOut (tells_us (spoken (read_only ++ account_write))) (account_told new_account ∷ [])
  -- table 25 told to edition 1
  pub tells-edition-1-of-table-25 : RuledOut (tells_us (spoken (programming ++ ones_write 25))) (all_ones 25 ∷ [])
  -- a frame that goes on behind silence
  pub keeps-a-frame-over-silence : RuledOut (tells_us (spoken (programming ++ take 12 account_write) ++ (reply_room, Silence) ∷ spoken (drop 12 account_write))) (account_told new_account ∷ [])
  -- `G` taken for a question by a meter of document 01's family, whose session then goes on
  pub hears-a-question-for-what-went-out : RuledOut (tells_there (spoken (programming_there ++ on_wire (frame_of R1 (ask_export 4)) ++ account_write))) (account_told new_account ∷ [])

pub record Post : Type 0 where
  -- the line's place twice over, for a '1' below table 24
  pub makes-up-the-place : CheckedAs 24 (line_text 24 twos ++ chars "1") 20 72 → ⊥
  -- below table 9 the tens digit 0 let through
  pub lets-a-spent-tens-digit-pass : CheckedAs 24 (line_text 9 twos ++ chars "131.0.0") 20 43 → ⊥
  -- [3]: below table 24 the tens digit 2 taken as spent
  pub spends-the-tens-digit-at-24 : CheckedAs 25 (line_text 24 twos ++ chars "131.0.2") 20 42 → ⊥
  -- a bracket in one of the four columns that are not looked at
  pub keeps-what-follows-a-bracket : CheckedAs 24 bracket_within 1 0 → ⊥
