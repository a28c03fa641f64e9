-- Document 01, "Receiving": a received character.
use Rattle.std.specs.Prelude.{Bool, cond, ◌||◌, List, ℕ, eqb, ltb, get_or}
use Rattle.line.specs.Characters.{damaged_at, seven}
use Rattle.frames.specs.Frames.{block_of}
use Rattle.frames.specs.Session.{speed_said}
use Rattle.state.specs.Sizes.{reply_room}
use Rattle.state.specs.declared.Meter.{Meter}
use Rattle.state.specs.WellFormed.{tables_in, edition_of, family_of, well_formed, marked}
use Rattle.state.specs.Making.{empty_receiver}
use Rattle.receiving.specs.declared.Hearing.{Hearing}
use Rattle.receiving.specs.declared.Hearing.TheVariants.{Drop, Hold, Restart, Empty, Line, Confirm, Frame, TooLong}
use Rattle.receiving.specs.Hearing.{hearing}
use Rattle.receiving.specs.Receivers.{held_text, last_held, hurt_place, kept_receiver, restarted_receiver}
use Rattle.deciding.specs.Verdict.{verdict}
use Rattle.replies.specs.Block.{block_data}
use Rattle.replies.specs.Periods.{long_data}
use Rattle.replies.specs.Fixed.{password_ask}
use Rattle.state.specs.Setting.{with_receiver, in_mode, with_speed, with_registers}
use Rattle.state.specs.Closing.{closing}
use Rattle.state.specs.Link.{link_of, rest_speed}
use Rattle.meter.specs.Link.{identified}
use Rattle.meter.specs.Outcomes.{Outcome, silent, unheard, of_edition, saying, nak, at_place}
use Rattle.meter.specs.SignOn.{signs_on_by, closes_by, wants_block, wants_periods, wants_program}
use Rattle.meter.specs.Acting.{acted}

-- a damaged character is held as 0
unfoldable pub symbol : ℕ → ℕ
symbol b = cond (damaged_at b) 0 (seven b)

-- answered as the link rules and at its speed, then mode 1
abbrev pub signed_on : Meter → Outcome
signed_on m = saying 1 (rest_speed (link_of m)) (identified (link_of m) (edition_of m) m.registers.facts.serial) (in_mode m 1)

-- the meter with a period closed
abbrev pub period_closed : Meter → Meter
period_closed m = with_registers m (closing m.registers)

-- an unmarked line signs on, `/C!` after a period is closed; any other line: empty, answer 0
unfoldable pub line_ended : Meter → Outcome
line_ended m =
    cond (marked m.receiver) (silent 0 (in_mode m 0))
    (cond (signs_on_by (link_of m) (held_text m.receiver) m.registers.facts.serial) (signed_on m)
    (cond (closes_by (link_of m) (held_text m.receiver)) (signed_on (period_closed m))
    (silent 0 (in_mode m 0))))

-- six characters, the last of them c: unmarked ACK 0 V Y CR LF; the reply goes at V's speed, and a session that starts keeps it
abbrev pub confirmed_speed : Meter → ℕ
confirmed_speed m = speed_said (get_or m.receiver.held 2 0)

-- a block at a speed, then mode 0
abbrev pub read_out : Meter → ℕ → List ℕ → Outcome
read_out m speed content = saying 1 speed (block_of content) (in_mode m 0)

unfoldable pub confirmed : Meter → ℕ → Bool → Outcome
confirmed m c damaged =
    cond (marked m.receiver || damaged) (silent 2 (in_mode m 0))
    (cond (wants_block (link_of m) (held_text m.receiver) c) (read_out m (confirmed_speed m) (block_data (tables_in m.registers) m.registers))
    (cond (wants_periods (link_of m) (held_text m.receiver) c) (read_out m (confirmed_speed m) (long_data (tables_in m.registers) m.registers))
    (cond (wants_program (link_of m) (held_text m.receiver) c) (saying 1 (confirmed_speed m) password_ask (with_speed (in_mode m 2) (confirmed_speed m)))
    (silent 2 (in_mode m 0)))))

-- a whole frame, c being its BCC; [2]: where one of its characters was damaged, the answer has the place of the first, else 0
abbrev pub frame_ended : Meter → ℕ → Bool → Outcome
frame_ended m c damaged =
    at_place (acted m (verdict (tables_in m.registers) (family_of m) m.mode (held_text m.receiver) (marked m.receiver || damaged) c)) (hurt_place m.receiver damaged)

unfoldable pub heard : Meter → ℕ → Bool → Hearing → Outcome
heard m c damaged Drop = silent 0 m
heard m c damaged Hold = silent 0 (with_receiver m (kept_receiver m.receiver c damaged))
heard m c damaged Restart = silent 0 (with_receiver m (restarted_receiver c))
heard m c damaged Empty = silent 0 (with_receiver m empty_receiver)
heard m c damaged Line = line_ended m
heard m c damaged Confirm = confirmed m c damaged
heard m c damaged Frame = frame_ended m c damaged
heard m c damaged TooLong = nak 5 m

unfoldable pub taken : Meter → ℕ → Outcome
taken m b = heard m (symbol b) (damaged_at b) (hearing m.mode m.receiver.count (last_held m.receiver) (symbol b))

-- a reply buffer under 4,096 gives 12, then a malformed state 14
unfoldable pub character : Meter → ℕ → ℕ → Outcome
character m room b = of_edition m (cond (ltb room reply_room) (unheard 12 m) (cond (well_formed m) (taken m b) (unheard 14 m)))
