-- Two wrong answers for each call of `whole`, and those that request [8] warns of.
use Rattle.std.specs.Prelude.{List, [], ◌∷◌, ℕ}
use Rattle.state.specs.Sizes.{reply_room}
use Rattle.state.specs.declared.Meter.{Meter}
use Rattle.state.specs.Making.{empty_receiver}
use Rattle.state.specs.Setting.{in_mode, with_speed}
use Rattle.meter.specs.Outcomes.{Outcome, answer_of, silent, ack}
use Rattle.whole.specs.Whole.{no_frame, frame_at}
use Rattle.whole.specs.declared.Refusal.TheVariants.{ShortBuffer, Malformed, NoFrame}
use Rattle.whole.specs.Looking.{number_of, speed_of, refuses, finishes, looked}
use Rattle.mistakes.specs.RuledOut.{RuledOut}
use Rattle.mistakes.specs.Samples.{new_meter, held_in}

-- SOH B0 ETX and its BCC on the wire
abbrev pub good_bye : List ℕ
good_bye = 129 ∷ 66 ∷ 48 ∷ 3 ∷ 113 ∷ []

-- programming at 9600 baud, with nothing held
unfoldable pub awaiting : Meter
awaiting = with_speed (in_mode new_meter 4) 5

-- what it makes of a slice
unfoldable pub slice : List ℕ → Outcome
slice bytes = frame_at awaiting reply_room bytes

-- a SOH is held, and the frame comes whole
unfoldable pub held_slice : Outcome
held_slice = frame_at (held_in 4 (1 ∷ [])) reply_room good_bye

-- of `whole`
pub record Whole : Type 0 where
  -- a restart inside refused; a damaged SOH taken
  pub receive_frame : RuledOut (answer_of (slice (129 ∷ 66 ∷ good_bye))) (answer_of (no_frame awaiting))
      × RuledOut (answer_of (slice (1 ∷ 66 ∷ 48 ∷ 3 ∷ 113 ∷ []))) (answer_of (ack 5 (in_mode new_meter 0)))
  -- an ETX that is the BCC taken for the end; what stands behind the BCC not looked at
  pub receive-frame-end : RuledOut (answer_of (slice (129 ∷ 66 ∷ 48 ∷ 3 ∷ 3 ∷ []))) (answer_of (no_frame awaiting))
      × RuledOut (answer_of (slice (129 ∷ 66 ∷ 48 ∷ 3 ∷ 113 ∷ 66 ∷ []))) (answer_of (ack 5 (in_mode new_meter 0)))
  -- the last byte looked at for ETX in place of the one before it: a whole frame refused
  pub takes-the-bcc-for-the-end : RuledOut (answer_of (slice good_bye)) (answer_of (no_frame awaiting))
  -- 17 with the receiver emptied; the frame taken behind what is held
  pub receive-frame-held : RuledOut (answer_of held_slice) (answer_of (silent 17 (in_mode new_meter 4)))
      × RuledOut (answer_of held_slice) (answer_of (ack 0 (in_mode new_meter 0)))
  -- 17 at speed 0; the last byte to be taken upon an empty receiver
  pub look : RuledOut (looked awaiting reply_room []) (refuses 17 0) × RuledOut (looked awaiting reply_room good_bye) (finishes empty_receiver 113)
  -- 14 for a short buffer; 14 for a slice that is no frame
  pub refusal-number : RuledOut (number_of ShortBuffer) 14 × RuledOut (number_of (NoFrame 5)) 14
  -- the state's speed not said with 17; a speed said with 14
  pub refusal-speed : RuledOut (speed_of (NoFrame 5)) 0 × RuledOut (speed_of Malformed) 5
