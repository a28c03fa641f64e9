-- What a look at a slice comes to, told by what it asks of a state: refused with a number and a speed, or its last byte is to be taken upon a receiver that is filled at once.
use Rattle.std.specs.Prelude.{Bool, cond, ◌&&◌, List, [], ℕ, eqb, leb, ltb, Result, Ok, Err}
use Rattle.values.specs.Edition.{is_edition}
use Rattle.state.specs.Sizes.{reply_room}
use Rattle.state.specs.declared.Receiver.{Receiver}
use Rattle.state.specs.declared.Meter.{Meter}
use Rattle.state.specs.Making.{empty_receiver}
use Rattle.state.specs.Setting.{with_receiver}
use Rattle.state.specs.WellFormed.{edition_of, well_formed}
use Rattle.meter.specs.Outcomes.{Outcome}
use Rattle.whole.specs.declared.Refusal.{Refusal}
use Rattle.whole.specs.declared.Refusal.TheVariants.{NoEdition, ShortBuffer, Malformed, NoFrame}
use Rattle.whole.specs.declared.Gathered.{Gathered}
use Rattle.whole.specs.Gathering.{last_of, held_in, run_of, filled}

-- a refusal's number and its speed; or number 0, the last byte, and the receiver that holds what comes before it
pub record Looked : Type 0 where
  pub number : ℕ
  pub speed : ℕ
  pub last : ℕ
  pub receiver : Receiver

-- 12, 14, 16 or 17, at a speed
abbrev pub refuses : ℕ → ℕ → Looked
refuses number speed = record { number = number; speed = speed; last = 0; receiver = empty_receiver }

-- the last byte, and the receiver that holds what comes before it
abbrev pub finishes : Receiver → ℕ → Looked
finishes r last = record { number = 0; speed = 0; last = last; receiver = r }

-- of a refusal, the number and the speed
abbrev pub number_of : Refusal → ℕ
number_of NoEdition = 16
number_of ShortBuffer = 12
number_of Malformed = 14
number_of (NoFrame speed) = 17

abbrev pub speed_of : Refusal → ℕ
speed_of NoEdition = 0
speed_of ShortBuffer = 0
speed_of Malformed = 0
speed_of (NoFrame speed) = speed

-- what a look's result says
abbrev pub told : Result Gathered Refusal → Looked
told (Ok g) = finishes g.receiver g.last
told (Err e) = refuses (number_of e) (speed_of e)

-- a frame is finished by the last byte, with so many held before it; 17 at this speed where none is
unfoldable pub gathered : ℕ → List ℕ → Looked
gathered speed bytes = cond (eqb (held_in bytes) 0) (refuses 17 speed) (finishes (filled (run_of (held_in bytes) bytes)) (last_of bytes))

-- modes 2 to 4 with an empty receiver
abbrev pub awaits_in : ℕ → ℕ → Bool
awaits_in mode count = leb 2 mode && eqb count 0

unfoldable pub looked_by : ℕ → ℕ → ℕ → ℕ → Bool → List ℕ → ℕ → Looked
looked_by mode speed count edition formed bytes room =
    cond (is_edition edition)
    (cond (ltb room reply_room) (refuses 12 0)
    (cond formed (cond (awaits_in mode count) (gathered speed bytes) (refuses 17 speed)) (refuses 14 0)))
    (refuses 16 0)

abbrev pub looked : Meter → ℕ → List ℕ → Looked
looked m room bytes = looked_by m.mode m.speed m.receiver.count (edition_of m) (well_formed m) bytes room

-- refused: nothing changed, no reply
abbrev pub refused_with : Meter → Looked → Outcome
refused_with m l = record { number = l.number; speed = l.speed; reply = []; place = 0; next = m }

-- finished: the meter that takes the last byte
abbrev pub filled_with : Meter → Looked → Meter
filled_with m l = with_receiver m l.receiver
