-- The past: what happened, the newest first. A refused event did not happen.
use Rattle.std.specs.Prelude.{Bool, true, false, cond, ◌&&◌, List, [], ◌∷◌, ℕ, leb}
use Rattle.values.specs.Family.{is_eqm}
use Rattle.state.specs.Sizes.{reply_room}
use Rattle.meter.specs.declared.Event.{Event}
use Rattle.meter.specs.declared.Event.TheVariants.{Character, Silence, Tick, Pulse, PowerUp, PulseOut, Unknown}

-- it is not refused by 12, 13 or as no event, of a meter of a family
unfoldable pub happens : ℕ → ℕ → Event → Bool
happens family room (Character b) = leb reply_room room
happens family room Silence = leb reply_room room
happens family room Tick = true
happens family room (Pulse units) = leb units 1000000
happens family room PowerUp = true
happens family room (PulseOut units) = is_eqm family && leb units 1000000
happens family room Unknown = false

-- what then happened, each with the room that it was given, upon what had happened before
unfoldable pub past_of : ℕ → List Event → List (ℕ × Event) → List Event
past_of family past [] = past
past_of family past ((room, e) ∷ es) = past_of family (cond (happens family room e) (e ∷ past) past) es
