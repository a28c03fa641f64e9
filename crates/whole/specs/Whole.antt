-- [8], "Whole frames at once": a frame that comes as a slice, told by the character engine alone.
use Rattle.std.specs.Prelude.{Bool, true, false, cond, ◌&&◌, List, [], ◌∷◌, ℕ, eqb, leb, ltb, length, get_or}
use Rattle.line.specs.Controls.{SOH}
use Rattle.state.specs.Sizes.{reply_room}
use Rattle.state.specs.declared.Meter.{Meter}
use Rattle.state.specs.WellFormed.{well_formed}
use Rattle.receiving.specs.declared.Hearing.{Hearing}
use Rattle.receiving.specs.declared.Hearing.TheVariants.{Drop, Hold, Restart, Empty, Line, Confirm, Frame, TooLong}
use Rattle.receiving.specs.Hearing.{hearing}
use Rattle.receiving.specs.Receivers.{last_held}
use Rattle.meter.specs.Outcomes.{Outcome, silent, unheard, of_edition}
use Rattle.meter.specs.Character.{symbol, character}

-- a frame is finished: it is whole, or answered 5
unfoldable pub ends : Hearing → Bool
ends Drop = false
ends Hold = false
ends Restart = false
ends Empty = false
ends Line = false
ends Confirm = false
ends Frame = true
ends TooLong = true

-- the character engine finishes a frame at this byte
unfoldable pub finishes_at : Meter → ℕ → Bool
finishes_at m b = ends (hearing m.mode m.receiver.count (last_held m.receiver) (symbol b))

-- 17: nothing changed, nothing replied; the speed is the state's
abbrev pub no_frame : Meter → Outcome
no_frame m = silent 17 m

-- bytes given to k one after the other: what the last is answered, if a frame is finished there and every byte before it is answered 0; else 17 of the meter m
unfoldable pub at_the_last : Meter → Meter → ℕ → List ℕ → Outcome
at_the_last m k room [] = no_frame m
at_the_last m k room (b ∷ bs) =
    cond (eqb (length bs) 0) (cond (finishes_at k b) (character k room b) (no_frame m))
    (cond (eqb (character k room b).number 0) (at_the_last m (character k room b).next room bs) (no_frame m))

-- modes 2 to 4 with an empty receiver
unfoldable pub awaits : Meter → Bool
awaits m = leb 2 m.mode && eqb m.receiver.count 0

-- an undamaged SOH comes first
abbrev pub starts_anew : List ℕ → Bool
starts_anew bytes = eqb (symbol (get_or bytes 0 0)) SOH

-- what a well-formed meter with room for any reply makes of a slice
unfoldable pub frame_taken : Meter → ℕ → List ℕ → Outcome
frame_taken m room bytes = cond (awaits m && starts_anew bytes) (at_the_last m m room bytes) (no_frame m)

-- an edition that there is not gives 16, a reply buffer under 4,096 12, then a malformed state 14, then any other slice, mode or receiver 17
unfoldable pub frame_at : Meter → ℕ → List ℕ → Outcome
frame_at m room bytes = of_edition m (cond (ltb room reply_room) (unheard 12 m) (cond (well_formed m) (frame_taken m room bytes) (unheard 14 m)))
