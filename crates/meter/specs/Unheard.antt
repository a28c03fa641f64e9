-- Why an event changes nothing: an edition that there is none of, what the event is refused for by itself, a state that is not well-formed.
use Rattle.std.specs.Prelude.{Bool, cond, ℕ, Option, Some, None, ltb}
use Rattle.values.specs.Edition.{is_edition}
use Rattle.state.specs.Sizes.{reply_room}
use Rattle.state.specs.declared.Meter.{Meter}
use Rattle.state.specs.WellFormed.{edition_of, well_formed}
use Rattle.meter.specs.declared.Unheard.{Unheard}
use Rattle.meter.specs.declared.Unheard.TheVariants.{NoEdition, NoRoom, BadPulse, NoEvent, BadState}
use Rattle.meter.specs.Outcomes.{Outcome, unheard, of_edition}

unfoldable pub number_of : Unheard → ℕ
number_of NoEdition = 16
number_of NoRoom = 12
number_of BadPulse = 13
number_of NoEvent = 99
number_of BadState = 14

-- an event that is refused by itself, or not
abbrev pub own_or : Option Unheard → Option Unheard → Option Unheard
own_or (Some w) other = Some w
own_or None other = other

unfoldable pub unheard_by : Meter → Option Unheard → Option Unheard
unheard_by m own = cond (is_edition (edition_of m)) (own_or own (cond (well_formed m) None (Some BadState))) (Some NoEdition)

abbrev pub short_of : ℕ → Option Unheard
short_of room = cond (ltb room reply_room) (Some NoRoom) None
