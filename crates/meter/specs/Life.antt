-- What can happen to a meter, and its life: one event after another, each upon the state that the one before it left.
use Rattle.std.specs.Prelude.{true, false, cond, List, [], ◌∷◌, ℕ, eqb, leb, ltb}
use Rattle.state.specs.Sizes.{reply_room}
use Rattle.state.specs.declared.Meter.{Meter}
use Rattle.meter.specs.declared.Event.{Event}
use Rattle.meter.specs.declared.Event.TheVariants.{Character, Silence, Tick, Pulse, PowerUp, PulseOut, Unknown}
use Rattle.meter.specs.Outcomes.{Outcome, unheard, of_edition}
use Rattle.meter.specs.Character.{taken, character}
use Rattle.meter.specs.Events.{after_silence, after_tick, after_pulse, after_power_up, pulse_refused, silence, tick, pulse, power_up}

-- as a number and a value: 0 a character, 1 silence, 2 a tick, 3 a pulse in, 4 power-up, 5 a pulse out; all else is no event
unfoldable pub event_of : ℕ → ℕ → Event
event_of kind value =
    cond (eqb kind 0) (cond (leb value 255) (Character value) Unknown)
    (cond (eqb kind 1) Silence
    (cond (eqb kind 2) Tick
    (cond (eqb kind 3) (Pulse value)
    (cond (eqb kind 4) PowerUp
    (cond (eqb kind 5) (PulseOut value) Unknown)))))

-- with so much room for a reply, where the event has one; no such event: 99, and nothing changed
unfoldable pub met : Meter → ℕ → Event → Outcome
met m room (Character b) = character m room b
met m room Silence = silence m room
met m room Tick = tick m
met m room (Pulse units) = pulse m false units
met m room PowerUp = power_up m
met m room (PulseOut units) = pulse m true units
met m room Unknown = of_edition m (unheard 99 m)

-- the number that refuses an event of a family's meters whatever the rest of the state, or 0: 99; 13 for a pulse over 1,000,000, or one out where nothing counts it;
-- 12 for a reply buffer under 4,096
unfoldable pub refusal : ℕ → ℕ → Event → ℕ
refusal family room (Character b) = cond (ltb room reply_room) 12 0
refusal family room Silence = cond (ltb room reply_room) 12 0
refusal family room Tick = 0
refusal family room (Pulse units) = cond (pulse_refused family false units) 13 0
refusal family room PowerUp = 0
refusal family room (PulseOut units) = cond (pulse_refused family true units) 13 0
refusal family room Unknown = 99

-- what an event that nothing refuses does to a well-formed meter
unfoldable pub happened : Meter → Event → Outcome
happened m (Character b) = taken m b
happened m Silence = after_silence m
happened m Tick = after_tick m
happened m (Pulse units) = after_pulse m false units
happened m PowerUp = after_power_up m
happened m (PulseOut units) = after_pulse m true units
happened m Unknown = unheard 99 m

-- events, each with its room
unfoldable pub lived : Meter → List (ℕ × Event) → Meter
lived m [] = m
lived m ((room, e) ∷ es) = lived (met m room e).next es
