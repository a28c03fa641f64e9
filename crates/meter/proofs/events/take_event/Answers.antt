-- `meter::events::take_event` meets its contract: each way out is the case of the definition that its tests name. Assumes nothing.
use Rattle.text.specs.Writing.{holding}
use Rattle.meter.specs.Life.{happened}
use Rattle.meter.proofs.Tests.{character-room, silence-room, pulse-small, pulse-out-small}
use borrow.Author.Rules.{rules}
use Rattle.meter.proofs.events.take_event.Goals as goal

pub take-requires : goal.take-requires
take-requires c = let known = c.requires in (known.0, character-room _ _ _ _ c.in-Character.is known.1)

pub silence-requires : goal.silence-requires
silence-requires c = let known = c.requires in (known.0, silence-room _ _ _ c.in-Silence.is known.1)

pub tick-requires : goal.tick-requires
tick-requires c = c.requires.0

pub pulse-requires : goal.pulse-requires
pulse-requires c = let known = c.requires in (known.0, pulse-small _ _ _ _ c.in-Pulse.is known.1)

pub pulse-requires-in-PulseOut : goal.pulse-requires-in-PulseOut
pulse-requires-in-PulseOut c = let known = c.requires in (known.0, pulse-out-small _ _ _ _ c.in-PulseOut.is known.1)

pub returns-in-Character : goal.returns-in-Character
unfolding happened holding
returns-in-Character c = record { result = rw (c.in-Character.is, c.take.ensures.result); held = rw c.in-Character.is c.take.ensures.held }

pub returns-in-Silence : goal.returns-in-Silence
unfolding happened holding
returns-in-Silence c = record { result = rw (c.in-Silence.is, c.silence.ensures.result); held = rw c.in-Silence.is c.silence.ensures.held }

pub returns-in-Tick : goal.returns-in-Tick
unfolding happened holding
returns-in-Tick c = record { result = rw (c.in-Tick.is, c.tick.ensures); held = rw c.in-Tick.is }

pub returns-in-Pulse : goal.returns-in-Pulse
unfolding happened holding
returns-in-Pulse c = record { result = rw (c.in-Pulse.is, c.pulse.ensures); held = rw c.in-Pulse.is }

pub returns-in-PowerUp : goal.returns-in-PowerUp
unfolding happened holding
returns-in-PowerUp c = record { result = rw (c.in-PowerUp.is, c.power_up.ensures); held = rw c.in-PowerUp.is }

pub returns-in-PulseOut : goal.returns-in-PulseOut
unfolding happened holding
returns-in-PulseOut c = record { result = rw (c.in-PulseOut.is, c.pulse-in-PulseOut.ensures); held = rw c.in-PulseOut.is }

pub returns-in-Unknown : goal.returns-in-Unknown
unfolding happened holding
returns-in-Unknown c = record { result = rw (c.in-Unknown.is, c.unheard_with.ensures); held = rw c.in-Unknown.is }
