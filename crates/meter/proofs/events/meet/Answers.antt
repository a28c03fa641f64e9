-- `meter::events::meet` meets its contract: each way out is the case of the definition that its tests name. Assumes nothing.
use Rattle.text.specs.Writing.{holding}
use Rattle.meter.specs.Life.{met}
use Rattle.meter.proofs.Tests.{tick-quiet, pulse-quiet, power-up-quiet, unknown-quiet}
use borrow.Author.Rules.{rules}
use Rattle.meter.proofs.events.meet.Goals as goal

pub returns-in-Character : goal.returns-in-Character
unfolding met holding
returns-in-Character c = record { result = rw (c.in-Character.is, c.receive.ensures.result); held = rw c.in-Character.is c.receive.ensures.held }

pub returns-in-Silence : goal.returns-in-Silence
unfolding met holding
returns-in-Silence c = record { result = rw (c.in-Silence.is, c.hear_nothing.ensures.result); held = rw c.in-Silence.is c.hear_nothing.ensures.held }

pub returns-in-Tick : goal.returns-in-Tick
unfolding met holding
returns-in-Tick c = record { result = rw (c.in-Tick.is, c.pass_second.ensures); held = rw (c.in-Tick.is, tick-quiet c.args.m) }

pub returns-in-Pulse : goal.returns-in-Pulse
unfolding met holding
returns-in-Pulse c = record { result = rw (c.in-Pulse.is, c.take_pulse.ensures); held = rw (c.in-Pulse.is, pulse-quiet c.args.m _ _) }

pub returns-in-PowerUp : goal.returns-in-PowerUp
unfolding met holding
returns-in-PowerUp c = record { result = rw (c.in-PowerUp.is, c.power_up.ensures); held = rw (c.in-PowerUp.is, power-up-quiet c.args.m) }

pub returns-in-PulseOut : goal.returns-in-PulseOut
unfolding met holding
returns-in-PulseOut c = record { result = rw (c.in-PulseOut.is, c.take_pulse-in-PulseOut.ensures); held = rw (c.in-PulseOut.is, pulse-quiet c.args.m _ _) }

pub returns-in-Unknown : goal.returns-in-Unknown
unfolding met holding
returns-in-Unknown c = record { result = rw (c.in-Unknown.is, c.unknown.ensures); held = rw (c.in-Unknown.is, unknown-quiet c.args.m) }
