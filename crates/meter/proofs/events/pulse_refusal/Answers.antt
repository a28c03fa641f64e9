-- `meter::events::pulse_refusal` meets its contract: each way out is the case of the definition that its tests name. Assumes nothing.
use borrow.Author.Rules.{rules}
use Rattle.meter.proofs.events.pulse_refusal.Goals as goal

pub returns-then-refuses_pulse : goal.returns-then-refuses_pulse
returns-then-refuses_pulse c = rw (← c.refuses_pulse.ensures, c.if-refuses_pulse.true)

pub returns-else-refuses_pulse : goal.returns-else-refuses_pulse
returns-else-refuses_pulse c = rw (← c.refuses_pulse.ensures, c.if-refuses_pulse.false)
