-- `meter::passing::refuses_pulse` meets its contract: the same tests, joined as the definition joins them. Assumes nothing.
use Rattle.meter.specs.Events.{pulse_refused}
use borrow.Author.Rules.{rules}
use Rattle.meter.proofs.passing.refuses_pulse.Goals as goal

pub returns : goal.returns
unfolding pulse_refused
returns c = rw c.is_eqm.ensures
