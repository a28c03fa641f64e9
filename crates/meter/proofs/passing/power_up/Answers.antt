-- `meter::passing::power_up` meets its contract: heard, or the number of why not. Assumes nothing.
use Rattle.std.proofs.Common.{false, ap, ◌∙◌}
use Rattle.meter.specs.declared.Unheard.TheVariants.{NoRoom}
use Rattle.meter.specs.Outcomes.{answer_of}
use Rattle.meter.specs.Unheard.{number_of}
use Rattle.meter.specs.Events.{after_power_up, power_up}
use Rattle.meter.proofs.Heard.{heard, lost, fit}
use Rattle.meter.proofs.passing.power_up.Goals as goal

pub returns-in-None : goal.returns-in-None
unfolding power_up
returns-in-None c = c.power_up.ensures ∙ ap answer_of (heard c.args.m false NoRoom (after_power_up c.args.m) c.in-None.ensures)

pub returns-in-Some : goal.returns-in-Some
unfolding power_up
returns-in-Some c =
    rw (c.unheard_with.ensures, c.number.ensures) (ap answer_of (lost c.args.m false NoRoom (after_power_up c.args.m) c.in-Some.why c.in-Some.ensures))
