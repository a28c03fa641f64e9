-- `reporting::new_meter` meets its contract: the meter of what was made. Assumes nothing.
use Rattle.std.proofs.Common.{sym, ap, ◌∙◌}
use Rattle.state.specs.Making.{Made, told}
use Rattle.reporting.proofs.new_meter.Goals as goal

pub returns-in-Ok : goal.returns-in-Ok
unfolding told
returns-in-Ok c = ap (λ (m : Made). m.meter) c.in-Ok.ensures

pub returns-in-Err : goal.returns-in-Err
unfolding told
returns-in-Err c = c.blank.ensures ∙ ap (λ (m : Made). m.meter) c.in-Err.ensures
