-- `meter::passing::pass_second` meets its contract: heard, or the number of why not. Assumes nothing.
use Rattle.std.proofs.Common.{false, ap, ◌∙◌}
use Rattle.meter.specs.declared.Unheard.TheVariants.{NoRoom}
use Rattle.meter.specs.Outcomes.{answer_of}
use Rattle.meter.specs.Unheard.{number_of}
use Rattle.meter.specs.Events.{after_tick, tick}
use Rattle.meter.proofs.Heard.{heard, lost, fit}
use Rattle.meter.proofs.passing.pass_second.Goals as goal

pub tick-requires : goal.tick-requires
tick-requires c = (fit c.args.m false NoRoom (after_tick c.args.m) c.in-None.ensures).0

pub returns-in-None : goal.returns-in-None
unfolding tick
returns-in-None c = c.tick.ensures ∙ ap answer_of (heard c.args.m false NoRoom (after_tick c.args.m) c.in-None.ensures)

pub returns-in-Some : goal.returns-in-Some
unfolding tick
returns-in-Some c =
    rw (c.unheard_with.ensures, c.number.ensures) (ap answer_of (lost c.args.m false NoRoom (after_tick c.args.m) c.in-Some.why c.in-Some.ensures))
