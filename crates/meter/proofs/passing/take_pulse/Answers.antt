-- `meter::passing::take_pulse` meets its contract: heard, or the number of why not. Assumes nothing.
use Rattle.std.proofs.Common.{◌≡◌, Bool, true, false, cond, Option, Some, None, refl, ap, ◌∙◌}
use Rattle.std.specs.Bool.{then_some}
use Rattle.state.specs.WellFormed.{family_of}
use Rattle.meter.specs.declared.Unheard.{Unheard}
use Rattle.meter.specs.declared.Unheard.TheVariants.{BadPulse}
use Rattle.meter.specs.Outcomes.{answer_of}
use Rattle.meter.specs.Unheard.{number_of, unheard_by}
use Rattle.meter.specs.Events.{pulse_refused, after_pulse, pulse}
use Rattle.meter.proofs.Tests.{few-units}
use Rattle.meter.proofs.Heard.{heard, lost, fit}
use Rattle.meter.proofs.passing.take_pulse.Goals as goal

either : (b : Bool) (w : Unheard) → then_some b w ≡ cond b (Some w) None
either true w = refl
either false w = refl

pub pulse-requires : goal.pulse-requires
pulse-requires c =
    let a = c.args in
    let test = pulse_refused (family_of a.m) a.out a.units in
    let h = rw (c.then_some-own.ensures, c.refuses_pulse.ensures, c.family_of.ensures, either test BadPulse) at c.in-None.ensures in
    let known = fit a.m test BadPulse (after_pulse a.m a.out a.units) h in
    (known.0, few-units _ a.out a.units known.1)

pub returns-in-None : goal.returns-in-None
unfolding pulse number_of
returns-in-None c =
    let a = c.args in
    let test = pulse_refused (family_of a.m) a.out a.units in
    let h = rw (c.then_some-own.ensures, c.refuses_pulse.ensures, c.family_of.ensures, either test BadPulse) at c.in-None.ensures in
    c.pulse.ensures ∙ ap answer_of (heard a.m test BadPulse (after_pulse a.m a.out a.units) h)

pub returns-in-Some : goal.returns-in-Some
unfolding pulse number_of
returns-in-Some c =
    let a = c.args in
    let test = pulse_refused (family_of a.m) a.out a.units in
    let h = rw (c.then_some-own.ensures, c.refuses_pulse.ensures, c.family_of.ensures, either test BadPulse) at c.in-Some.ensures in
    rw (c.unheard_with.ensures, c.number.ensures) (ap answer_of (lost a.m test BadPulse (after_pulse a.m a.out a.units) c.in-Some.why h))
