-- `settling::pulse_of` meets its contract: each way out is the case of the definition that its test names. Assumes nothing.
use Rattle.std.proofs.Common.{◌≡◌, ℕ, None, refl}
use Rattle.meter.specs.declared.Event.{Event}
use Rattle.meter.specs.declared.Event.TheVariants.{Character, Silence, Tick, Pulse, PowerUp, PulseOut, Unknown}
use Rattle.settling.specs.Settling.{pulse_of}
use Rattle.settling.proofs.pulse_of.Goals as goal

no_pulse : (e : Event) → ((x : ℕ) → e ≡ Pulse x → ⊥) → ((x : ℕ) → e ≡ PulseOut x → ⊥) → None ≡ pulse_of e
unfolding pulse_of
no_pulse (Character b) a o = refl
no_pulse Silence a o = refl
no_pulse Tick a o = refl
no_pulse (Pulse units) a o = absurd (a units refl)
no_pulse PowerUp a o = refl
no_pulse (PulseOut units) a o = absurd (o units refl)
no_pulse Unknown a o = refl

pub returns-in-Pulse : goal.returns-in-Pulse
unfolding pulse_of
returns-in-Pulse c = rw c.in-Pulse.is

pub returns-in-PulseOut : goal.returns-in-PulseOut
unfolding pulse_of
returns-in-PulseOut c = rw c.in-PulseOut.is

pub returns-in_default : goal.returns-in_default
returns-in_default c = no_pulse c.args.e c.in_default.not-Pulse c.in_default.not-PulseOut
