-- `settling::hear_or_leave` meets its contract: each way out is the case of the definition that its test names. Assumes nothing.
use Rattle.std.proofs.Common.{◌≡◌, ℕ, List, None, refl}
use Rattle.meter.specs.declared.Event.{Event}
use Rattle.meter.specs.declared.Event.TheVariants.{Character, Silence, Tick, Pulse, PowerUp, PulseOut, Unknown}
use Rattle.settling.specs.declared.Seen.{Seen}
use Rattle.settling.specs.Settling.{ends, pulse_of, heard_of}
use Rattle.settling.proofs.hear_or_leave.Goals as goal

left : (s : Seen) (held tables : List ℕ) (e : Event) → pulse_of e ≡ None → ((x : ℕ) → e ≡ Character x → ⊥) → (e ≡ Tick → ⊥) → ends s ≡ heard_of s held tables e
unfolding pulse_of heard_of
left s held tables (Character b) none c t = absurd (c b refl)
left s held tables Silence none c t = refl
left s held tables Tick none c t = absurd (t refl)
left s held tables (Pulse units) none c t = cc
left s held tables PowerUp none c t = refl
left s held tables (PulseOut units) none c t = cc
left s held tables Unknown none c t = refl

pub returns-in-Character : goal.returns-in-Character
unfolding heard_of
returns-in-Character c = λ tables. rw c.in-Character.is c.hear.ensures

pub returns-in-Tick : goal.returns-in-Tick
unfolding heard_of
returns-in-Tick c = λ tables. rw c.in-Tick.is c.tick.ensures

pub returns-in_default : goal.returns-in_default
returns-in_default c = λ tables. left c.args.s c.args.held.now tables c.args.e c.requires c.in_default.not-Character c.in_default.not-Tick
