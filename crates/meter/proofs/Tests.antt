-- The tests of an event, in their order: the edition, what refuses it whatever the state, then a malformed state; and what an event has that passed the first. Assumes nothing.
use mathlib.Core.Path.{◌≡◌, refl, sym, ap, ◌∙◌}
use mathlib.Core.Bool.{Bool, true, false, cond, not, ◌&&◌, ◌||◌}
use mathlib.Core.List.{[]}
use Prim.Native.Nat.{ℕ, ◌≤◌}
use native.Mathlib.Omega.{arith}
use lib.Dec.{eqb, ltb}
use borrow.Author.Tests.{ltb-false}
use Rattle.values.specs.Edition.{is_edition}
use Rattle.values.specs.Family.{is_eqm}
use Rattle.state.specs.Sizes.{reply_room}
use Rattle.state.specs.declared.Meter.{Meter}
use Rattle.state.specs.WellFormed.{edition_of, family_of, well_formed}
use Rattle.meter.specs.declared.Event.{Event}
use Rattle.meter.specs.declared.Event.TheVariants.{Character, Silence, Tick, Pulse, PowerUp, PulseOut, Unknown}
use Rattle.meter.specs.Outcomes.{Outcome, silent, unheard, of_edition}
use Rattle.meter.specs.Character.{character}
use Rattle.meter.specs.Events.{after_tick, after_pulse, after_power_up, pulse_refused, silence, tick, pulse, power_up}
use Rattle.meter.specs.Life.{met, refusal, happened}

-- 99, 13 or 12, then 14
abbrev in_order : Meter → ℕ → Outcome → Outcome
in_order m number o = cond (eqb number 0) (cond (well_formed m) o (unheard 14 m)) (unheard number m)

tested-12 : (m : Meter) (p : Bool) (o : Outcome) → cond p (unheard 12 m) (cond (well_formed m) o (unheard 14 m)) ≡ in_order m (cond p 12 0) o
tested-12 m true o = refl
tested-12 m false o = refl

tested-13 : (m : Meter) (p : Bool) (o : Outcome) → cond p (unheard 13 m) (cond (well_formed m) o (unheard 14 m)) ≡ in_order m (cond p 13 0) o
tested-13 m true o = refl
tested-13 m false o = refl

pub met-in-order : (m : Meter) (room : ℕ) (e : Event) → met m room e ≡ of_edition m (in_order m (refusal (family_of m) room e) (happened m e))
unfolding met refusal happened character silence tick pulse power_up
met-in-order m room (Character b) = ap (of_edition m) (tested-12 m (ltb room reply_room) _)
met-in-order m room Silence = ap (of_edition m) (tested-12 m (ltb room reply_room) _)
met-in-order m room Tick = refl
met-in-order m room (Pulse units) = ap (of_edition m) (tested-13 m (pulse_refused (family_of m) false units) _)
met-in-order m room PowerUp = refl
met-in-order m room (PulseOut units) = ap (of_edition m) (tested-13 m (pulse_refused (family_of m) true units) _)
met-in-order m room Unknown = refl

-- a test whose number did not come
passed-12 : (p : Bool) → ◌≡◌ {A = ℕ} (cond p 12 0) 0 → p ≡ false
passed-12 true e = absurd (omega (arith, e))
passed-12 false e = refl

passed-13 : (p : Bool) → ◌≡◌ {A = ℕ} (cond p 13 0) 0 → p ≡ false
passed-13 true e = absurd (omega (arith, e))
passed-13 false e = refl

-- room for a reply, and a pulse that may be counted
pub character-room : (family room : ℕ) (e : Event) (b : ℕ) → e ≡ Character b → refusal family room e ≡ 0 → reply_room ≤ room
unfolding refusal
character-room family room e b is none = ltb-false room reply_room (passed-12 (ltb room reply_room) (sym (ap (refusal family room) is) ∙ none))

pub silence-room : (family room : ℕ) (e : Event) → e ≡ Silence → refusal family room e ≡ 0 → reply_room ≤ room
unfolding refusal
silence-room family room e is none = ltb-false room reply_room (passed-12 (ltb room reply_room) (sym (ap (refusal family room) is) ∙ none))

pub few-units : (family : ℕ) (out : Bool) (units : ℕ) → pulse_refused family out units ≡ false → units ≤ 1000000
unfolding pulse_refused
few-units family out units h = ltb-false 1000000 units (or_right (out && not (is_eqm family)) (ltb 1000000 units) h)
  where
    or_right : (p q : Bool) → (p || q) ≡ false → q ≡ false
    or_right true q e = absurd (let z : ◌≡◌ {A = ℕ} 0 1 = cc in omega arith)
    or_right false q e = e

pub pulse-small : (family room : ℕ) (e : Event) (units : ℕ) → e ≡ Pulse units → refusal family room e ≡ 0 → units ≤ 1000000
unfolding refusal
pulse-small family room e units is none =
    few-units family false units (passed-13 (pulse_refused family false units) (sym (ap (refusal family room) is) ∙ none))

pub pulse-out-small : (family room : ℕ) (e : Event) (units : ℕ) → e ≡ PulseOut units → refusal family room e ≡ 0 → units ≤ 1000000
unfolding refusal
pulse-out-small family room e units is none =
    few-units family true units (passed-13 (pulse_refused family true units) (sym (ap (refusal family room) is) ∙ none))

-- what passes has no reply, taken or refused
quiet : (m : Meter) (e p q : Bool) (number : ℕ) (next : Meter)
    → (cond e (cond p (unheard number m) (cond q (silent 1 next) (unheard 14 m))) (unheard 16 m)).reply ≡ []
quiet m false p q number next = refl
quiet m true true q number next = refl
quiet m true false true number next = refl
quiet m true false false number next = refl

pub tick-quiet : (m : Meter) → (tick m).reply ≡ []
unfolding tick
tick-quiet m = quiet m (is_edition (edition_of m)) false (well_formed m) 0 (after_tick m).next

pub pulse-quiet : (m : Meter) (out : Bool) (units : ℕ) → (pulse m out units).reply ≡ []
unfolding pulse
pulse-quiet m out units = quiet m (is_edition (edition_of m)) (pulse_refused (family_of m) out units) (well_formed m) 13 (after_pulse m out units).next

pub power-up-quiet : (m : Meter) → (power_up m).reply ≡ []
unfolding power_up
power-up-quiet m = quiet m (is_edition (edition_of m)) false (well_formed m) 0 (after_power_up m).next

pub unknown-quiet : (m : Meter) → (of_edition m (unheard 99 m)).reply ≡ []
unknown-quiet m = go (is_edition (edition_of m))
  where
    go : (e : Bool) → (cond e (unheard 99 m) (unheard 16 m)).reply ≡ []
    go true = refl
    go false = refl
