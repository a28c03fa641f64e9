-- A meter that was made is well-formed all its life, and no event of it gives 14. Assumes nothing.
use mathlib.Core.Path.{◌≡◌}
use mathlib.Core.Bool.{true, false}
use mathlib.Core.List.{List, [], ◌∷◌}
use Prim.Native.Nat.{ℕ}
use native.Mathlib.Omega.{arith}
use Rattle.clock.specs.declared.Clock.{Clock}
use Rattle.values.specs.Edition.{is_edition}
use Rattle.state.specs.declared.Meter.{Meter}
use Rattle.state.specs.WellFormed.{well_formed, edition_of}
use Rattle.state.specs.declared.Facts.{Facts}
use Rattle.state.specs.Making.{Made, made_of}
use Rattle.meter.specs.Outcomes.{Outcome}
use Rattle.meter.specs.declared.Event.{Event}
use Rattle.meter.specs.declared.Event.TheVariants.{Character, Silence, Tick, Pulse, PowerUp, PulseOut, Unknown}
use Rattle.meter.specs.Life.{met, lived}
use Rattle.promises.proofs.Malformed.{character-never-14, silence-never-14, tick-never-14, pulse-never-14, power-up-never-14}
use Rattle.promises.proofs.Formed.{character-stays, silence-stays, tick-stays, pulse-stays, power-up-stays}
use Rattle.promises.proofs.Choices as choice
use Rattle.promises.proofs.Beginning.{made-well-formed}

pub met-stays : (m : Meter) (room : ℕ) (e : Event) → well_formed m ≡ true → well_formed (met m room e).next ≡ true
unfolding met
met-stays m room (Character b) h = character-stays m h room b
met-stays m room Silence h = silence-stays m h room
met-stays m room Tick h = tick-stays m h
met-stays m room (Pulse units) h = pulse-stays m h false units
met-stays m room PowerUp h = power-up-stays m h
met-stays m room (PulseOut units) h = pulse-stays m h true units
met-stays m room Unknown h = choice.either (λ (o : Outcome). well_formed o.next ≡ true) (is_edition (edition_of m)) h h

met-never-14 : (m : Meter) (room : ℕ) (e : Event) → well_formed m ≡ true → (met m room e).number ≡ 14 → ⊥
unfolding met
met-never-14 m room (Character b) h = character-never-14 m room b h
met-never-14 m room Silence h = silence-never-14 m room h
met-never-14 m room Tick h = tick-never-14 m h
met-never-14 m room (Pulse units) h = pulse-never-14 m false units h
met-never-14 m room PowerUp h = power-up-never-14 m h
met-never-14 m room (PulseOut units) h = pulse-never-14 m true units h
met-never-14 m room Unknown h = choice.either (λ (o : Outcome). o.number ≡ 14 → ⊥) (is_edition (edition_of m)) (λ e. omega (arith, e)) (λ e. omega (arith, e))

pub lived-stays : (m : Meter) (es : List (ℕ × Event)) → well_formed m ≡ true → well_formed (lived m es) ≡ true
unfolding lived
lived-stays m [] h = h
lived-stays m ((room, e) ∷ es) h = lived-stays (met m room e).next es (met-stays m room e h)

module _ (facts : Facts) (account : List ℕ) (clock : Clock) (es : List (ℕ × Event)) where
  pub made-lives : well_formed (lived (made_of facts account clock).meter es) ≡ true
  made-lives = lived-stays (made_of facts account clock).meter es (made-well-formed facts account clock)

  pub made-never-14 : (room : ℕ) (e : Event) → (met (lived (made_of facts account clock).meter es) room e).number ≡ 14 → ⊥
  made-never-14 room e = met-never-14 (lived (made_of facts account clock).meter es) room e made-lives
