-- What is settled is all that the event does; what is left meets a well-formed meter, nothing else refuses it, and it comes of its deed. Assumes nothing.
use mathlib.Core.Path.{◌≡◌, refl, ◌∙◌}
use mathlib.Core.Bool.{Bool, true, false, cond}
use Rattle.std.specs.Prelude.{MatchOption}
use mathlib.Core.List.{List}
use Prim.Native.Nat.{ℕ, ◌≤◌}
use native.Mathlib.Omega.{arith}
use lib.Dec.{eqb}
use borrow.Author.Tests.{eqb-true, eq-eqb}
use Rattle.line.specs.Characters.{damaged_at}
use Rattle.values.specs.Edition.{is_edition}
use Rattle.clock.specs.declared.Clock.{Clock}
use Rattle.clock.specs.Seconds.{next_second}
use Rattle.tariff.specs.Zones.{zone_in}
use Rattle.meter.proofs.Known.{counters-good, exported-good, month-low}
use Rattle.state.specs.declared.Meter.{Meter}
use Rattle.state.specs.Setting.{with_registers, with_clock}
use Rattle.state.specs.Closing.{closing}
use Rattle.tariff.specs.Months.{month_starts, month_closed}
use Rattle.state.specs.WellFormed.{edition_of, family_of, well_formed}
use Rattle.receiving.specs.declared.Hearing.{Hearing}
use Rattle.receiving.specs.declared.Hearing.TheVariants.{Drop, Hold, Restart, Empty, Line, Confirm, Frame, TooLong}
use Rattle.receiving.specs.Hearing.{hearing}
use Rattle.receiving.specs.Receivers.{last_held, held_after}
use Rattle.meter.specs.Outcomes.{Outcome, silent, unheard}
use Rattle.meter.specs.Deeds.{standing_of, month_started, acts, heard_deed, character_deed, left_deed, done}
use Rattle.meter.specs.Events.{after_tick, after_pulse}
use Rattle.meter.specs.Character.{symbol, heard, taken}
use Rattle.meter.specs.declared.Event.{Event}
use Rattle.meter.specs.declared.Event.TheVariants.{Character, Silence, Tick, Pulse, PowerUp, PulseOut, Unknown}
use Rattle.meter.specs.Life.{met, refusal, happened}
use Rattle.meter.proofs.Tests.{met-in-order, pulse-small, pulse-out-small}
use Rattle.meter.proofs.Done.{heard-done, silence-done, start-done, month-done}
use Rattle.settling.specs.declared.Seen.{Seen}
use Rattle.settling.specs.declared.Energy.{Energy}
use Rattle.settling.specs.Acting.{deed_of}
use Rattle.settling.specs.Settling.{Time, Heard, seen_in, ends, refuses, moves_on, heard_as, heard_by, ticked_by, pulsed_by, pulse_of, heard_of, settles_by, settles, clock_after, counters_after, exported_after, settled_meter, settled_in, settled_outcome, Countable, Passes}

heard-settled : (m : Meter) (c : ℕ) (damaged : Bool) (h : Hearing) → (heard_as (seen_in m) c damaged h).settled ≡ true → heard m c damaged h ≡ settled_outcome m (heard_as (seen_in m) c damaged h)
unfolding heard_as heard held_after clock_after counters_after exported_after
heard-settled m c damaged Drop e = refl
heard-settled m c damaged Hold e = refl
heard-settled m c damaged Restart e = refl
heard-settled m c damaged Empty e = refl
heard-settled m c damaged Line e = absurd (let z : ◌≡◌ {A = ℕ} 0 1 = cc in omega arith)
heard-settled m c damaged Confirm e = absurd (let z : ◌≡◌ {A = ℕ} 0 1 = cc in omega arith)
heard-settled m c damaged Frame e = absurd (let z : ◌≡◌ {A = ℕ} 0 1 = cc in omega arith)
heard-settled m c damaged TooLong e = absurd (let z : ◌≡◌ {A = ℕ} 0 1 = cc in omega arith)

tick-settled : (m : Meter) → (ticked_by (seen_in m)).settled ≡ true → after_tick m ≡ settled_outcome m (ticked_by (seen_in m))
unfolding ticked_by month_closed held_after clock_after counters_after exported_after
tick-settled m = go (month_starts next)
  where
    next : Clock
    next = next_second m.registers.clock

    went : Bool → Heard
    went b = cond b (ends (seen_in m)) (moves_on (seen_in m) (Time next) m.registers.counters)

    go : (b : Bool) → (went b).settled ≡ true → silent 1 (with_registers m (cond b (closing (with_clock m.registers next)) (with_clock m.registers next))) ≡ settled_outcome m (went b)
    go true s = absurd (let z : ◌≡◌ {A = ℕ} 0 1 = cc in omega arith)
    go false s = refl

pulse-settled : (m : Meter) (out : Bool) (units : ℕ) → after_pulse m out units ≡ settled_outcome m (pulsed_by (seen_in m) m.registers.tables out units)
unfolding pulsed_by held_after clock_after counters_after exported_after zone_in
pulse-settled m true units = refl
pulse-settled m false units = refl

-- what is heard of an event by a meter that is well-formed
heard_in : Meter → Event → Heard
heard_in m e = heard_of (seen_in m) m.receiver.held m.registers.tables e

event-settled : (m : Meter) (e : Event) → (heard_in m e).settled ≡ true → happened m e ≡ settled_outcome m (heard_in m e)
unfolding heard_in heard_of heard_by happened taken
event-settled m (Character b) s = heard-settled m (symbol b) (damaged_at b) (hearing m.mode m.receiver.count (last_held m.receiver) (symbol b)) s
event-settled m Silence s = absurd (let z : ◌≡◌ {A = ℕ} 0 1 = cc in omega arith)
event-settled m Tick s = tick-settled m s
event-settled m (Pulse units) s = pulse-settled m false units
event-settled m PowerUp s = absurd (let z : ◌≡◌ {A = ℕ} 0 1 = cc in omega arith)
event-settled m (PulseOut units) s = pulse-settled m true units
event-settled m Unknown s = absurd (let z : ◌≡◌ {A = ℕ} 0 1 = cc in omega arith)

-- a pulse is heard as what it says, and is small where nothing refuses it
pub pulse-told : (s : Seen) (held tables : List ℕ) (family room : ℕ) (e : Event) → refusal family room e ≡ 0
    → MatchOption (pulse_of e) (Unit {0}) (λ (p : Energy). (pulsed_by s tables p.out p.units ≡ heard_of s held tables e) × (p.units ≤ 1000000))
unfolding pulse_of heard_of
pulse-told s held tables family room (Character b) h = tt
pulse-told s held tables family room Silence h = tt
pulse-told s held tables family room Tick h = tt
pulse-told s held tables family room (Pulse units) h = (refl, pulse-small family room (Pulse units) units refl h)
pulse-told s held tables family room PowerUp h = tt
pulse-told s held tables family room (PulseOut units) h = (refl, pulse-out-small family room (PulseOut units) units refl h)
pulse-told s held tables family room Unknown h = tt

-- an event that passes is heard
pub passed : (s : Seen) (formed : Bool) (held tables : List ℕ) (room : ℕ) (e : Event) → Passes s formed room e → settles_by s formed held tables room e ≡ heard_of s held tables e
unfolding settles_by
passed s formed held tables room e p = rw (p.edition, eq-eqb (refusal s.family room e) 0 p.unrefused, p.well)

-- a well-formed meter's pulse can be counted
pub countable : (m : Meter) → well_formed m ≡ true → Countable (seen_in m)
countable m h = (month-low m h, (counters-good m h, exported-good m h))

pub settled_is : (m : Meter) (room : ℕ) (e : Event) → (settles m room e).settled ≡ true → met m room e ≡ settled_outcome m (settles m room e)
unfolding settles_by held_after clock_after counters_after exported_after heard_in
settled_is m room e s = met-in-order m room e ∙ go (is_edition (edition_of m)) (refusal (family_of m) room e) (eqb (refusal (family_of m) room e) 0) (well_formed m) (happened m e) (heard_in m e) (event-settled m e) s
  where
    not : ℕ → Heard
    not n = refuses (seen_in m) n

    go : (k : Bool) (n : ℕ) (p q : Bool) (o : Outcome) (h : Heard) → (h.settled ≡ true → o ≡ settled_outcome m h)
        → (cond k (cond p (cond q h (not 14)) (not n)) (not 16)).settled ≡ true
        → cond k (cond p (cond q o (unheard 14 m)) (unheard n m)) (unheard 16 m)
        ≡ settled_outcome m (cond k (cond p (cond q h (not 14)) (not n)) (not 16))
    go false n p q o h f s = refl
    go true n true true o h f s = f s
    go true n true false o h f s = refl
    go true n false q o h f s = refl

-- a character and a refusal leave clock and counters as they were, a second and a pulse the receiver: so what is stored of them is all
Apart : Meter → Heard → Type 0
Apart m h = settled_meter m h ≡ settled_in m h

heard-apart : (m : Meter) (c : ℕ) (damaged : Bool) (h : Hearing) → Apart m (heard_as (seen_in m) c damaged h)
unfolding Apart heard_as held_after clock_after counters_after exported_after
heard-apart m c damaged Drop = refl
heard-apart m c damaged Hold = refl
heard-apart m c damaged Restart = refl
heard-apart m c damaged Empty = refl
heard-apart m c damaged Line = refl
heard-apart m c damaged Confirm = refl
heard-apart m c damaged Frame = refl
heard-apart m c damaged TooLong = refl

tick-apart : (m : Meter) → Apart m (ticked_by (seen_in m))
unfolding Apart ticked_by held_after clock_after counters_after exported_after
tick-apart m = go (month_starts (next_second m.registers.clock))
  where
    went : Bool → Heard
    went b = cond b (ends (seen_in m)) (moves_on (seen_in m) (Time (next_second m.registers.clock)) m.registers.counters)

    go : (b : Bool) → settled_meter m (went b) ≡ settled_in m (went b)
    go true = refl
    go false = refl

pulse-apart : (m : Meter) (out : Bool) (units : ℕ) → Apart m (pulsed_by (seen_in m) m.registers.tables out units)
unfolding Apart pulsed_by held_after clock_after counters_after exported_after
pulse-apart m true units = refl
pulse-apart m false units = refl

event-apart : (m : Meter) (e : Event) → Apart m (heard_in m e)
unfolding Apart heard_in heard_of heard_by held_after clock_after counters_after exported_after
event-apart m (Character b) = heard-apart m (symbol b) (damaged_at b) (hearing m.mode m.receiver.count (last_held m.receiver) (symbol b))
event-apart m Silence = refl
event-apart m Tick = tick-apart m
event-apart m (Pulse units) = pulse-apart m false units
event-apart m PowerUp = refl
event-apart m (PulseOut units) = pulse-apart m true units
event-apart m Unknown = refl

pub settled-apart : (m : Meter) (room : ℕ) (e : Event) → settled_meter m (settles m room e) ≡ settled_in m (settles m room e)
unfolding Apart settles_by held_after clock_after counters_after exported_after heard_in
settled-apart m room e = go (is_edition (edition_of m)) (refusal (family_of m) room e) (eqb (refusal (family_of m) room e) 0) (well_formed m) (heard_in m e) (event-apart m e)
  where
    not : ℕ → Heard
    not n = refuses (seen_in m) n

    same : (b : Bool) → m ≡ cond b m m
    same true = refl
    same false = refl

    go : (k : Bool) (n : ℕ) (p q : Bool) (h : Heard) → Apart m h → Apart m (cond k (cond p (cond q h (not 14)) (not n)) (not 16))
    go false n p q h f = refl
    go true n true true h f = f
    go true n true false h f = refl
    go true n false q h f = same (eqb n 1)

-- nothing of what is refused is stored
pub refused-stands : (m : Meter) (n : ℕ) → m ≡ settled_in m (refuses (seen_in m) n)
unfolding held_after clock_after counters_after exported_after
refused-stands m n = go (eqb n 1)
  where
    go : (b : Bool) → m ≡ cond b m m
    go true = refl
    go false = refl

-- what the meter has to act on
pub record Left (m : Meter) (room : ℕ) (e : Event) : Type 0 where
  pub formed : well_formed m ≡ true
  pub unrefused : refusal (family_of m) room e ≡ 0
  pub all : met m room e ≡ happened m e

pub left_is : (m : Meter) (room : ℕ) (e : Event) → (settles m room e).settled ≡ false → Left m room e
unfolding settles_by
left_is m room e = go (is_edition (edition_of m)) refl (eqb (refusal (family_of m) room e) 0) refl (well_formed m) refl (heard_of (seen_in m) m.receiver.held m.registers.tables e)
  where
    not : ℕ → Heard
    not n = refuses (seen_in m) n

    go : (k : Bool) → is_edition (edition_of m) ≡ k → (p : Bool) → eqb (refusal (family_of m) room e) 0 ≡ p → (q : Bool) → well_formed m ≡ q → (h : Heard)
        → (cond k (cond p (cond q h (not 14)) (not (refusal (family_of m) room e))) (not 16)).settled ≡ false
        → Left m room e
    go false o p a q w h s = absurd (let z : ◌≡◌ {A = ℕ} 0 1 = cc in omega arith)
    go true o true a true w h s = record { formed = w; unrefused = eqb-true (refusal (family_of m) room e) 0 a; all = met-in-order m room e ∙ rw (o, a, w) }
    go true o true a false w h s = absurd (let z : ◌≡◌ {A = ℕ} 0 1 = cc in omega arith)
    go true o false a q w h s = absurd (let z : ◌≡◌ {A = ℕ} 0 1 = cc in omega arith)

heard-left : (m : Meter) (c : ℕ) (damaged : Bool) (h : Hearing) → (heard_as (seen_in m) c damaged h).settled ≡ false → heard m c damaged h ≡ done m (heard_deed (standing_of m) m.receiver.held h c damaged)
unfolding heard_as acts
heard-left m c damaged Drop e = absurd (let z : ◌≡◌ {A = ℕ} 0 1 = cc in omega arith)
heard-left m c damaged Hold e = absurd (let z : ◌≡◌ {A = ℕ} 0 1 = cc in omega arith)
heard-left m c damaged Restart e = absurd (let z : ◌≡◌ {A = ℕ} 0 1 = cc in omega arith)
heard-left m c damaged Empty e = absurd (let z : ◌≡◌ {A = ℕ} 0 1 = cc in omega arith)
heard-left m c damaged Line e = heard-done m c damaged Line refl
heard-left m c damaged Confirm e = heard-done m c damaged Confirm refl
heard-left m c damaged Frame e = heard-done m c damaged Frame refl
heard-left m c damaged TooLong e = heard-done m c damaged TooLong refl

-- the second that is left starts a month
tick-left : (m : Meter) → (ticked_by (seen_in m)).settled ≡ false → after_tick m ≡ done m (month_started (standing_of m) (next_second m.registers.clock))
unfolding ticked_by month_closed
tick-left m = go (month_starts next)
  where
    next : Clock
    next = next_second m.registers.clock

    went : Bool → Heard
    went b = cond b (ends (seen_in m)) (moves_on (seen_in m) (Time next) m.registers.counters)

    go : (b : Bool) → (went b).settled ≡ false → silent 1 (with_registers m (cond b (closing (with_clock m.registers next)) (with_clock m.registers next))) ≡ done m (month_started (standing_of m) next)
    go true s = month-done m next
    go false s = absurd (let z : ◌≡◌ {A = ℕ} 0 1 = cc in omega arith)

event-left : (m : Meter) (room : ℕ) (e : Event) → refusal (family_of m) room e ≡ 0 → (heard_in m e).settled ≡ false → happened m e ≡ done m (deed_of m e)
unfolding heard_in heard_of heard_by pulsed_by happened taken refusal left_deed character_deed
event-left m room (Character b) r s = heard-left m (symbol b) (damaged_at b) (hearing m.mode m.receiver.count (last_held m.receiver) (symbol b)) s
event-left m room Silence r s = silence-done m
event-left m room Tick r s = tick-left m s
event-left m room (Pulse units) r s = absurd (let z : ◌≡◌ {A = ℕ} 0 1 = cc in omega arith)
event-left m room PowerUp r s = start-done m
event-left m room (PulseOut units) r s = absurd (let z : ◌≡◌ {A = ℕ} 0 1 = cc in omega arith)
event-left m room Unknown r s = absurd (omega (arith, r))

-- an event that is not settled comes of its deed
pub left-done : (m : Meter) (room : ℕ) (e : Event) → (settles m room e).settled ≡ false → happened m e ≡ done m (deed_of m e)
unfolding settles_by heard_in
left-done m room e s = let left = left_is m room e s in event-left m room e left.unrefused (go (is_edition (edition_of m)) (eqb (refusal (family_of m) room e) 0) (well_formed m) (heard_in m e) s)
  where
    not : ℕ → Heard
    not n = refuses (seen_in m) n

    go : (k p q : Bool) (h : Heard) → (cond k (cond p (cond q h (not 14)) (not (refusal (family_of m) room e))) (not 16)).settled ≡ false → h.settled ≡ false
    go true true true h s = s
    go true true false h s = absurd (let z : ◌≡◌ {A = ℕ} 0 1 = cc in omega arith)
    go true false q h s = absurd (let z : ◌≡◌ {A = ℕ} 0 1 = cc in omega arith)
    go false p q h s = absurd (let z : ◌≡◌ {A = ℕ} 0 1 = cc in omega arith)
