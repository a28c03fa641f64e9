-- What an event does that has no reply and changes little: the receiver, the clock or the counters, and nothing else of the meter.
use Rattle.std.specs.Prelude.{◌≡◌, Bool, true, false, cond, List, [], ℕ, ◌+◌, ◌-◌, ◌≤◌, eqb, get_or, Option, Some, None, Result, Ok, Err}
use Rattle.line.specs.Characters.{damaged_at}
use Rattle.values.specs.Edition.{is_edition}
use Rattle.state.specs.declared.Receiver.{Receiver}
use Rattle.state.specs.declared.Meter.{Meter}
use Rattle.state.specs.declared.Counters.{Counters}
use Rattle.state.specs.declared.Registers.{Registers}
use Rattle.clock.specs.declared.Clock.{Clock}
use Rattle.clock.specs.Seconds.{next_second}
use Rattle.tariff.specs.Zones.{zone_at, counted}
use Rattle.values.specs.Family.{counter_end, export_end}
use Rattle.tariff.specs.Months.{month_starts}
use Rattle.state.specs.WellFormed.{edition_of, family_of, well_formed, counters_good}
use Rattle.receiving.specs.declared.Hearing.{Hearing}
use Rattle.receiving.specs.declared.Hearing.TheVariants.{Drop, Hold, Restart, Empty, Line, Confirm, Frame, TooLong}
use Rattle.receiving.specs.Hearing.{hearing}
use Rattle.receiving.specs.declared.Holding.{Holding}
use Rattle.receiving.specs.declared.Holding.TheVariants.{Same, More, Anew}
use Rattle.receiving.specs.Receivers.{hurt_at, held_after}
use Rattle.state.specs.Setting.{with_receiver, with_registers, with_clock, with_counters, with_exported}
use Rattle.meter.specs.Outcomes.{Outcome}
use Rattle.meter.specs.Character.{symbol}
use Rattle.meter.specs.declared.Event.{Event}
use Rattle.meter.specs.declared.Event.TheVariants.{Character, Silence, Tick, Pulse, PowerUp, PulseOut, Unknown}
use Rattle.meter.specs.Life.{refusal}
use Rattle.settling.specs.declared.Seen.{Seen}
use Rattle.settling.specs.declared.Kept.{Kept}
use Rattle.settling.specs.declared.Moved.{Moved}
use Rattle.settling.specs.declared.Moved.TheVariants.{Second, CameIn, WentOut}
use Rattle.settling.specs.declared.Settled.{Settled}
use Rattle.settling.specs.declared.Refusal.{Refusal}
use Rattle.settling.specs.declared.Refusal.TheVariants.{NoEdition, Event as EventRefused, Malformed}
use Rattle.settling.specs.declared.Energy.{Energy}

-- what becomes of clock and counters: they stay, the clock shows another time, or what came in or went out is counted
pub data Change : Type 0 where
  Stay : Change
  Time : Clock → Change
  In : Change
  Out : Change

-- what an event does: where it is settled, the answer's number and speed, the next receiver, and what becomes of clock and counters, with those of the
-- direction that is counted; otherwise the meter has to act
pub record Heard : Type 0 where
  pub settled : Bool
  pub number : ℕ
  pub speed : ℕ
  pub holding : Holding
  pub count : ℕ
  pub mark : ℕ
  pub place : ℕ
  pub change : Change
  pub counters : Counters

-- what an event that is settled asks of a meter, besides what the receiver holds and the tables
abbrev pub seen_in : Meter → Seen
seen_in m =
    record {
      mode = m.mode;
      speed = m.speed;
      count = m.receiver.count;
      mark = m.receiver.mark;
      place = m.receiver.place;
      edition = edition_of m;
      family = family_of m;
      clock = m.registers.clock;
      counters = m.registers.counters;
      exported = m.registers.exported;
    }

-- settled or not, with this number and speed, and all as it is
abbrev pub standing : Seen → Bool → ℕ → ℕ → Heard
standing s settled number speed =
    record {
      settled = settled;
      number = number;
      speed = speed;
      holding = Same;
      count = s.count;
      mark = s.mark;
      place = s.place;
      change = Stay;
      counters = s.counters;
    }

-- answer 0, and the receiver after the character: what it holds, how many, and the mark with its place
abbrev pub goes_on : Seen → Holding → ℕ → ℕ → ℕ → Heard
goes_on s holding count mark place =
    record {
      settled = true;
      number = 0;
      speed = s.speed;
      holding = holding;
      count = count;
      mark = mark;
      place = place;
      change = Stay;
      counters = s.counters;
    }

-- the character ends a line, a confirmation or a frame, or is one too many of a frame: the meter has to act
abbrev pub ends : Seen → Heard
ends s = standing s false 0 0

-- 16, 99, 13, 12 or 14: nothing changed, speed 0
abbrev pub refuses : Seen → ℕ → Heard
refuses s number = standing s true number 0

-- answer 1, and this of clock and counters
abbrev pub moves_on : Seen → Change → Counters → Heard
moves_on s change counters =
    record {
      settled = true;
      number = 1;
      speed = s.speed;
      holding = Same;
      count = s.count;
      mark = s.mark;
      place = s.place;
      change = change;
      counters = counters;
    }

unfoldable pub heard_as : Seen → ℕ → Bool → Hearing → Heard
heard_as s c damaged Drop = standing s true 0 s.speed
heard_as s c damaged Hold =
    goes_on s (More s.count c) (s.count + 1) (cond damaged 1 s.mark) (hurt_at s.count s.mark s.place damaged)
heard_as s c damaged Restart = goes_on s (Anew c) 1 0 0
heard_as s c damaged Empty = goes_on s (Anew 0) 0 0 0
heard_as s c damaged Line = ends s
heard_as s c damaged Confirm = ends s
heard_as s c damaged Frame = ends s
heard_as s c damaged TooLong = ends s

unfoldable pub heard_by : Seen → List ℕ → ℕ → Heard
heard_by s held b = heard_as s (symbol b) (damaged_at b) (hearing s.mode s.count (get_or held (s.count - 1) 0) (symbol b))

-- a second moves the clock alone, but for the one that starts a month
unfoldable pub ticked_by : Seen → Heard
ticked_by s = cond (month_starts (next_second s.clock)) (ends s) (moves_on s (Time (next_second s.clock)) s.counters)

-- a pulse moves the counters of its direction
unfoldable pub pulsed_by : Seen → List ℕ → Bool → ℕ → Heard
pulsed_by s tables out units =
    cond out
    (moves_on s Out (counted (export_end s.family) s.exported (zone_at tables s.edition s.clock) units))
    (moves_on s In (counted (counter_end s.family) s.counters (zone_at tables s.edition s.clock) units))

-- the energy that an event says, if it is a pulse
unfoldable pub pulse_of : Event → Option Energy
pulse_of (Character b) = None
pulse_of Silence = None
pulse_of Tick = None
pulse_of (Pulse units) = Some (record { out = false; units = units })
pulse_of PowerUp = None
pulse_of (PulseOut units) = Some (record { out = true; units = units })
pulse_of Unknown = None

-- a character may change the receiver alone, a second the clock, a pulse its counters; on all else the meter has to act
unfoldable pub heard_of : Seen → List ℕ → List ℕ → Event → Heard
heard_of s held tables (Character b) = heard_by s held b
heard_of s held tables Silence = ends s
heard_of s held tables Tick = ticked_by s
heard_of s held tables (Pulse units) = pulsed_by s tables false units
heard_of s held tables PowerUp = ends s
heard_of s held tables (PulseOut units) = pulsed_by s tables true units
heard_of s held tables Unknown = ends s

-- an edition that there is not: 16; what refuses the event whatever the rest of the state; then a malformed state: 14
unfoldable pub settles_by : Seen → Bool → List ℕ → List ℕ → ℕ → Event → Heard
settles_by s formed held tables room e =
    cond (is_edition s.edition)
    (cond (eqb (refusal s.family room e) 0) (cond formed (heard_of s held tables e) (refuses s 14))
    (refuses s (refusal s.family room e)))
    (refuses s 16)

abbrev pub settles : Meter → ℕ → Event → Heard
settles m room e = settles_by (seen_in m) (well_formed m) m.receiver.held m.registers.tables room e

-- a refusal's number
abbrev pub number_of : Refusal → ℕ
number_of NoEdition = 16
number_of (EventRefused number) = number
number_of Malformed = 14

-- which refusal it is: of the edition, then of the event, then of the state
unfoldable pub refusal_by : Seen → ℕ → Event → Refusal
refusal_by s room e = cond (is_edition s.edition) (cond (eqb (refusal s.family room e) 0) Malformed (EventRefused (refusal s.family room e))) NoEdition

-- the receiver as it is
abbrev pub kept_in : Seen → Kept
kept_in s = record { holding = Same; count = s.count; mark = s.mark; place = s.place }

-- what a settled event says: a second and a pulse are answered with 1
abbrev pub answered : Option Moved → ℕ
answered None = 0
answered (Some x) = 1

abbrev pub change_of : Option Moved → Change
change_of None = Stay
change_of (Some (Second next)) = Time next
change_of (Some (CameIn counters)) = In
change_of (Some (WentOut counters)) = Out

abbrev pub counters_of : Counters → Option Moved → Counters
counters_of counters None = counters
counters_of counters (Some (Second next)) = counters
counters_of counters (Some (CameIn next)) = next
counters_of counters (Some (WentOut next)) = next

abbrev pub said : Seen → Settled → Heard
said s r =
    record {
      settled = true;
      number = answered r.moved;
      speed = s.speed;
      holding = r.kept.holding;
      count = r.kept.count;
      mark = r.kept.mark;
      place = r.kept.place;
      change = change_of r.moved;
      counters = counters_of s.counters r.moved;
    }

-- settled, or left to the meter
abbrev pub heard_or_left : Seen → Option Settled → Heard
heard_or_left s None = ends s
heard_or_left s (Some r) = said s r

-- what a look's result says
abbrev pub told : Seen → Result (Option Settled) Refusal → Heard
told s (Ok r) = heard_or_left s r
told s (Err e) = refuses s (number_of e)

-- an event that passes: nothing refuses it
pub record Passes (s : Seen) (formed : Bool) (room : ℕ) (e : Event) : Type 0 where
  pub edition : is_edition s.edition ≡ true
  pub unrefused : refusal s.family room e ≡ 0
  pub well : formed ≡ true

-- where the state is well-formed, a pulse can be counted
abbrev pub Countable : Seen → Type 0
Countable s =
    (s.clock.date.month ≤ 12) × ((counters_good (counter_end s.family) s.counters ≡ true) × (counters_good (export_end s.family) s.exported ≡ true))

-- the receiver after a settled event
abbrev pub receiver_after : Receiver → Heard → Receiver
receiver_after r h = record { count = h.count; held = held_after h.holding r.held; mark = h.mark; place = h.place }

-- clock and counters after a settled event, as `Change` says it: of the counters that it has, those of the direction that is counted
unfoldable pub clock_after : Change → Clock → Clock
clock_after Stay clock = clock
clock_after (Time next) clock = next
clock_after In clock = clock
clock_after Out clock = clock

unfoldable pub counters_after : Change → Counters → Counters → Counters
counters_after Stay next counters = counters
counters_after (Time clock) next counters = counters
counters_after In next counters = next
counters_after Out next counters = counters

unfoldable pub exported_after : Change → Counters → Counters → Counters
exported_after Stay next exported = exported
exported_after (Time clock) next exported = exported
exported_after In next exported = exported
exported_after Out next exported = next

abbrev pub registers_after : Registers → Heard → Registers
registers_after g h =
    with_exported (with_counters (with_clock g (clock_after h.change g.clock)) (counters_after h.change h.counters g.counters))
    (exported_after h.change h.counters g.exported)

-- the meter with that receiver, clock and counters, and all else as it was
abbrev pub settled_meter : Meter → Heard → Meter
settled_meter m h = with_registers (with_receiver m (receiver_after m.receiver h)) (registers_after m.registers h)

-- the meter with only that stored which an event can change: of a second or a pulse, answered 1, clock and counters; of any other the receiver
abbrev pub settled_in : Meter → Heard → Meter
settled_in m h = cond (eqb h.number 1) (with_registers m (registers_after m.registers h)) (with_receiver m (receiver_after m.receiver h))

-- all that comes of it
abbrev pub settled_outcome : Meter → Heard → Outcome
settled_outcome m h = record { number = h.number; speed = h.speed; reply = []; place = 0; next = settled_meter m h }
