-- [2], "replies on the wire are unchanged": the meter of before keeps no place, and its answers have none.
use Rattle.std.specs.Prelude.{◌≡◌, Bool, true, cond, false, ◌&&◌, List, [], ◌∷◌, ℕ, leb, get_or}
use Rattle.state.specs.declared.Registers.{Registers}
use Rattle.state.specs.declared.Meter.{Meter}
use Rattle.state.specs.WellFormed.{limit, first_good, mark_good, hurt_good, held_good, speed_good, registers_good, well_formed}
use Rattle.state.specs.Setting.{meter_in}
use Rattle.meter.specs.Outcomes.{Outcome}
use Rattle.meter.specs.declared.Event.{Event}
use Rattle.meter.specs.Life.{met, lived}

-- the state without a place
pub record Unplaced : Type 0 where
  pub mode : ℕ
  pub attempts : ℕ
  pub speed : ℕ
  pub held : List ℕ
  pub count : ℕ
  pub mark : ℕ
  pub registers : Registers

-- what such a state is well-formed by
unfoldable pub unplaced_formed : Unplaced → Bool
unplaced_formed u =
    (((leb u.mode 4 && leb u.attempts 3) && speed_good u.registers.facts.link u.mode u.speed)
    && cond (leb u.count (limit u.mode)) ((first_good u.mode u.count (get_or u.held 0 0) && mark_good u.count u.mark) && held_good u.held u.count) false)
    && registers_good u.registers

-- a state whose place is forgotten, and one with a place put in
abbrev pub unplaced : Meter → Unplaced
unplaced m =
    record {
      mode = m.mode;
      attempts = m.attempts;
      speed = m.speed;
      held = m.receiver.held;
      count = m.receiver.count;
      mark = m.receiver.mark;
      registers = m.registers;
    }

abbrev pub placed : Unplaced → ℕ → Meter
placed u place =
    meter_in u.mode u.attempts u.speed (record { held = u.held; count = u.count; mark = u.mark; place = place }) u.registers

-- an outcome that ignores the place
pub record UnplacedOutcome : Type 0 where
  pub number : ℕ
  pub speed : ℕ
  pub reply : List ℕ
  pub next : Unplaced

abbrev pub unplaced_outcome : Outcome → UnplacedOutcome
unplaced_outcome o = record { number = o.number; speed = o.speed; reply = o.reply; next = unplaced o.next }

-- the meter that ignores it: whatever stands there is taken for 0, and nothing of it is kept
unfoldable pub ignoring : Unplaced → ℕ → Event → UnplacedOutcome
ignoring u room e = unplaced_outcome (met (placed u 0) room e)

unfoldable pub lived_ignoring : Unplaced → List (ℕ × Event) → Unplaced
lived_ignoring u [] = u
lived_ignoring u ((room, e) ∷ es) = lived_ignoring (ignoring u room e).next es

-- of a well-formed meter: number, speed, every character of the reply and the next state are those of the meter that ignores the place; all its life
pub record Unchanged (m : Meter) : Type 0 where
  pub same : (room : ℕ) (e : Event) → unplaced_outcome (met m room e) ≡ ignoring (unplaced m) room e
  pub lives : (es : List (ℕ × Event)) → unplaced (lived m es) ≡ lived_ignoring (unplaced m) es

-- malformed is what was malformed, and a place that the two conditions exclude
pub record RefusesPlaces : Type 0 where
  pub exactly : (m : Meter) → well_formed m ≡ (unplaced_formed (unplaced m) && hurt_good m.receiver.count m.receiver.mark m.receiver.place)
