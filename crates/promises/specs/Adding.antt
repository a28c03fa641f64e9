-- [4], "every answer is what it was": the meter of before keeps no total and adds its four counters up when it has to have one; [10]: the four of either direction.
use Rattle.std.specs.Prelude.{◌≡◌, Bool, true, ◌&&◌, List, [], ◌∷◌, ℕ, ◌%◌, eqb, leb, set}
use Rattle.clock.specs.declared.Clock.{Clock}
use Rattle.values.specs.Edition.{tables_of}
use Rattle.values.specs.Family.{counter_end, export_end}
use Rattle.values.specs.declared.Energy.TheVariants.{Total}
use Rattle.state.specs.declared.Receiver.{Receiver}
use Rattle.state.specs.declared.Facts.{Facts}
use Rattle.state.specs.declared.Counters.{Counters}
use Rattle.state.specs.declared.Archive.{Archive}
use Rattle.state.specs.declared.Registers.{Registers}
use Rattle.state.specs.declared.Meter.{Meter}
use Rattle.state.specs.WellFormed.{speed_good, sum_of, total, zones_below, receiver_good, tables_good, archive_good, factory_good, family_of, well_formed}
use Rattle.state.specs.Setting.{zone_place, counter_of}
use Rattle.tariff.specs.Zones.{grown, counted}
use Rattle.datasets.specs.Sets.{energy_set}
use Rattle.replies.specs.Shown.{energy}
use Rattle.replies.specs.Block.{energy_sets}
use Rattle.meter.specs.Outcomes.{Outcome}
use Rattle.meter.specs.declared.Event.{Event}
use Rattle.meter.specs.Life.{met, lived}

-- the state without a total
pub record Bare : Type 0 where
  pub mode : ℕ
  pub attempts : ℕ
  pub speed : ℕ
  pub receiver : Receiver
  pub facts : Facts
  pub account : List ℕ
  pub clock : Clock
  pub zones : List ℕ
  pub exported : List ℕ
  pub tables : List ℕ
  pub archive : Archive

-- what such a state is well-formed by: document 01's ranges
unfoldable pub bare_formed : Bare → Bool
bare_formed b =
    (((leb b.mode 4 && leb b.attempts 3) && speed_good b.facts.link b.mode b.speed) && receiver_good b.mode b.receiver)
    && (factory_good b.facts b.account b.clock
    && ((zones_below (counter_end b.facts.decimals) b.zones && zones_below (export_end b.facts.decimals) b.exported)
    && (tables_good (tables_of b.facts.edition) b.tables && archive_good b.facts.decimals b.archive)))

-- a state whose total is forgotten, and one whose total is added up
abbrev pub bare : Meter → Bare
bare m =
    record {
      mode = m.mode;
      attempts = m.attempts;
      speed = m.speed;
      receiver = m.receiver;
      facts = m.registers.facts;
      account = m.registers.account;
      clock = m.registers.clock;
      zones = m.registers.counters.zones;
      exported = m.registers.exported.zones;
      tables = m.registers.tables;
      archive = m.registers.archive;
    }

abbrev pub summed : ℕ → List ℕ → Counters
summed end zones = record { zones = zones; total = sum_of zones % end }

abbrev pub added_up : Bare → Meter
added_up b =
    record {
      mode = b.mode;
      attempts = b.attempts;
      speed = b.speed;
      receiver = b.receiver;
      registers =
          record {
            facts = b.facts;
            account = b.account;
            clock = b.clock;
            counters = summed (counter_end b.facts.decimals) b.zones;
            exported = summed (export_end b.facts.decimals) b.exported;
            tables = b.tables;
            archive = b.archive;
          };
    }

-- what a meter without a total answers, and its next state
pub record BareOutcome : Type 0 where
  pub number : ℕ
  pub speed : ℕ
  pub reply : List ℕ
  pub place : ℕ
  pub next : Bare

abbrev pub bare_outcome : Outcome → BareOutcome
bare_outcome o = record { number = o.number; speed = o.speed; reply = o.reply; place = o.place; next = bare o.next }

-- it adds up, meets the event, and keeps no total
unfoldable pub adding : Bare → ℕ → Event → BareOutcome
adding b room e = bare_outcome (met (added_up b) room e)

unfoldable pub lived_adding : Bare → List (ℕ × Event) → Bare
lived_adding b [] = b
lived_adding b ((room, e) ∷ es) = lived_adding (adding b room e).next es

-- it is document 01's: its ranges, the sum where a total is asked for, a pulse in one counter alone; of either direction's counters, which end somewhere
pub record AsRuled (b : Bare) : Type 0 where
  pub formed : well_formed (added_up b) ≡ bare_formed b
  pub shown : (end : ℕ) (zones : List ℕ) → energy (summed end zones) Total ≡ sum_of zones % end
  pub block : (family : ℕ) (out : Bool) (end : ℕ) (zones : List ℕ) → energy_sets family out (summed end zones)
      ≡ energy_set family out 1 (counter_of (summed end zones) 1) ∷ energy_set family out 2 (counter_of (summed end zones) 2)
      ∷ energy_set family out 3 (counter_of (summed end zones) 3) ∷ energy_set family out 4 (counter_of (summed end zones) 4)
      ∷ energy_set family out 0 (sum_of zones % end) ∷ []
  pub pulse : (end : ℕ) (zones : List ℕ) (zone units : ℕ) → zones_below end zones ≡ true
      → (counted end (summed end zones) zone units).zones ≡ set zones (zone_place zone) (grown end (counter_of (summed end zones) zone) units)

-- each total is the sum of its own four, rolled over where they are
pub record TrueTotals (m : Meter) : Type 0 where
  pub came : m.registers.counters.total ≡ total (counter_end (family_of m)) m.registers.counters
  pub went : m.registers.exported.total ≡ total (export_end (family_of m)) m.registers.exported

-- of a well-formed meter: the total is the sum, and number, speed, reply, place and next state are those of the meter without one; all its life
pub record AsBefore (m : Meter) : Type 0 where
  pub kept : added_up (bare m) ≡ m
  pub same : (room : ℕ) (e : Event) → bare_outcome (met m room e) ≡ adding (bare m) room e
  pub lives : (es : List (ℕ × Event)) → bare (lived m es) ≡ lived_adding (bare m) es
  pub true-for-life : (es : List (ℕ × Event)) → TrueTotals (lived m es)

-- malformed is what was malformed, and a total that is not the sum
pub record Refuses : Type 0 where
  pub exactly : (m : Meter) → well_formed m
      ≡ (bare_formed (bare m)
      && (eqb m.registers.counters.total (total (counter_end (family_of m)) m.registers.counters)
      && eqb m.registers.exported.total (total (export_end (family_of m)) m.registers.exported)))
