-- [13], "Nothing but what was told": what a meter from the factory holds after any history.
use Rattle.std.specs.Prelude.{◌≡◌, List, [], ℕ}
use Rattle.clock.specs.declared.Clock.{Clock}
use Rattle.state.specs.declared.Facts.{Facts}
use Rattle.state.specs.Making.{meter_of}
use Rattle.meter.specs.declared.Event.{Event}
use Rattle.meter.specs.Life.{lived}
use Rattle.history.specs.Frames.{Write}
use Rattle.history.specs.Past.{past_of}
use Rattle.history.specs.Standing.{standing}
use Rattle.history.specs.Deeds.{Deed, deeds, writes_of}
use Rattle.history.specs.Told.{account_told, tables_told, clock_told, counters_told, exported_told, archive_told}

-- what happened, and what was told, of events each with its room
abbrev pub happened : Facts → List (ℕ × Event) → List Event
happened facts es = past_of facts.decimals [] es

abbrev pub told_by : Facts → List (ℕ × Event) → List Deed
told_by facts es = deeds facts (happened facts es)

abbrev pub writes_told : Facts → List (ℕ × Event) → List Write
writes_told facts es = writes_of (told_by facts es)

pub record Told (facts : Facts) (account : List ℕ) (clock : Clock) (es : List (ℕ × Event)) : Type 0 where
  -- account and tables: the writes that were told, each applied in its order
  pub account-told : (lived (meter_of facts account clock) es).registers.account ≡ account_told account (writes_told facts es)
  pub tables-told : (lived (meter_of facts account clock) es).registers.tables ≡ tables_told (meter_of facts account clock).registers.tables (writes_told facts es)
  -- the clock takes seconds and writes, the counters the pulses of their direction, the archive its closings
  pub clock-told : (lived (meter_of facts account clock) es).registers.clock ≡ clock_told clock (told_by facts es)
  pub counters-told : (lived (meter_of facts account clock) es).registers.counters ≡ counters_told (meter_of facts account clock).registers (told_by facts es)
  pub exported-told : (lived (meter_of facts account clock) es).registers.exported ≡ exported_told (meter_of facts account clock).registers (told_by facts es)
  pub archive-told : (lived (meter_of facts account clock) es).registers.archive ≡ archive_told (meter_of facts account clock).registers (told_by facts es)
  -- serial and password stay the factory's
  pub facts-kept : (lived (meter_of facts account clock) es).registers.facts ≡ facts
  -- the stored mode and attempts are those of the history
  pub mode-told : (lived (meter_of facts account clock) es).mode ≡ (standing facts (happened facts es)).mode
  pub attempts-told : (lived (meter_of facts account clock) es).attempts ≡ (standing facts (happened facts es)).failed
