-- What each register holds after what it was told, from what the factory gave.
use Rattle.std.specs.Prelude.{cond, List, [], ◌∷◌, ℕ, ◌+◌, ◌-◌, get_or}
use Rattle.line.specs.Quoted.{char}
use Rattle.clock.specs.Seconds.{next_second}
use Rattle.clock.specs.declared.Clock.{Clock}
use Rattle.values.specs.Family.{counter_end, export_end}
use Rattle.state.specs.declared.Counters.{Counters}
use Rattle.state.specs.declared.Archive.{Archive}
use Rattle.state.specs.declared.Registers.{Registers}
use Rattle.state.specs.Setting.{row_start, with_row}
use Rattle.state.specs.Closing.{period_of, closed_with}
use Rattle.tariff.specs.Zones.{table_for, counted}
use Rattle.tariff.specs.Months.{month_starts}
use Rattle.history.specs.Frames.{Write, clock, account, row}
use Rattle.history.specs.Deeds.{Deed, wrote, second, energy, energy_out, closed, writes_of}

-- the last account that was written
unfoldable pub account_told : List ℕ → List Write → List ℕ
account_told factory [] = factory
account_told factory (account a ∷ ws) = a
account_told factory (clock c ∷ ws) = account_told factory ws
account_told factory (row n r ∷ ws) = account_told factory ws

-- the rows that were written, each over the one before it
unfoldable pub tables_told : List ℕ → List Write → List ℕ
tables_told factory [] = factory
tables_told factory (row n r ∷ ws) = with_row (tables_told factory ws) n r
tables_told factory (clock c ∷ ws) = tables_told factory ws
tables_told factory (account a ∷ ws) = tables_told factory ws

-- a write of the clock, and the seconds since
unfoldable pub clock_by : Write → Clock → Clock
clock_by (clock c) was = c
clock_by (account a) was = was
clock_by (row n r) was = was

unfoldable pub clock_told : Clock → List Deed → Clock
clock_told factory [] = factory
clock_told factory (wrote w ∷ ds) = clock_by w (clock_told factory ds)
clock_told factory (second ∷ ds) = next_second (clock_told factory ds)
clock_told factory (energy units ∷ ds) = clock_told factory ds
clock_told factory (energy_out units ∷ ds) = clock_told factory ds
clock_told factory (closed ∷ ds) = clock_told factory ds

-- the zone that the character for the hour names in the day's table, of an edition
abbrev pub zone_at : ℕ → List ℕ → Clock → ℕ
zone_at edition tables c = get_or tables (row_start (table_for edition c.date) + c.time.hour) 0 - char "0"

-- what the factory gave: of account, tables, clock, counters and archive
module _ (factory : Registers) where
  abbrev tables_then : List Deed → List ℕ
  tables_then ds = tables_told factory.tables (writes_of ds)

  abbrev clock_then : List Deed → Clock
  clock_then ds = clock_told factory.clock ds

  -- each pulse in the zone of its hour: what came in, and what went out
  abbrev zone_then : List Deed → ℕ
  zone_then ds = zone_at factory.facts.edition (tables_then ds) (clock_then ds)

  unfoldable pub counters_told : List Deed → Counters
  counters_told [] = factory.counters
  counters_told (wrote w ∷ ds) = counters_told ds
  counters_told (second ∷ ds) = counters_told ds
  counters_told (energy units ∷ ds) = counted (counter_end factory.facts.decimals) (counters_told ds) (zone_then ds) units
  counters_told (energy_out units ∷ ds) = counters_told ds
  counters_told (closed ∷ ds) = counters_told ds

  unfoldable pub exported_told : List Deed → Counters
  exported_told [] = factory.exported
  exported_told (wrote w ∷ ds) = exported_told ds
  exported_told (second ∷ ds) = exported_told ds
  exported_told (energy units ∷ ds) = exported_told ds
  exported_told (energy_out units ∷ ds) = counted (export_end factory.facts.decimals) (exported_told ds) (zone_then ds) units
  exported_told (closed ∷ ds) = exported_told ds

  -- a period for each call, and for each second that reaches 00:00:00 on the first of a month
  unfoldable pub archive_told : List Deed → Archive
  archive_told [] = factory.archive
  archive_told (wrote w ∷ ds) = archive_told ds
  archive_told (second ∷ ds) =
      cond (month_starts (next_second (clock_then ds))) (closed_with (period_of (next_second (clock_then ds)) (counters_told ds) (exported_told ds)) (archive_told ds)) (archive_told ds)
  archive_told (energy units ∷ ds) = archive_told ds
  archive_told (energy_out units ∷ ds) = archive_told ds
  archive_told (closed ∷ ds) = closed_with (period_of (clock_then ds) (counters_told ds) (exported_told ds)) (archive_told ds)

  -- all of them; serial and password are the factory's for life
  abbrev pub registers_told : List Deed → Registers
  registers_told ds =
      record {
        facts = factory.facts;
        account = account_told factory.account (writes_of ds);
        clock = clock_then ds;
        counters = counters_told ds;
        exported = exported_told ds;
        tables = tables_then ds;
        archive = archive_told ds;
      }
