-- Document 01, "Other events": Monday to Friday uses table = month, Saturday and Sunday 12 + month; the character for the hour names the zone,
-- whose counter grows. [3]: edition 2 uses 25 on every Saturday. [10]: a pulse says its direction, and a counter rolls over where its family's do.
use Rattle.std.specs.Prelude.{Bool, cond, ◌&&◌, ℕ, ◌+◌, ◌-◌, ◌%◌, eqb, ltb, List, get_or, set}
use Rattle.clock.specs.Weekday.{weekday}
use Rattle.clock.specs.declared.Date.{Date}
use Rattle.clock.specs.declared.Clock.{Clock}
use Rattle.values.specs.Family.{counter_end, export_end}
use Rattle.state.specs.declared.Counters.{Counters}
use Rattle.state.specs.declared.Registers.{Registers}
use Rattle.state.specs.WellFormed.{family_in}
use Rattle.state.specs.Setting.{row_start, zone_place, counter_of, with_zones, with_total, with_counters, with_exported}

-- a Saturday of a meter that has a table for it
unfoldable pub own_day : ℕ → ℕ → Bool
own_day edition day = eqb edition 2 && eqb day 5

unfoldable pub table_for : ℕ → Date → ℕ
table_for edition d = cond (ltb (weekday d) 5) d.month (cond (own_day edition (weekday d)) 25 (12 + d.month))

-- the zone that the character for the hour in the day's table names, '1' to '4'
abbrev pub zone_at : List ℕ → ℕ → Clock → ℕ
zone_at rows edition c = get_or rows (row_start (table_for edition c.date) + c.time.hour) 0 - 48

unfoldable pub zone_in : Registers → ℕ
zone_in g = zone_at g.tables g.facts.edition g.clock

abbrev pub grown : ℕ → ℕ → ℕ → ℕ
grown end counter units = (counter + units) % end

-- the counter of a zone, 1 to 4, and with it the total; another zone has none
unfoldable pub counted : ℕ → Counters → ℕ → ℕ → Counters
counted end c zone units =
    cond (ltb (zone_place zone) 4)
    (with_total (with_zones c (set c.zones (zone_place zone) (grown end (counter_of c zone) units))) (grown end c.total units))
    c

-- what comes in, and what goes out
abbrev pub counted_in : Registers → ℕ → Registers
counted_in g units = with_counters g (counted (counter_end (family_in g)) g.counters (zone_in g) units)

abbrev pub counted_out : Registers → ℕ → Registers
counted_out g units = with_exported g (counted (export_end (family_in g)) g.exported (zone_in g) units)
