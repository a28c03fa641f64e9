-- A record with one field anew, and all others as they were. Nothing above spells a record of the state out.
use Rattle.std.specs.Prelude.{ℕ, ◌-◌, ◌*◌, cond, List, nat_le, slice_index}
use Rattle.text.specs.Writing.{stored}
use Rattle.clock.specs.declared.Clock.{Clock}
use Rattle.state.specs.declared.Receiver.{Receiver}
use Rattle.state.specs.declared.Counters.{Counters}
use Rattle.state.specs.declared.Archive.{Archive}
use Rattle.state.specs.declared.Registers.{Registers}
use Rattle.state.specs.declared.Meter.{Meter}
use Rattle.state.specs.Link.{link_of, rest_speed}
use Rattle.state.specs.Sizes.{row_length}
use Rattle.state.specs.Making.{empty_receiver}

-- these characters, so many of them
abbrev pub with_held : Receiver → List ℕ → ℕ → Receiver
with_held r held count = record { count = count; held = held; mark = r.mark; place = r.place }

-- this mark, and the place that it speaks of
abbrev pub with_mark : Receiver → ℕ → ℕ → Receiver
with_mark r mark place = record { count = r.count; held = r.held; mark = mark; place = place }

-- a meter of these
abbrev pub meter_in : ℕ → ℕ → ℕ → Receiver → Registers → Meter
meter_in mode attempts speed r g = record { mode = mode; attempts = attempts; speed = speed; receiver = r; registers = g }

abbrev pub with_receiver : Meter → Receiver → Meter
with_receiver m r = meter_in m.mode m.attempts m.speed r m.registers

-- a session keeps its speed; modes 0 and 1 have that of the link
abbrev pub speed_in : ℕ → ℕ → ℕ → ℕ
speed_in link mode speed = cond (nat_le 2 mode) speed (rest_speed link)

-- in another mode, the receiver empty
abbrev pub in_mode : Meter → ℕ → Meter
in_mode m mode = meter_in mode m.attempts (speed_in (link_of m) mode m.speed) empty_receiver m.registers

abbrev pub with_speed : Meter → ℕ → Meter
with_speed m speed = meter_in m.mode m.attempts speed m.receiver m.registers

abbrev pub with_attempts : Meter → ℕ → Meter
with_attempts m attempts = meter_in m.mode attempts m.speed m.receiver m.registers

abbrev pub with_registers : Meter → Registers → Meter
with_registers m g = meter_in m.mode m.attempts m.speed m.receiver g

abbrev pub with_account : Registers → List ℕ → Registers
with_account g a = record { facts = g.facts; account = a; clock = g.clock; counters = g.counters; exported = g.exported; tables = g.tables; archive = g.archive }

abbrev pub with_clock : Registers → Clock → Registers
with_clock g c = record { facts = g.facts; account = g.account; clock = c; counters = g.counters; exported = g.exported; tables = g.tables; archive = g.archive }

abbrev pub with_counters : Registers → Counters → Registers
with_counters g c = record { facts = g.facts; account = g.account; clock = g.clock; counters = c; exported = g.exported; tables = g.tables; archive = g.archive }

abbrev pub with_exported : Registers → Counters → Registers
with_exported g c = record { facts = g.facts; account = g.account; clock = g.clock; counters = g.counters; exported = c; tables = g.tables; archive = g.archive }

abbrev pub with_tables : Registers → List ℕ → Registers
with_tables g t = record { facts = g.facts; account = g.account; clock = g.clock; counters = g.counters; exported = g.exported; tables = t; archive = g.archive }

abbrev pub with_archive : Registers → Archive → Registers
with_archive g a = record { facts = g.facts; account = g.account; clock = g.clock; counters = g.counters; exported = g.exported; tables = g.tables; archive = a }

-- the counter of a zone
abbrev pub zone_place : ℕ → ℕ
zone_place n = n - 1

abbrev pub counter_of : Counters → ℕ → ℕ
counter_of c n = slice_index c.zones (zone_place n)

abbrev pub with_zones : Counters → List ℕ → Counters
with_zones c zones = record { zones = zones; total = c.total }

abbrev pub with_total : Counters → ℕ → Counters
with_total c total = record { zones = c.zones; total = total }

-- where the row of a table starts, and the tables with that row anew
abbrev pub row_start : ℕ → ℕ
row_start n = (n - 1) * row_length

abbrev pub with_row : List ℕ → ℕ → List ℕ → List ℕ
with_row rows n row = stored rows (row_start n) row
