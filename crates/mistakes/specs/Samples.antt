-- What the wrong answers are said of: a clock, the facts of a meter, rows and meters.
use Rattle.std.specs.Prelude.{List, [], ◌∷◌, ℕ, length, replicate}
use Rattle.text.specs.Decimal.{decimal}
use Rattle.text.specs.Writing.{stored}
use Rattle.values.specs.Edition.{row_length}
use Rattle.clock.specs.declared.Clock.{Clock}
use Rattle.clock.specs.declared.Stamp.{Stamp}
use Rattle.clock.specs.Seconds.{date_of, time_of}
use Rattle.state.specs.declared.Registers.{Registers}
use Rattle.state.specs.declared.Meter.{Meter}
use Rattle.state.specs.Making.{empty_receiver, no_counters, facts_of, meter_of}
use Rattle.state.specs.Closing.{period_of, closed_with, closing}
use Rattle.state.specs.Setting.{with_held, with_receiver, with_clock, with_archive, with_counters, with_exported, with_tables, with_zones, with_total, with_row, in_mode}

abbrev pub clock_at : ℕ → ℕ → ℕ → ℕ → ℕ → ℕ → Clock
clock_at y m d h n s = record { date = date_of y m d; time = time_of h n s }

abbrev pub stamp_at : ℕ → ℕ → ℕ → ℕ → ℕ → Stamp
stamp_at y m d h n = record { date = date_of y m d; hour = h; minute = n }

-- 2000-01-01 12:00:00, a Saturday
abbrev pub noon : Clock
noon = clock_at 2000 1 1 12 0 0

-- 1234567890
unfoldable pub serial : List ℕ
serial = decimal 10 1234567890

-- AAAAAAAAAA
unfoldable pub account : List ℕ
account = replicate 10 65

-- 12345678
unfoldable pub password : List ℕ
password = decimal 8 12345678

-- 24 times '2'
unfoldable pub twos : List ℕ
twos = replicate row_length 50

unfoldable pub new_meter : Meter
new_meter = meter_of (facts_of serial password 1 1 0) account noon

-- 1, 2, 4 and 8 Wh, and table 8 all '2'
unfoldable pub used : Registers
unfolding new_meter
used = with_tables (with_counters new_meter.registers (with_total (with_zones no_counters (1 ∷ 2 ∷ 4 ∷ 8 ∷ [])) 15)) (with_row new_meter.registers.tables 8 twos)

-- [10]: an EQM meter with three decimals; 1, 2, 4 and 8 of the last place came in, 16, 32, 64 and 128 went out
unfoldable pub new_eqm : Meter
new_eqm = meter_of (facts_of serial password 1 1 3) account noon

unfoldable pub used_eqm : Registers
unfolding new_eqm
used_eqm =
    with_exported (with_counters new_eqm.registers (with_total (with_zones no_counters (1 ∷ 2 ∷ 4 ∷ 8 ∷ [])) 15))
    (with_total (with_zones no_counters (16 ∷ 32 ∷ 64 ∷ 128 ∷ [])) 240)

-- in a mode, holding some characters
unfoldable pub held_in : ℕ → List ℕ → Meter
held_in mode s = with_receiver (in_mode new_meter mode) (with_held empty_receiver (stored empty_receiver.held 0 s) (length s))

-- [12]: these registers at another time, and with two periods closed at noon and 2001-02-03 04:05
abbrev pub used_at : Clock → Registers
used_at c = with_clock used c

unfoldable pub closed_twice : Registers
closed_twice = closing (with_clock (closing used) (clock_at 2001 2 3 4 5 6))

-- the same, the oldest first
unfoldable pub oldest_first : Registers
oldest_first = with_archive closed_twice (closed_with (period_of noon used.counters used.exported) (closed_with (period_of (clock_at 2001 2 3 4 5 6) used.counters used.exported) used.archive))
