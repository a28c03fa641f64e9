-- [12], "Closed months": a second, and the period that it closes.
use Rattle.std.specs.Prelude.{Bool, cond, ◌&&◌, eqb}
use Rattle.clock.specs.Seconds.{next_second}
use Rattle.clock.specs.declared.Clock.{Clock}
use Rattle.state.specs.declared.Registers.{Registers}
use Rattle.state.specs.Setting.{with_clock}
use Rattle.state.specs.Closing.{closing}

-- 00:00:00 on the first of a month
unfoldable pub month_starts : Clock → Bool
month_starts c = eqb c.date.day 1 && (eqb c.time.hour 0 && (eqb c.time.minute 0 && eqb c.time.second 0))

-- a month that starts closes a period, with the time that the clock now shows
unfoldable pub month_closed : Registers → Registers
month_closed g = cond (month_starts g.clock) (closing g) g

-- the registers a second later
abbrev pub second_later : Registers → Registers
second_later g = month_closed (with_clock g (next_second g.clock))
