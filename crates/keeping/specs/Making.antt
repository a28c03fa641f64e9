-- A meter made, as C asks for it.
use Rattle.std.specs.Prelude.{ℕ}
use Rattle.clock.specs.Seconds.{date_of, time_of}
use Rattle.clock.specs.declared.Clock.{Clock}

abbrev pub clock_of : ℕ → ℕ → ℕ → ℕ → ℕ → ℕ → Clock
clock_of year month day hour minute second = record { date = date_of year month day; time = time_of hour minute second }
