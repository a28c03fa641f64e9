-- Document 01, "The state": after a second comes the next; after 2099-12-31 23:59:59 comes 2000-01-01 00:00:00.
use Rattle.std.specs.Prelude.{Bool, cond, ◌&&◌, ℕ, ◌+◌, ltb}
use Rattle.clock.specs.Dates.{days_in, real_date, real_time}
use Rattle.clock.specs.declared.Date.{Date}
use Rattle.clock.specs.declared.Time.{Time}
use Rattle.clock.specs.declared.Clock.{Clock}
use Rattle.clock.specs.declared.Stamp.{Stamp}

unfoldable pub real_clock : Clock → Bool
real_clock c = real_date c.date.year c.date.month c.date.day && real_time c.time.hour c.time.minute c.time.second

-- a stamp has no second: it is real if it is with second 0
unfoldable pub real_stamp : Stamp → Bool
real_stamp s = real_date s.date.year s.date.month s.date.day && real_time s.hour s.minute 0

-- a clock without its second
abbrev pub stamp_of : Clock → Stamp
stamp_of c = record { date = c.date; hour = c.time.hour; minute = c.time.minute }

abbrev pub date_of : ℕ → ℕ → ℕ → Date
date_of y m d = record { year = y; month = m; day = d }

abbrev pub time_of : ℕ → ℕ → ℕ → Time
time_of h n s = record { hour = h; minute = n; second = s }

unfoldable pub next_month : ℕ → ℕ → Date
next_month y m = cond (ltb m 12) (date_of y (m + 1) 1) (date_of (cond (ltb y 2099) (y + 1) 2000) 1 1)

unfoldable pub next_day : Date → Date
next_day d = cond (ltb d.day (days_in d.year d.month)) (date_of d.year d.month (d.day + 1)) (next_month d.year d.month)

unfoldable pub next_second : Clock → Clock
next_second c =
    cond (ltb c.time.second 59) (record { date = c.date; time = time_of c.time.hour c.time.minute (c.time.second + 1) })
    (cond (ltb c.time.minute 59) (record { date = c.date; time = time_of c.time.hour (c.time.minute + 1) 0 })
    (cond (ltb c.time.hour 23) (record { date = c.date; time = time_of (c.time.hour + 1) 0 0 })
    (record { date = next_day c.date; time = time_of 0 0 0 })))
