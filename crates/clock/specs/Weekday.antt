-- Document 01, "Both sides of the line": 2000-01-01 is a Saturday.
use Rattle.std.specs.Prelude.{cond, ◌&&◌, ℕ, ◌+◌, ◌-◌, ◌*◌, ◌/◌, ◌%◌, ltb, get_or, List, [], ◌∷◌}
use Rattle.clock.specs.Dates.{leap}
use Rattle.clock.specs.declared.Date.{Date}

-- the days of a common year before each month
unfoldable pub days_before : List ℕ
days_before = 0 ∷ 31 ∷ 59 ∷ 90 ∷ 120 ∷ 151 ∷ 181 ∷ 212 ∷ 243 ∷ 273 ∷ 304 ∷ 334 ∷ []

-- the leap days of the years from 2000 before a year of that century
abbrev pub leap_days : ℕ → ℕ
leap_days k = (k + 3) / 4

-- days since 2000-01-01
unfoldable pub day_number : Date → ℕ
day_number d =
    (d.year - 2000) * 365 + leap_days (d.year - 2000) + get_or days_before (d.month - 1) 0 + cond (leap d.year && ltb 2 d.month) 1 0 + (d.day - 1)

-- the day of the week: Monday is 0, Saturday 5, Sunday 6
unfoldable pub weekday : Date → ℕ
weekday d = (day_number d + 5) % 7
