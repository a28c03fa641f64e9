-- The formula for the day of the week is right: the day after a real day is the next day of the week, and 2000-01-01 is a Saturday.
-- A month's step is computed at each month; a year's step is arithmetic. Assumes nothing.
use mathlib.Core.Path.{◌≡◌, refl, sym, ap, ◌∙◌, subst, subst₂}
use mathlib.Core.Bool.{Bool, true, false, cond, ◌&&◌, and-true, and-false}
use Prim.Native.Nat.{ℕ, ◌+◌, ◌-◌, ◌%◌, ◌≤◌, ◌<◌}
use native.Mathlib.Omega.{arith}
use borrow.Author.Tests.{eqb-true, ltb-true, ltb-false}
use lib.Dec.{eqb, ltb}
use lib.ListN.{get_or}
use Rattle.line.proofs.Runs.{below_all}
use Rattle.clock.specs.Dates.{leap, thirty, days_in}
use Rattle.clock.specs.Seconds.{date_of, next_month, next_day}
use Rattle.clock.specs.Weekday.{days_before, leap_days, day_number, weekday}
use Rattle.clock.specs.declared.Date.{Date}
use Rattle.clock.proofs.Real.{RealDate, date-facts, real_day}

-- 2000-01-01 is a Saturday
pub first-is-saturday : weekday (date_of 2000 1 1) ≡ 5
unfolding weekday day_number days_before leap
first-is-saturday = refl

-- the days before the next month are those before this one and this one's own; b says whether the year is leap
stepped : Bool → ℕ → Bool
stepped b k =
    eqb (get_or days_before (k + 1) 0 + cond (b && ltb 2 (k + 2)) 1 0)
    (get_or days_before k 0 + cond (b && ltb 2 (k + 1)) 1 0 + cond (eqb (k + 1) 2) (cond b 29 28) (cond (thirty (k + 1)) 30 31))

month-step : (b : Bool) (k : ℕ) → k < 11
    → get_or days_before (k + 1) 0 + cond (b && ltb 2 (k + 2)) 1 0
    ≡ get_or days_before k 0 + cond (b && ltb 2 (k + 1)) 1 0 + cond (eqb (k + 1) 2) (cond b 29 28) (cond (thirty (k + 1)) 30 31)
unfolding stepped days_before thirty
month-step true k h = eqb-true _ _ (below_all 11 (stepped true) refl k h)
month-step false k h = eqb-true _ _ (below_all 11 (stepped false) refl k h)

-- a year has one leap day more before it where the year before it was leap; computed at every year
yearly : ℕ → Bool
yearly k = eqb (leap_days (k + 1)) (leap_days k + cond (leap (2000 + k)) 1 0)

year-step : (k : ℕ) → k < 100 → leap_days (k + 1) ≡ leap_days k + cond (leap (2000 + k)) 1 0
unfolding yearly leap
year-step k h = eqb-true _ _ (below_all 100 yearly refl k h)

-- within a month, at a month's end and at a year's end the day number grows by one
in-month : (y m d : ℕ) → 1 ≤ d → day_number (date_of y m (d + 1)) ≡ day_number (date_of y m d) + 1
unfolding day_number
in-month y m d h = omega arith

month-end : (y k d : ℕ) → k < 11 → d ≡ days_in y (k + 1) → 1 ≤ d → day_number (date_of y (k + 1 + 1) 1) ≡ day_number (date_of y (k + 1) d) + 1
unfolding day_number days_in
month-end y k d h e g =
    let a : k + 1 + 1 - 1 ≡ k + 1 = omega arith in
    let b : k + 1 - 1 ≡ k = omega arith in
    let c : k + 1 + 1 ≡ k + 2 = omega arith in
    let f = month-step (leap y) k h in
    rw (a, b, c) (omega arith)

year-end : (k d : ℕ) → k < 99 → d ≡ 31 → day_number (date_of (2000 + k + 1) 1 1) ≡ day_number (date_of (2000 + k) 12 d) + 1
unfolding day_number days_before
year-end k d h e =
    let a : 2000 + k + 1 - 2000 ≡ k + 1 = omega arith in
    let b : 2000 + k - 2000 ≡ k = omega arith in
    let f = year-step k (omega arith) in
    rw (a, b, and-true (leap (2000 + k)), and-false (leap (2000 + k + 1))) (omega arith)

december : (y m d : ℕ) → m ≡ 12 → d ≡ days_in y m → d ≡ 31
unfolding days_in thirty
december y m d w full = rw w at full

month-follows : (y m d : ℕ) → RealDate y m d → d ≡ days_in y m → (y ≡ 2099 → m ≡ 12 → d ≡ 31 → ⊥) → day_number (next_month y m) ≡ day_number (date_of y m d) + 1
month-follows y m d r full last = unfold next_month in (go (ltb m 12) refl (ltb y 2099) refl)
  where
    go : (p : Bool) → ltb m 12 ≡ p → (q : Bool) → ltb y 2099 ≡ q
        → day_number (cond p (date_of y (m + 1) 1) (date_of (cond q (y + 1) 2000) 1 1)) ≡ day_number (date_of y m d) + 1
    go true e q f =
        let k : m - 1 + 1 ≡ m = omega (arith, r.first-month) in
        let n : d ≡ days_in y (m - 1 + 1) = full ∙ ap (days_in y) (sym k) in
        subst (λ (x : ℕ). day_number (date_of y (x + 1) 1) ≡ day_number (date_of y x d) + 1) k (month-end y (m - 1) d (omega (arith, ltb-true m 12 e)) n r.first-day)
    go false e true f =
        let w : m ≡ 12 = omega (arith, r.last-month, ltb-false m 12 e) in
        let k : 2000 + (y - 2000) ≡ y = omega (arith, r.first-year) in
        let z = december y m d w full in
        subst₂ (λ (x v : ℕ). day_number (date_of (x + 1) 1 1) ≡ day_number (date_of x v d) + 1) k (sym w) (year-end (y - 2000) d (omega (arith, ltb-true y 2099 f)) z)
    go false e false f =
        let w : m ≡ 12 = omega (arith, r.last-month, ltb-false m 12 e) in
        absurd (last (omega (arith, r.last-year, ltb-false y 2099 f)) w (december y m d w full))

-- the day after a real day, but the very last, is the next day of the week
pub day-follows : (d : Date) → real_day d ≡ true → (d.year ≡ 2099 → d.month ≡ 12 → d.day ≡ 31 → ⊥) → day_number (next_day d) ≡ day_number d + 1
unfolding real_day
day-follows d h last = unfold next_day in (go (ltb d.day (days_in d.year d.month)) refl)
  where
    r : RealDate d.year d.month d.day
    r = date-facts d.year d.month d.day h

    go : (p : Bool) → ltb d.day (days_in d.year d.month) ≡ p
        → day_number (cond p (date_of d.year d.month (d.day + 1)) (next_month d.year d.month)) ≡ day_number d + 1
    go true e = in-month d.year d.month d.day r.first-day
    go false e = month-follows d.year d.month d.day r (omega (arith, r.last-day, ltb-false d.day (days_in d.year d.month) e)) last

pub week-goes-on : (d : Date) → real_day d ≡ true → (d.year ≡ 2099 → d.month ≡ 12 → d.day ≡ 31 → ⊥) → weekday (next_day d) ≡ (weekday d + 1) % 7
unfolding weekday
week-goes-on d h last = rw (day-follows d h last) (omega arith)
