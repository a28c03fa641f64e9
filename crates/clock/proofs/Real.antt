-- What a real date and a real time are bounded by, and that the next second of a real clock is real. Assumes nothing.
use mathlib.Core.Path.{◌≡◌, refl, sym, ap, ◌∙◌}
use mathlib.Core.Bool.{Bool, true, false, cond, ◌&&◌}
use Prim.Native.Nat.{ℕ, ◌+◌, ◌-◌, ◌%◌, ◌≤◌}
use native.Mathlib.Omega.{arith}
use borrow.Author.Tests.{leb-true, leb-false, le-leb, ltb-true, eqb-true}
use lib.Dec.{leb, ltb, eqb}
use Rattle.line.proofs.Runs.{and_left, and_right, and_both, below_all}
use Rattle.clock.specs.Dates.{leap, thirty, days_of, days_in, real_date, real_time}
use Rattle.clock.specs.Seconds.{real_clock, real_stamp, stamp_of, date_of, time_of, next_month, next_day, next_second}
use Rattle.clock.specs.declared.Date.{Date}
use Rattle.clock.specs.declared.Clock.{Clock}

pub record RealDate (y m d : ℕ) : Type 0 where
  pub first-year : 2000 ≤ y
  pub last-year : y ≤ 2099
  pub first-month : 1 ≤ m
  pub last-month : m ≤ 12
  pub first-day : 1 ≤ d
  pub last-day : d ≤ days_in y m

pub record RealTime (h n s : ℕ) : Type 0 where
  pub hour : h ≤ 23
  pub minute : n ≤ 59
  pub second : s ≤ 59

pub date-facts : (y m d : ℕ) → real_date y m d ≡ true → RealDate y m d
unfolding real_date
date-facts y m d e =
    let ym = and_left _ (leb 1 d && leb d (days_in y m)) e in
    let dd = and_right ((leb 2000 y && leb y 2099) && (leb 1 m && leb m 12)) (leb 1 d && leb d (days_in y m)) e in
    let yy = and_left (leb 2000 y && leb y 2099) (leb 1 m && leb m 12) ym in
    let mm = and_right (leb 2000 y && leb y 2099) (leb 1 m && leb m 12) ym in
    record {
      first-year = leb-true 2000 y (and_left (leb 2000 y) (leb y 2099) yy);
      last-year = leb-true y 2099 (and_right (leb 2000 y) (leb y 2099) yy);
      first-month = leb-true 1 m (and_left (leb 1 m) (leb m 12) mm);
      last-month = leb-true m 12 (and_right (leb 1 m) (leb m 12) mm);
      first-day = leb-true 1 d (and_left (leb 1 d) (leb d (days_in y m)) dd);
      last-day = leb-true d (days_in y m) (and_right (leb 1 d) (leb d (days_in y m)) dd);
    }

-- in the years of a date every fourth is a leap year
abbrev days : Bool → ℕ
days long = cond long 29 28

abbrev fourth : ℕ → Bool
fourth k = eqb (days (eqb ((2000 + k) % 4) 0)) (days (leap (2000 + k)))

fourth-leap : (y : ℕ) → (leb 2000 y && leb y 2099) ≡ true → days (eqb (y % 4) 0) ≡ days (leap y)
unfolding leap
fourth-leap y e =
    let low = leb-true 2000 y (and_left (leb 2000 y) (leb y 2099) e) in
    let high = leb-true y 2099 (and_right (leb 2000 y) (leb y 2099) e) in
    let k = y - 2000 in
    let h : days (eqb ((2000 + k) % 4) 0) ≡ days (leap (2000 + k)) = eqb-true _ _ (below_all 100 fourth refl k (omega arith)) in
    let same : 2000 + k ≡ y = omega arith in
    rw same at h

-- so a date may be tested by these
pub date-tested : (y m d : ℕ) → (((leb 2000 y && leb y 2099) && (leb 1 m && leb m 12)) && (leb 1 d && leb d (days_of (eqb (y % 4) 0) m))) ≡ real_date y m d
unfolding real_date days_in
date-tested y m d = pick (leb 2000 y && leb y 2099) refl
  where
    pick : (b : Bool) → (leb 2000 y && leb y 2099) ≡ b → ((b && (leb 1 m && leb m 12)) && (leb 1 d && leb d (days_of (eqb (y % 4) 0) m))) ≡ ((b && (leb 1 m && leb m 12)) && (leb 1 d && leb d (days_of (leap y) m)))
    pick true e = ap (λ (n : ℕ). (leb 1 m && leb m 12) && (leb 1 d && leb d (cond (eqb m 2) n (cond (thirty m) 30 31)))) (fourth-leap y e)
    pick false e = refl

-- a month and its year
abbrev month_tested : ℕ → ℕ → Bool
month_tested y m = (leb 2000 y && leb y 2099) && (leb 1 m && leb m 12)

least-days : (second long short : Bool) → 28 ≤ cond second (cond long 29 28) (cond short 30 31)
least-days true true short = omega arith
least-days true false short = omega arith
least-days false long true = omega arith
least-days false long false = omega arith

-- by the month, by the first 28 days, or by the days behind them
pub no-month : (y m d : ℕ) → month_tested y m ≡ false → false ≡ real_date y m d
no-month y m d e = rw e at (date-tested y m d)

pub early-day : (y m d : ℕ) → month_tested y m ≡ true → (leb 1 d && leb d 28) ≡ true → true ≡ real_date y m d
early-day y m d e f =
    let last : 28 ≤ days_of (eqb (y % 4) 0) m = least-days (eqb m 2) (eqb (y % 4) 0) (thirty m) in
    let low = and_left (leb 1 d) (leb d 28) f in
    rw (e, low, le-leb d (days_of (eqb (y % 4) 0) m) (omega (arith, last, leb-true d 28 (and_right (leb 1 d) (leb d 28) f)))) at (date-tested y m d)

pub late-day : (y m d days : ℕ) → days ≡ days_of (eqb (y % 4) 0) m → month_tested y m ≡ true → (leb 1 d && leb d 28) ≡ false → (leb 29 d && leb d days) ≡ real_date y m d
late-day y m d days is e f = pick (leb 29 d) refl (leb 1 d) refl
  where
    pick : (a : Bool) → leb 29 d ≡ a → (b : Bool) → leb 1 d ≡ b → (a && leb d days) ≡ real_date y m d
    pick true late b first = rw is (rw (e, le-leb 1 d (omega (arith, leb-true 29 d late))) at (date-tested y m d))
    pick false late false first = rw (e, first) at (date-tested y m d)
    pick false late true first = absurd (let z : ◌≡◌ {A = ℕ} 1 0 = ap (λ (t : Bool). cond t 1 0) (sym (and_both (leb 1 d) (leb d 28) first (le-leb d 28 (omega (arith, leb-false 29 d late)))) ∙ f) in omega (arith, z))

pub date-real : (y m d : ℕ) → RealDate y m d → real_date y m d ≡ true
unfolding real_date
date-real y m d r =
    rw (le-leb 2000 y r.first-year, le-leb y 2099 r.last-year, le-leb 1 m r.first-month, le-leb m 12 r.last-month, le-leb 1 d r.first-day, le-leb d (days_in y m) r.last-day)

pub time-facts : (h n s : ℕ) → real_time h n s ≡ true → RealTime h n s
unfolding real_time
time-facts h n s e =
    let hn = and_left (leb h 23 && leb n 59) (leb s 59) e in
    record {
      hour = leb-true h 23 (and_left (leb h 23) (leb n 59) hn);
      minute = leb-true n 59 (and_right (leb h 23) (leb n 59) hn);
      second = leb-true s 59 (and_right (leb h 23 && leb n 59) (leb s 59) e);
    }

pub time-real : (h n s : ℕ) → RealTime h n s → real_time h n s ≡ true
unfolding real_time
time-real h n s r = rw (le-leb h 23 r.hour, le-leb n 59 r.minute, le-leb s 59 r.second)

days-least : (y m : ℕ) → 28 ≤ days_in y m
unfolding days_in
days-least y m = pick (eqb m 2) (leap y) (thirty m)
  where
    pick : (a b c : Bool) → 28 ≤ cond a (cond b 29 28) (cond c 30 31)
    pick true true c = omega arith
    pick true false c = omega arith
    pick false b true = omega arith
    pick false b false = omega arith

pub days-most : (y m : ℕ) → days_in y m ≤ 31
unfolding days_in
days-most y m = pick (eqb m 2) (leap y) (thirty m)
  where
    pick : (a b c : Bool) → cond a (cond b 29 28) (cond c 30 31) ≤ 31
    pick true true c = omega arith
    pick true false c = omega arith
    pick false b true = omega arith
    pick false b false = omega arith

first_of : (y m : ℕ) → 2000 ≤ y → y ≤ 2099 → 1 ≤ m → m ≤ 12 → real_date y m 1 ≡ true
first_of y m a b c d =
    date-real y m 1 (record { first-year = a; last-year = b; first-month = c; last-month = d; first-day = omega arith; last-day = omega (arith, days-least y m) })

-- a date of parts that are real
unfoldable pub real_day : Date → Bool
real_day d = real_date d.year d.month d.day

next-month-real : (y m : ℕ) → 2000 ≤ y → y ≤ 2099 → 1 ≤ m → m ≤ 12 → real_day (next_month y m) ≡ true
unfolding next_month real_day
next-month-real y m a b c d = go (ltb m 12) refl (ltb y 2099) refl
  where
    go : (p : Bool) → ltb m 12 ≡ p → (q : Bool) → ltb y 2099 ≡ q → real_day (cond p (date_of y (m + 1) 1) (date_of (cond q (y + 1) 2000) 1 1)) ≡ true
    go true e q f = first_of y (m + 1) a b (omega arith) (omega (arith, ltb-true m 12 e))
    go false e true f = first_of (y + 1) 1 (omega arith) (omega (arith, ltb-true y 2099 f)) (omega arith) (omega arith)
    go false e false f = first_of 2000 1 (omega arith) (omega arith) (omega arith) (omega arith)

next-day-real : (d : Date) → real_day d ≡ true → real_day (next_day d) ≡ true
unfolding next_day real_day
next-day-real d h = go (ltb d.day (days_in d.year d.month)) refl
  where
    r : RealDate d.year d.month d.day
    r = date-facts d.year d.month d.day h

    go : (p : Bool) → ltb d.day (days_in d.year d.month) ≡ p
        → real_day (cond p (date_of d.year d.month (d.day + 1)) (next_month d.year d.month)) ≡ true
    go true e =
        date-real d.year d.month (d.day + 1)
        (record { first-year = r.first-year; last-year = r.last-year; first-month = r.first-month; last-month = r.last-month; first-day = omega arith; last-day = omega (arith, ltb-true d.day (days_in d.year d.month) e) })
    go false e = next-month-real d.year d.month r.first-year r.last-year r.first-month r.last-month

-- a real clock stays real
pub next-second-real : (c : Clock) → real_clock c ≡ true → real_clock (next_second c) ≡ true
unfolding real_clock next_second real_day
next-second-real c h = go (ltb c.time.second 59) refl (ltb c.time.minute 59) refl (ltb c.time.hour 23) refl
  where
    d : real_day c.date ≡ true
    d = and_left (real_day c.date) (real_time c.time.hour c.time.minute c.time.second) h

    t : RealTime c.time.hour c.time.minute c.time.second
    t = time-facts c.time.hour c.time.minute c.time.second (and_right (real_day c.date) (real_time c.time.hour c.time.minute c.time.second) h)

    go : (p : Bool) → ltb c.time.second 59 ≡ p → (q : Bool) → ltb c.time.minute 59 ≡ q → (r : Bool) → ltb c.time.hour 23 ≡ r
        → real_clock (cond p (record { date = c.date; time = time_of c.time.hour c.time.minute (c.time.second + 1) })
        (cond q (record { date = c.date; time = time_of c.time.hour (c.time.minute + 1) 0 })
        (cond r (record { date = c.date; time = time_of (c.time.hour + 1) 0 0 })
        (record { date = next_day c.date; time = time_of 0 0 0 })))) ≡ true
    go true e q f r g =
        and_both _ _ d (time-real _ _ _ (record { hour = t.hour; minute = t.minute; second = omega (arith, ltb-true c.time.second 59 e) }))
    go false e true f r g =
        and_both _ _ d (time-real _ _ _ (record { hour = t.hour; minute = omega (arith, ltb-true c.time.minute 59 f); second = omega arith }))
    go false e false f true g =
        and_both _ _ d (time-real _ _ _ (record { hour = omega (arith, ltb-true c.time.hour 23 g); minute = omega arith; second = omega arith }))
    go false e false f false g =
        and_both _ _ (next-day-real c.date d) (time-real 0 0 0 (record { hour = omega arith; minute = omega arith; second = omega arith }))

-- a real clock's stamp is real
pub stamp-real : (c : Clock) → real_clock c ≡ true → real_stamp (stamp_of c) ≡ true
unfolding real_clock real_stamp
stamp-real c h =
    let t = time-facts c.time.hour c.time.minute c.time.second (and_right (real_date c.date.year c.date.month c.date.day) (real_time c.time.hour c.time.minute c.time.second) h) in
    and_both _ _ (and_left (real_date c.date.year c.date.month c.date.day) (real_time c.time.hour c.time.minute c.time.second) h) (time-real _ _ _ (record { hour = t.hour; minute = t.minute; second = omega arith }))
