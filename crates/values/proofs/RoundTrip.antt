-- Of each value: its text reads back to it, and a text that reads as a value is the text that writes it.
-- The law of forms (`text-fits`, `text-reads`, `form-is-text`) read at one form each. Assumes nothing.
use mathlib.Core.Path.{◌≡◌, refl, ap, ◌∙◌}
use mathlib.Core.Bool.{true, false}
use mathlib.Core.List.{List, [], ◌∷◌}
use Prim.Native.Nat.{ℕ, ◌+◌, ◌-◌, ◌*◌, ◌/◌, ◌%◌, ◌^◌, ◌≤◌, ◌<◌}
use native.Mathlib.Nat.{mod-lt, div-lt_iff_lt-mul, div-add-mod'}
use native.Mathlib.Omega.{arith}
use borrow.Author.Tests.{lt-ltb, leb-true}
use lib.Arith.{digits_div, digits_mod}
use lib.Pow.{pow-add}
use lib.Dec.{leb}
use lib.ListN.{get_or}
use Rattle.line.proofs.Runs.{and_left, and_right, chosen}
use Rattle.line.specs.Runs.{every}
use Rattle.text.specs.Classes.{between}
use Rattle.text.specs.Decimal.{number_at}
use Rattle.text.proofs.Decimal.{ten-pos}
use Rattle.text.specs.Layout.{Piece, layout_text, numbers_from, pattern, fits, numbers_fit, plain}
use Rattle.text.proofs.Forms.{text-fits, text-reads, form-is-text, form-within}
use Rattle.clock.specs.Dates.{real_date, real_time}
use Rattle.clock.specs.Seconds.{real_clock, real_stamp}
use Rattle.clock.specs.declared.Date.{Date}
use Rattle.clock.specs.declared.Time.{Time}
use Rattle.clock.specs.declared.Clock.{Clock}
use Rattle.clock.specs.declared.Stamp.{Stamp}
use Rattle.clock.proofs.Real.{RealDate, RealTime, date-facts, time-facts, days-most}
use Rattle.values.specs.Reading.{DateRead, TimeRead, ClockRead, StampRead, CounterRead, TableRead, date_read, time_read, clock_read, stamp_read, counter_read, table_read, some_date, some_time, some_clock, some_stamp, some_table, no_date, no_time, no_clock, no_stamp, no_table, clock_in, stamp_in}
use Rattle.values.specs.Registers.{good_table}
use Rattle.values.specs.Texts.{date_form, time_form, clock_form, stamp_form, counter_form, table_form, date_text, time_text, clock_text, stamp_text, counter_text, table_text}

-- the n-th number that a text's form has
nth : (s : List ℕ) (ps : List Piece) (ns : List ℕ) (n : ℕ) → numbers_from 0 ps s ≡ ns → get_or (numbers_from 0 ps s) n 0 ≡ get_or ns n 0
nth s ps ns n e = ap (λ (l : List ℕ). get_or l n 0) e

date-plain : plain date_form ≡ true
unfolding plain every
date-plain = refl

time-plain : plain time_form ≡ true
unfolding plain every
time-plain = refl

clock-plain : plain clock_form ≡ true
unfolding plain every
clock-plain = refl

stamp-plain : plain stamp_form ≡ true
unfolding plain every
stamp-plain = refl

counter-plain : (all decimals : ℕ) → plain (counter_form all decimals) ≡ true
unfolding plain every
counter-plain all decimals = refl

table-plain : plain table_form ≡ true
unfolding plain every
table-plain = refl

-- ---- the time

module _ (t : Time) (h : real_time t.hour t.minute t.second ≡ true) where
  time-fit : numbers_fit time_form (t.hour ∷ t.minute ∷ t.second ∷ []) ≡ true
  unfolding numbers_fit
  time-fit =
      let r = time-facts t.hour t.minute t.second h in
      rw (lt-ltb t.hour 100 (omega (arith, r.hour)), lt-ltb t.minute 100 (omega (arith, r.minute)), lt-ltb t.second 100 (omega (arith, r.second)))

  pub time-reads-back : time_read (time_text t) ≡ record { ok = true; time = t }
  unfolding time_read time_text numbers_from
  time-reads-back =
      let ns = t.hour ∷ t.minute ∷ t.second ∷ [] in
      let e = text-reads time_form ns time-fit in
      let a : number_at (layout_text time_form ns) 0 2 ≡ t.hour = nth _ time_form ns 0 e in
      let b : number_at (layout_text time_form ns) 3 2 ≡ t.minute = nth _ time_form ns 1 e in
      let c : number_at (layout_text time_form ns) 6 2 ≡ t.second = nth _ time_form ns 2 e in
      rw (text-fits time_form ns time-plain time-fit, a, b, c, h)

pub time-read-is-text : (s : List ℕ) → (time_read s).ok ≡ true → time_text (time_read s).time ≡ s
unfolding time_read time_text numbers_from
time-read-is-text s h =
    let some = some_time (number_at s 0 2) (number_at s 3 2) (number_at s 6 2) in
    let f : fits (pattern time_form) s ≡ true = chosen (λ (r : TimeRead). r.ok) (fits (pattern time_form) s) some no_time refl h in
    let k : some.ok ≡ true = rw f at h in
    let r : real_time (number_at s 0 2) (number_at s 3 2) (number_at s 6 2) ≡ true = chosen (λ (r : TimeRead). r.ok) (real_time (number_at s 0 2) (number_at s 3 2) (number_at s 6 2)) _ no_time refl k in
    rw (f, r) (form-is-text time_form s time-plain f)

-- ---- the date

module _ (d : Date) (h : real_date d.year d.month d.day ≡ true) where
  date-fit : numbers_fit date_form ((d.year - 2000) ∷ d.month ∷ d.day ∷ []) ≡ true
  unfolding numbers_fit
  date-fit =
      let r = date-facts d.year d.month d.day h in
      let m = days-most d.year d.month in
      rw (lt-ltb (d.year - 2000) 100 (omega (arith, r.last-year)), lt-ltb d.month 100 (omega (arith, r.last-month)), lt-ltb d.day 100 (omega (arith, r.last-day)))

  pub date-reads-back : date_read (date_text d) ≡ record { ok = true; date = d }
  unfolding date_read date_text numbers_from
  date-reads-back =
      let ns = (d.year - 2000) ∷ d.month ∷ d.day ∷ [] in
      let e = text-reads date_form ns date-fit in
      let y : 2000 + (d.year - 2000) ≡ d.year = omega (arith, (date-facts d.year d.month d.day h).first-year) in
      let a : number_at (layout_text date_form ns) 0 2 ≡ d.year - 2000 = nth _ date_form ns 0 e in
      let b : number_at (layout_text date_form ns) 3 2 ≡ d.month = nth _ date_form ns 1 e in
      let c : number_at (layout_text date_form ns) 6 2 ≡ d.day = nth _ date_form ns 2 e in
      rw (text-fits date_form ns date-plain date-fit, a, b, c, y, h)

pub date-read-is-text : (s : List ℕ) → (date_read s).ok ≡ true → date_text (date_read s).date ≡ s
unfolding date_read date_text numbers_from
date-read-is-text s h =
    let some = some_date (2000 + number_at s 0 2) (number_at s 3 2) (number_at s 6 2) in
    let f : fits (pattern date_form) s ≡ true = chosen (λ (r : DateRead). r.ok) (fits (pattern date_form) s) some no_date refl h in
    let k : some.ok ≡ true = rw f at h in
    let r : real_date (2000 + number_at s 0 2) (number_at s 3 2) (number_at s 6 2) ≡ true = chosen (λ (r : DateRead). r.ok) (real_date (2000 + number_at s 0 2) (number_at s 3 2) (number_at s 6 2)) _ no_date refl k in
    let y : 2000 + number_at s 0 2 - 2000 ≡ number_at s 0 2 = omega arith in
    rw (f, r, y) (form-is-text date_form s date-plain f)

-- ---- the clock of a write

module _ (c : Clock) (h : real_clock c ≡ true) where
  clock-fit : numbers_fit clock_form (c.date.day ∷ c.date.month ∷ c.date.year ∷ c.time.hour ∷ c.time.minute ∷ c.time.second ∷ []) ≡ true
  unfolding numbers_fit real_clock
  clock-fit =
      let hd = and_left (real_date c.date.year c.date.month c.date.day) (real_time c.time.hour c.time.minute c.time.second) h in
      let ht = and_right (real_date c.date.year c.date.month c.date.day) (real_time c.time.hour c.time.minute c.time.second) h in
      let d = date-facts c.date.year c.date.month c.date.day hd in
      let t = time-facts c.time.hour c.time.minute c.time.second ht in
      let m = days-most c.date.year c.date.month in
      rw (
        lt-ltb c.date.day 100 (omega (arith, d.last-day)),
        lt-ltb c.date.month 100 (omega (arith, d.last-month)),
        lt-ltb c.date.year 10000 (omega (arith, d.last-year)),
        lt-ltb c.time.hour 100 (omega (arith, t.hour)),
        lt-ltb c.time.minute 100 (omega (arith, t.minute)),
        lt-ltb c.time.second 100 (omega (arith, t.second)),
      )

  pub clock-reads-back : clock_read (clock_text c) ≡ record { ok = true; clock = c }
  unfolding clock_read clock_text numbers_from
  clock-reads-back =
      let ns = c.date.day ∷ c.date.month ∷ c.date.year ∷ c.time.hour ∷ c.time.minute ∷ c.time.second ∷ [] in
      let s = layout_text clock_form ns in
      let e = text-reads clock_form ns clock-fit in
      let a : number_at s 0 2 ≡ c.date.day = nth _ clock_form ns 0 e in
      let b : number_at s 3 2 ≡ c.date.month = nth _ clock_form ns 1 e in
      let y : number_at s 6 4 ≡ c.date.year = nth _ clock_form ns 2 e in
      let p : number_at s 11 2 ≡ c.time.hour = nth _ clock_form ns 3 e in
      let q : number_at s 14 2 ≡ c.time.minute = nth _ clock_form ns 4 e in
      let r : number_at s 17 2 ≡ c.time.second = nth _ clock_form ns 5 e in
      rw (text-fits clock_form ns clock-plain clock-fit, a, b, y, p, q, r, h)

pub clock-read-is-text : (s : List ℕ) → (clock_read s).ok ≡ true → clock_text (clock_read s).clock ≡ s
unfolding clock_read clock_text numbers_from
clock-read-is-text s h =
    let f : fits (pattern clock_form) s ≡ true = chosen (λ (r : ClockRead). r.ok) (fits (pattern clock_form) s) (some_clock (clock_in s)) no_clock refl h in
    let k : (some_clock (clock_in s)).ok ≡ true = rw f at h in
    let r : real_clock (clock_in s) ≡ true = chosen (λ (r : ClockRead). r.ok) (real_clock (clock_in s)) _ no_clock refl k in
    rw (f, r) (form-is-text clock_form s clock-plain f)

-- ---- the stamp

module _ (t : Stamp) (h : real_stamp t ≡ true) where
  stamp-date : RealDate t.date.year t.date.month t.date.day
  unfolding real_stamp
  stamp-date = date-facts _ _ _ (and_left (real_date t.date.year t.date.month t.date.day) (real_time t.hour t.minute 0) h)

  stamp-time : RealTime t.hour t.minute 0
  unfolding real_stamp
  stamp-time = time-facts _ _ _ (and_right (real_date t.date.year t.date.month t.date.day) (real_time t.hour t.minute 0) h)

  stamp-fit : numbers_fit stamp_form ((t.date.year - 2000) ∷ t.date.month ∷ t.date.day ∷ t.hour ∷ t.minute ∷ []) ≡ true
  unfolding numbers_fit
  stamp-fit =
      let d = stamp-date in
      let m = days-most t.date.year t.date.month in
      rw (
        lt-ltb (t.date.year - 2000) 100 (omega (arith, d.last-year)),
        lt-ltb t.date.month 100 (omega (arith, d.last-month)),
        lt-ltb t.date.day 100 (omega (arith, d.last-day)),
        lt-ltb t.hour 100 (omega (arith, stamp-time.hour)),
        lt-ltb t.minute 100 (omega (arith, stamp-time.minute)),
      )

  pub stamp-reads-back : stamp_read (stamp_text t) ≡ record { ok = true; stamp = t }
  unfolding stamp_read stamp_text numbers_from
  stamp-reads-back =
      let ns = (t.date.year - 2000) ∷ t.date.month ∷ t.date.day ∷ t.hour ∷ t.minute ∷ [] in
      let s = layout_text stamp_form ns in
      let e = text-reads stamp_form ns stamp-fit in
      let y : 2000 + (t.date.year - 2000) ≡ t.date.year = omega (arith, stamp-date.first-year) in
      let a : number_at s 0 2 ≡ t.date.year - 2000 = nth _ stamp_form ns 0 e in
      let b : number_at s 3 2 ≡ t.date.month = nth _ stamp_form ns 1 e in
      let c : number_at s 6 2 ≡ t.date.day = nth _ stamp_form ns 2 e in
      let p : number_at s 9 2 ≡ t.hour = nth _ stamp_form ns 3 e in
      let q : number_at s 12 2 ≡ t.minute = nth _ stamp_form ns 4 e in
      rw (text-fits stamp_form ns stamp-plain stamp-fit, a, b, c, p, q, y, h)

pub stamp-read-is-text : (s : List ℕ) → (stamp_read s).ok ≡ true → stamp_text (stamp_read s).stamp ≡ s
unfolding stamp_read stamp_text numbers_from
stamp-read-is-text s h =
    let f : fits (pattern stamp_form) s ≡ true = chosen (λ (r : StampRead). r.ok) (fits (pattern stamp_form) s) (some_stamp (stamp_in s)) no_stamp refl h in
    let k : (some_stamp (stamp_in s)).ok ≡ true = rw f at h in
    let r : real_stamp (stamp_in s) ≡ true = chosen (λ (r : StampRead). r.ok) (real_stamp (stamp_in s)) _ no_stamp refl k in
    let y : 2000 + number_at s 0 2 - 2000 ≡ number_at s 0 2 = omega arith in
    rw (f, r, y) (form-is-text stamp_form s stamp-plain f)

-- ---- the counter, over its digits and decimals

module _ (all decimals n : ℕ) (h : n < 10 ^ all) (low : decimals ≤ all) where
  counter-fit : numbers_fit (counter_form all decimals) ((n / 10 ^ decimals) ∷ (n % 10 ^ decimals) ∷ []) ≡ true
  unfolding numbers_fit
  counter-fit =
      let p : 10 ^ all ≡ 10 ^ (all - decimals) * 10 ^ decimals = ap (λ (k : ℕ). 10 ^ k) {y = all - decimals + decimals} (omega arith) ∙ pow-add 10 (all - decimals) decimals in
      let g : n < 10 ^ (all - decimals) * 10 ^ decimals = rw p at h in
      rw (lt-ltb _ _ ((div-lt_iff_lt-mul (ten-pos decimals)).1 g), lt-ltb _ _ (mod-lt n (ten-pos decimals)))

  pub counter-reads-back : counter_read all decimals (counter_text all decimals n) ≡ record { ok = true; number = n }
  unfolding counter_read counter_text numbers_from
  counter-reads-back =
      let ps = counter_form all decimals in
      let ns = (n / 10 ^ decimals) ∷ (n % 10 ^ decimals) ∷ [] in
      let e = text-reads ps ns counter-fit in
      let a : number_at (layout_text ps ns) 0 (all - decimals) ≡ n / 10 ^ decimals = nth _ ps ns 0 e in
      let b : number_at (layout_text ps ns) (0 + (all - decimals) + 1) decimals ≡ n % 10 ^ decimals = nth _ ps ns 1 e in
      let z : all - decimals + 1 ≡ 0 + (all - decimals) + 1 = omega arith in
      rw (text-fits ps ns (counter-plain all decimals) counter-fit, a, z, b, div-add-mod' n (10 ^ decimals))

pub counter-read-is-text : (all decimals : ℕ) (s : List ℕ) → (counter_read all decimals s).ok ≡ true → counter_text all decimals (counter_read all decimals s).number ≡ s
unfolding counter_read counter_text numbers_from
counter-read-is-text all decimals s h =
    let ps = counter_form all decimals in
    let f : fits (pattern ps) s ≡ true = chosen (λ (r : CounterRead). r.ok) (fits (pattern ps) s) _ (record { ok = false; number = 0 }) refl h in
    let a = number_at s 0 (all - decimals) in
    let b = number_at s (0 + (all - decimals) + 1) decimals in
    let z : all - decimals + 1 ≡ 0 + (all - decimals) + 1 = omega arith in
    let w : b < 10 ^ decimals = (form-within ps s f).1.0 in
    rw (f, z, digits_div a w, digits_mod a w) (form-is-text ps s (counter-plain all decimals) f)

-- ---- the table's number, over the number of tables

fit : (tables n : ℕ) → tables < 100 → good_table tables n ≡ true → numbers_fit table_form (n ∷ []) ≡ true
unfolding numbers_fit good_table between
fit tables n small h =
    let m : n ≤ tables = leb-true n tables (and_right (leb 1 n) (leb n tables) h) in
    rw (lt-ltb n 100 (omega arith))

pub table-reads-back : (tables n : ℕ) → tables < 100 → good_table tables n ≡ true → table_read tables (table_text n) ≡ record { ok = true; table = record { 0 = n } }
unfolding table_read table_text numbers_from
table-reads-back tables n small h =
    let e = text-reads table_form (n ∷ []) (fit tables n small h) in
    let a : number_at (layout_text table_form (n ∷ [])) 0 2 ≡ n = nth _ table_form (n ∷ []) 0 e in
    rw (text-fits table_form (n ∷ []) table-plain (fit tables n small h), a, h)

pub table-read-is-text : (tables : ℕ) (s : List ℕ) → (table_read tables s).ok ≡ true → table_text (table_read tables s).table.0 ≡ s
unfolding table_read table_text numbers_from
table-read-is-text tables s h =
    let some = some_table tables (number_at s 0 2) in
    let f : fits (pattern table_form) s ≡ true = chosen (λ (r : TableRead). r.ok) (fits (pattern table_form) s) some no_table refl h in
    let k : some.ok ≡ true = rw f at h in
    let r : good_table tables (number_at s 0 2) ≡ true = chosen (λ (r : TableRead). r.ok) (good_table tables (number_at s 0 2)) _ no_table refl k in
    rw (f, r) (form-is-text table_form s table-plain f)
