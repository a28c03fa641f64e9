-- How long each value's text and each line is. Assumes nothing.
use mathlib.Core.Path.{◌≡◌, refl, sym, ap, ◌∙◌}
use mathlib.Core.Bool.{Bool, true, false, cond}
use mathlib.Core.List.{List, [], ◌∷◌, ◌++◌, append_assoc}
use Prim.Native.Nat.{ℕ, ◌+◌, ◌≤◌}
use native.Mathlib.Omega.{arith}
use lib.Dec.{eqb}
use lib.ListN.{length, take, drop, length-append, length-drop}
use lib.Seq.{length-take-le}
use Rattle.text.specs.Decimal.{decimal}
use Rattle.text.proofs.Decimal.{length-decimal}
use Rattle.text.specs.Layout.{layout_text}
use Rattle.clock.specs.declared.Date.{Date}
use Rattle.clock.specs.declared.Time.{Time}
use Rattle.clock.specs.declared.Stamp.{Stamp}
use Rattle.values.specs.Texts.{serial_text, table_text, date_text, time_text, stamp_text}
use Rattle.values.specs.Family.{counter_digits, import_name, export_name}
use Rattle.values.proofs.Families.{shown, energy-long}
use Rattle.datasets.specs.Sets.{DataSet, data_set, lines_of, line_of, time_set, date_set, serial_set, account_set, energy_name, energy_set, table_set, closed_set, kept_set}

pub time-long : (t : Time) → length (time_text t) ≡ 8
unfolding time_text layout_text decimal
time-long t = refl

pub date-long : (d : Date) → length (date_text d) ≡ 8
unfolding date_text layout_text decimal
date-long d = refl

pub stamp-long : (t : Stamp) → length (stamp_text t) ≡ 14
unfolding stamp_text layout_text decimal
stamp-long t = refl

pub table-long : (n : ℕ) → length (table_text n) ≡ 2
unfolding table_text layout_text decimal
table-long n = refl

pub serial-long : (s : List ℕ) → length s ≡ 10 → length (serial_text s) ≡ 11
unfolding serial_text
serial-long s h =
    length-append (take 3 s) (32 ∷ drop 3 s) ∙ omega (arith, length-take-le 3 s (omega arith), length-drop 3 s)

-- a line is its address, its value and four characters
pub line-long : (address value : List ℕ) → length (data_set address value) ≡ length address + length value + 4
unfolding data_set
line-long address value =
    length-append address (40 ∷ (value ++ (41 ∷ 13 ∷ 10 ∷ []))) ∙ omega (arith, length-append value (41 ∷ 13 ∷ 10 ∷ []))

-- and lines are as long as each of them
pub lines-append : (s t : List DataSet) → lines_of (s ++ t) ≡ lines_of s ++ lines_of t
unfolding lines_of
lines-append [] t = refl
lines-append (x ∷ s) t = ap (λ (l : List ℕ). line_of x ++ l) (lines-append s t) ∙ sym (append_assoc (line_of x) (lines_of s) (lines_of t))

pub lines_cons : (s : DataSet) (ss : List DataSet) → length (lines_of (s ∷ ss)) ≡ length (line_of s) + length (lines_of ss)
unfolding lines_of
lines_cons s ss = length-append (line_of s) (lines_of ss)

pub time-line : (t : Time) → length (line_of (time_set t)) ≡ 17
time-line t = line-long (time_set t).address (time_text t) ∙ omega (arith, time-long t)

pub date-line : (d : Date) → length (line_of (date_set d)) ≡ 17
date-line d = line-long (date_set d).address (date_text d) ∙ omega (arith, date-long d)

pub serial-line : (s : List ℕ) → length s ≡ 10 → length (line_of (serial_set s)) ≡ 20
serial-line s h = line-long (serial_set s).address (serial_text s) ∙ omega (arith, serial-long s h)

pub account-line : (s : List ℕ) → length s ≡ 10 → length (line_of (account_set s)) ≡ 19
account-line s h = line-long (account_set s).address s ∙ omega arith

pub name-long : (family : ℕ) (out : Bool) → length (energy_name family out) ≤ 5
unfolding energy_name import_name
name-long family out = by (eqb family 0) out
  where
    by : (b o : Bool) → length (cond o export_name (cond b (49 ∷ 53 ∷ 46 ∷ 56 ∷ 46 ∷ []) (49 ∷ 46 ∷ 56 ∷ 46 ∷ []))) ≤ 5
    by b true = omega arith
    by true false = omega arith
    by false false = omega arith

pub energy-line : (family : ℕ) (out : Bool) (n count : ℕ)
    → length (line_of (energy_set family out n count)) ≡ length (energy_name family out) + (counter_digits family + 10)
energy-line family out n count =
    line-long (energy_set family out n count).address (energy_set family out n count).value
    ∙ omega (arith, length-append (energy_name family out) (decimal 1 n), length-decimal 1 n, energy-long family count)

pub energy-most : (family : ℕ) (out : Bool) (n count : ℕ) → length (line_of (energy_set family out n count)) ≤ 24
energy-most family out n count = omega (arith, energy-line family out n count, name-long family out, (shown family).digits-most)

pub table-line : (n : ℕ) (row : List ℕ) → length (line_of (table_set n row)) ≡ 12 + length row
table-line n row = line-long (table_set n row).address row ∙ omega (arith, table-long n)

pub closed-line : (k : ℕ) (t : Stamp) → length (line_of (closed_set k t)) ≡ 26
unfolding decimal
closed-line k t = line-long (closed_set k t).address (stamp_text t) ∙ omega (arith, stamp-long t)

pub kept_line : (family : ℕ) (out : Bool) (k n count : ℕ)
    → length (line_of (kept_set family out k n count)) ≡ length (energy_name family out) + (counter_digits family + 13)
kept_line family out k n count =
    line-long (kept_set family out k n count).address (kept_set family out k n count).value
    ∙ omega (
      arith,
      length-append (energy_name family out) (decimal 1 n ++ (42 ∷ decimal 2 k)),
      length-append (decimal 1 n) (42 ∷ decimal 2 k),
      length-decimal 1 n,
      length-decimal 2 k,
      energy-long family count,
    )

pub kept-most : (family : ℕ) (out : Bool) (k n count : ℕ) → length (line_of (kept_set family out k n count)) ≤ 27
kept-most family out k n count = omega (arith, kept_line family out k n count, name-long family out, (shown family).digits-most)
