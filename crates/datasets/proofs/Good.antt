-- Each line that a meter shows is a good data set, and good data sets hold printable characters, CR and LF alone: no ETX.
-- Kind by kind of character (`Within`), over each value's form. Assumes nothing.
use mathlib.Core.Path.{◌≡◌, refl, ◌∙◌}
use mathlib.Core.Bool.{Bool, true, false, cond, ◌&&◌}
use mathlib.Core.List.{List, [], ◌∷◌, ◌++◌}
use Prim.Native.Nat.{ℕ, ◌≤◌}
use native.Mathlib.Omega.{arith}
use borrow.Author.Tests.{le-leb}
use lib.Dec.{leb, eqb}
use lib.ListN.{length, take, drop, length-append}
use Rattle.line.specs.Runs.{every}
use Rattle.line.proofs.Runs.{and_left, and_right, and_both, every_append, every_take, every_drop, every-weaker}
use Rattle.text.specs.Classes.{between, is_digit, is_letter, is_printable, is_address, is_value}
use Rattle.text.specs.Layout.{layout_text}
use Rattle.text.specs.Decimal.{decimal}
use Rattle.text.proofs.Decimal.{decimal-digits, length-decimal}
use Rattle.clock.specs.declared.Date.{Date}
use Rattle.clock.specs.declared.Time.{Time}
use Rattle.clock.specs.declared.Stamp.{Stamp}
use Rattle.values.specs.Family.{counter_digits, counter_decimals, import_name, export_name}
use Rattle.values.specs.Registers.{is_account_character}
use Rattle.values.specs.Texts.{serial_text, table_text, date_text, time_text, stamp_text, counter_text, energy_text, date_form, time_form, stamp_form, counter_form, table_form}
use Rattle.values.proofs.Families.{shown, energy-long}
use Rattle.datasets.specs.Sets.{DataSet, data_set, lines_of, line_of, time_set, date_set, serial_set, account_set, energy_name, energy_set, table_set, closed_set, kept_set}
use Rattle.datasets.specs.Good.{good_set, good_sets}
use Rattle.datasets.proofs.Lengths.{time-long, date-long, stamp-long, serial-long, name-long}
use Rattle.datasets.proofs.Characters.{digit-shown, digit-address, account-shown, row-shown, value_line, address_line, layout-within}

-- an address and a value of their kinds and lengths
good : (s : DataSet) → between 1 16 (length s.address) ≡ true → every is_address s.address ≡ true → length s.value ≤ 32
    → every is_value s.value ≡ true → good_set s ≡ true
unfolding good_set
good s n a m v = rw (n, a, le-leb (length s.value) 32 m, v)

-- fixed characters are tested by computing
pub time-good : (t : Time) → good_set (time_set t) ≡ true
unfolding every is_address is_letter is_digit between time_text is_value is_printable
time-good t = good (time_set t) refl refl (omega (arith, time-long t)) (layout-within is_value digit-shown time_form _ refl)

pub date-good : (d : Date) → good_set (date_set d) ≡ true
unfolding every is_address is_letter is_digit between date_text is_value is_printable
date-good d = good (date_set d) refl refl (omega (arith, date-long d)) (layout-within is_value digit-shown date_form _ refl)

serial-shown : (s : List ℕ) → every is_digit s ≡ true → every is_value (serial_text s) ≡ true
unfolding serial_text every
serial-shown s h =
    every_append is_value (take 3 s) (32 ∷ drop 3 s)
    (every-weaker is_digit is_value digit-shown (take 3 s) (every_take is_digit 3 s h))
    (and_both (is_value 32) (every is_value (drop 3 s)) (unfold is_value is_printable between in refl)
    (every-weaker is_digit is_value digit-shown (drop 3 s) (every_drop is_digit 3 s h)))

pub serial-good : (s : List ℕ) → length s ≡ 10 → every is_digit s ≡ true → good_set (serial_set s) ≡ true
unfolding every is_address is_letter is_digit between
serial-good s n h = good (serial_set s) refl refl (omega (arith, serial-long s n)) (serial-shown s h)

pub account-good : (s : List ℕ) → length s ≡ 10 → every is_account_character s ≡ true → good_set (account_set s) ≡ true
unfolding every is_address is_letter is_digit between
account-good s n h = good (account_set s) refl refl (omega arith) (every-weaker is_account_character is_value account-shown s h)

pub table-good : (n : ℕ) (row : List ℕ) → length row ≤ 32 → every (between 49 52) row ≡ true → good_set (table_set n row) ≡ true
unfolding every is_address is_letter is_digit between table_text
table-good n row short h =
    good (table_set n row) (unfold layout_text decimal in refl) (layout-within is_address digit-address table_form (n ∷ []) refl) short
    (every-weaker (between 49 52) is_value row-shown row h)

-- [12]: a number in digits stands in an address, and so does '*'
in-digits : (width n : ℕ) → every is_address (decimal width n) ≡ true
in-digits width n = every-weaker is_digit is_address digit-address (decimal width n) (decimal-digits width n)

pub closed-good : (k : ℕ) (t : Stamp) → good_set (closed_set k t) ≡ true
unfolding every is_address is_letter is_digit between stamp_text is_value is_printable
closed-good k t =
    good (closed_set k t) (unfold decimal in refl) (in-digits 2 k) (omega (arith, stamp-long t)) (layout-within is_value digit-shown stamp_form _ refl)

-- [10]: so does an energy's name, which is short
name-good : (family : ℕ) (out : Bool) → every is_address (energy_name family out) ≡ true
unfolding energy_name import_name every is_address is_letter is_digit between
name-good family out = by (eqb family 0) out
  where
    by : (b o : Bool) → every is_address (cond o export_name (cond b (49 ∷ 53 ∷ 46 ∷ 56 ∷ 46 ∷ []) (49 ∷ 46 ∷ 56 ∷ 46 ∷ []))) ≡ true
    by b true = refl
    by true false = refl
    by false false = refl

energy-shown : (family count : ℕ) → every is_value (energy_text family count) ≡ true
unfolding energy_text counter_text every is_value is_printable between
energy-shown family count = layout-within is_value digit-shown (counter_form (counter_digits family) (counter_decimals family)) _ refl

short : (n : ℕ) → 1 ≤ n → n ≤ 16 → between 1 16 n ≡ true
unfolding between
short n some few = rw (le-leb 1 n some, le-leb n 16 few)

named : (family : ℕ) (out : Bool) (number : List ℕ) (count : ℕ) → 1 ≤ length number → length number ≤ 4 → every is_address number ≡ true
    → good_set (record { address = energy_name family out ++ number; value = energy_text family count }) ≡ true
named family out number count some few h =
    let name = energy_name family out in
    let long = length-append name number in
    good (record { address = name ++ number; value = energy_text family count })
    (short (length (name ++ number)) (omega arith) (omega (arith, name-long family out)))
    (every_append is_address name number (name-good family out) h)
    (omega (arith, energy-long family count, (shown family).digits-most)) (energy-shown family count)

pub energy-good : (family : ℕ) (out : Bool) (n count : ℕ) → good_set (energy_set family out n count) ≡ true
energy-good family out n count = named family out (decimal 1 n) count (omega (arith, length-decimal 1 n)) (omega (arith, length-decimal 1 n)) (in-digits 1 n)

pub kept-good : (family : ℕ) (out : Bool) (k n count : ℕ) → good_set (kept_set family out k n count) ≡ true
kept-good family out k n count =
    let number = decimal 1 n ++ (42 ∷ decimal 2 k) in
    let long : length number ≡ 4 = length-append (decimal 1 n) (42 ∷ decimal 2 k) ∙ omega (arith, length-decimal 1 n, length-decimal 2 k) in
    named family out number count (omega arith) (omega arith)
    (every_append is_address (decimal 1 n) (42 ∷ decimal 2 k) (in-digits 1 n) (unfold every is_address is_letter is_digit between in (in-digits 2 k)))

pub good-append : (s t : List DataSet) → good_sets s ≡ true → good_sets t ≡ true → good_sets (s ++ t) ≡ true
unfolding good_sets
good-append [] t hs ht = ht
good-append (x ∷ s) t hs ht = and_both (good_set x) (good_sets (s ++ t)) (and_left (good_set x) (good_sets s) hs) (good-append s t (and_right (good_set x) (good_sets s) hs) ht)

-- a good data set's line holds printable characters, CR and LF
line-shown : (address value : List ℕ) → every is_address address ≡ true → every is_value value ≡ true
    → every (between 10 126) (data_set address value) ≡ true
unfolding data_set every between
line-shown address value a v =
    every_append (between 10 126) address (40 ∷ (value ++ (41 ∷ 13 ∷ 10 ∷ []))) (every-weaker is_address (between 10 126) address_line address a)
    (every_append (between 10 126) value (41 ∷ 13 ∷ 10 ∷ []) (every-weaker is_value (between 10 126) value_line value v) refl)

set-shown : (s : DataSet) → good_set s ≡ true → every (between 10 126) (line_of s) ≡ true
unfolding good_set
set-shown s h =
    let a = between 1 16 (length s.address) in
    let b = every is_address s.address in
    let c = leb (length s.value) 32 in
    let d = every is_value s.value in
    line-shown s.address s.value (and_right a b (and_left (a && b) (c && d) h)) (and_right c d (and_right (a && b) (c && d) h))

pub lines-shown : (ss : List DataSet) → good_sets ss ≡ true → every (between 10 126) (lines_of ss) ≡ true
unfolding good_sets lines_of
lines-shown [] h = unfold every in refl
lines-shown (s ∷ ss) h =
    every_append (between 10 126) (line_of s) (lines_of ss) (set-shown s (and_left (good_set s) (good_sets ss) h)) (lines-shown ss (and_right (good_set s) (good_sets ss) h))
