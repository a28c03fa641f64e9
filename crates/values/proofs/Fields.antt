-- What a text's form says of the numbers that stand in it: where they are, and that each is within its digits.
-- All of it is `form-within`, read at one form. Assumes nothing.
use mathlib.Core.Path.{◌≡◌, sym}
use mathlib.Core.Bool.{true, false}
use mathlib.Core.List.{List}
use Prim.Native.Nat.{ℕ}
use native.Mathlib.Omega.{arith}
use lib.ListN.{length}
use Rattle.text.specs.Layout.{pattern, fits, numbers_from, agrees}
use Rattle.text.proofs.Matching.{matched-length, matching-length}
use Rattle.text.proofs.Forms.{form-within}
use Rattle.values.specs.Texts.{three_twos, clock_form, table_form}
use Rattle.values.specs.Numbers.{ThreeAt, ClockAt, TableAt}

-- a text of a form is as long as its pattern
pub fits-long : (p s : List ℕ) → fits p s ≡ true → length s ≡ length p
unfolding fits
fits-long p s h = sym (matched-length agrees p s h)

-- and a text of another length has not that form
pub misfit : (p s : List ℕ) → (length s ≡ length p → ⊥) → fits p s ≡ false
unfolding fits
misfit p s h = matching-length agrees p s (λ e. h (sym e))

pub three-fields : (sep : ℕ) (s : List ℕ) → fits (pattern (three_twos sep)) s ≡ true → ThreeAt s 0
unfolding numbers_from pattern
three-fields sep s h =
    let n : length s ≡ 8 = fits-long (pattern (three_twos sep)) s h in
    let f = form-within (three_twos sep) s h in
    record { room = omega arith; first = f.0; second = f.1.0; third = f.1.1.0 }

pub clock-fields : (s : List ℕ) → fits (pattern clock_form) s ≡ true → ClockAt s
unfolding numbers_from pattern
clock-fields s h =
    let n : length s ≡ 19 = fits-long (pattern clock_form) s h in
    let f = form-within clock_form s h in
    let t = f.1.1.1 in
    record {
      long = n;
      day = f.0;
      month = f.1.0;
      year = f.1.1.0;
      time = record { room = omega arith; first = t.0; second = t.1.0; third = t.1.1.0 };
    }

pub table-fields : (s : List ℕ) → fits (pattern table_form) s ≡ true → TableAt s
unfolding numbers_from pattern
table-fields s h = record { long = fits-long (pattern table_form) s h; number = (form-within table_form s h).0 }
