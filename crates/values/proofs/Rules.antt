-- What the rule of a register says of its length or its size, and the lengths of the texts that show it. Assumes nothing.
use mathlib.Core.Path.{◌≡◌, refl, ◌∙◌}
use mathlib.Core.Bool.{Bool, true, false, ◌&&◌}
use mathlib.Core.List.{List, ◌∷◌}
use Prim.Native.Nat.{ℕ, ◌≤◌}
use native.Mathlib.Omega.{arith}
use borrow.Author.Tests.{eqb-true, leb-true, ne_eqb}
use lib.Dec.{eqb, leb}
use lib.ListN.{length, take, drop, length-append, length-drop}
use lib.Seq.{length-take-le}
use Rattle.line.specs.Runs.{every}
use Rattle.line.proofs.Runs.{and_left, and_right}
use Rattle.text.specs.Classes.{between, is_digit}
use Rattle.text.specs.Decimal.{decimal}
use Rattle.text.specs.Layout.{layout_text}
use Rattle.clock.specs.declared.Clock.{Clock}
use Rattle.values.specs.Edition.{row_length}
use Rattle.values.specs.Registers.{good_digits, is_account_character, good_account, good_row, good_zone}
use Rattle.values.specs.Texts.{parted, serial_text, wired_text, table_text, clock_text}

pub digits_long : (n : ℕ) (s : List ℕ) → good_digits n s ≡ true → length s ≡ n
unfolding good_digits
digits_long n s h = eqb-true (length s) n (and_left (eqb (length s) n) (every is_digit s) h)

pub account-long : (s : List ℕ) → good_account s ≡ true → length s ≡ 10
unfolding good_account
account-long s h = eqb-true (length s) 10 (and_left (eqb (length s) 10) (every is_account_character s) h)

pub row-long : (s : List ℕ) → good_row s ≡ true → length s ≡ row_length
unfolding good_row
row-long s h = eqb-true (length s) row_length (and_left (eqb (length s) row_length) (every (between 49 52) s) h)

-- and another length lies outside it
other_length : (n : ℕ) (s : List ℕ) (rest : Bool) → (length s ≡ n → ⊥) → (eqb (length s) n && rest) ≡ false
other_length n s rest h = rw (ne_eqb (length s) n h)

pub no-digits : (n : ℕ) (s : List ℕ) → (length s ≡ n → ⊥) → good_digits n s ≡ false
unfolding good_digits
no-digits n s h = other_length n s _ h

pub no-account : (s : List ℕ) → (length s ≡ 10 → ⊥) → good_account s ≡ false
unfolding good_account
no-account s h = other_length 10 s _ h

pub no_row : (s : List ℕ) → (length s ≡ row_length → ⊥) → good_row s ≡ false
unfolding good_row
no_row s h = other_length row_length s _ h

pub zone-most : (n : ℕ) → good_zone n ≡ true → n ≤ 4
unfolding good_zone between
zone-most n h = leb-true n 4 (and_right (leb 1 n) (leb n 4) h)

parted-long : (x : ℕ) (s : List ℕ) → length s ≡ 10 → length (parted x s) ≡ 11
parted-long x s h =
    let three : length (take 3 s) ≡ 3 = length-take-le 3 s (omega arith) in
    length-append (take 3 s) (x ∷ drop 3 s) ∙ (rw three (omega (arith, length-drop 3 s)))

pub serial-text-long : (s : List ℕ) → length s ≡ 10 → length (serial_text s) ≡ 11
unfolding serial_text
serial-text-long s h = parted-long 32 s h

pub wired-text-long : (s : List ℕ) → length s ≡ 10 → length (wired_text s) ≡ 11
unfolding wired_text
wired-text-long s h = parted-long 46 s h

pub table-text-long : (n : ℕ) → length (table_text n) ≡ 2
unfolding table_text layout_text decimal
table-text-long n = refl

pub clock-text-long : (c : Clock) → length (clock_text c) ≡ 19
unfolding clock_text layout_text decimal
clock-text-long c = refl
