-- A serial's text reads back to its ten digits, and a text that reads as a serial is the text that shows it; account and row likewise.
-- Assumes nothing.
use mathlib.Core.Path.{◌≡◌, refl, sym, ap, ap₂, ◌∙◌}
use mathlib.Core.Bool.{Bool, true, false, cond}
use mathlib.Core.List.{List, [], ◌∷◌, ◌++◌, append-nil}
use Prim.Native.Nat.{ℕ, ◌+◌, ◌<◌, ◌^◌}
use native.Mathlib.Omega.{arith}
use borrow.Author.Tests.{lt-ltb}
use lib.Dec.{eqb}
use lib.ListN.{length, take, drop, take-append-drop, length-drop, length-append}
use lib.Seq.{take_at, drop_at, length-take-le, drop-append-add}
use Rattle.line.specs.Runs.{every}
use Rattle.line.proofs.Runs.{and_right, chosen, every_take, every_drop}
use Rattle.text.specs.Classes.{is_digit}
use Rattle.text.specs.Decimal.{decimal, value_of, number_at}
use Rattle.text.specs.Layout.{layout_text, numbers_from, pattern, fits, numbers_fit, plain}
use Rattle.text.proofs.Decimal.{decimal-value, value-lt, length-decimal}
use Rattle.text.proofs.Forms.{text-fits, form-is-text}
use Rattle.values.specs.Edition.{row_length}
use Rattle.values.specs.Registers.{good_digits, good_serial, good_account, good_row}
use Rattle.values.specs.Texts.{serial_text}
use Rattle.values.specs.Serials.{SerialRead, AccountRead, RowRead, serial_form, no_serial, serial_read, account_read, row_read}
use Rattle.values.proofs.Rules.{digits_long, account-long, row-long}
use Rattle.values.proofs.Fields.{fits-long}

serial-plain : plain serial_form ≡ true
unfolding plain every
serial-plain = refl

shown : (s : List ℕ) → serial_text s ≡ take 3 s ++ (32 ∷ drop 3 s)
unfolding serial_text
shown s = refl

-- what stands around the space
around : (d e s : List ℕ) → length d ≡ 3 → s ≡ d ++ (32 ∷ e) → take 3 s ++ drop 4 s ≡ d ++ e
around d e s n t =
    let k : 4 ≡ length d + 1 = omega arith in
    let rest : drop 4 (d ++ (32 ∷ e)) ≡ e = ap (λ (i : ℕ). drop i (d ++ (32 ∷ e))) k ∙ drop-append-add d (32 ∷ e) 1 in
    rw t (ap₂ ◌++◌ (take_at d (32 ∷ e) 3 n) rest)

shown-around : (d e : List ℕ) → length d ≡ 3 → serial_text (d ++ e) ≡ d ++ (32 ∷ e)
unfolding serial_text
shown-around d e n = rw (take_at d e 3 n, drop_at d e 3 n)

module _ (s : List ℕ) (good : good_serial s ≡ true) where
  all_digits : every is_digit s ≡ true
  unfolding good_digits
  all_digits = and_right (eqb (length s) 10) (every is_digit s) good

  three : length (take 3 s) ≡ 3
  three = length-take-le 3 s (omega (arith, digits_long 10 s good))

  seven : length (drop 3 s) ≡ 7
  seven = omega (arith, digits_long 10 s good, length-drop 3 s)

  -- the text is that of two numbers in the serial's form
  as-numbers : layout_text serial_form (value_of (take 3 s) ∷ value_of (drop 3 s) ∷ []) ≡ serial_text s
  unfolding layout_text serial_text
  as-numbers =
      let a : decimal 3 (value_of (take 3 s)) ≡ take 3 s = ap (λ (n : ℕ). decimal n (value_of (take 3 s))) (sym three) ∙ decimal-value (take 3 s) (every_take is_digit 3 s all_digits) in
      let b : decimal 7 (value_of (drop 3 s)) ≡ drop 3 s = ap (λ (n : ℕ). decimal n (value_of (drop 3 s))) (sym seven) ∙ decimal-value (drop 3 s) (every_drop is_digit 3 s all_digits) in
      rw (a, b) (ap (λ (l : List ℕ). take 3 s ++ (32 ∷ l)) (append-nil (drop 3 s)))

  within : numbers_fit serial_form (value_of (take 3 s) ∷ value_of (drop 3 s) ∷ []) ≡ true
  unfolding numbers_fit
  within =
      let a : value_of (take 3 s) < 10 ^ 3 = rw three at (value-lt (take 3 s) (every_take is_digit 3 s all_digits)) in
      let b : value_of (drop 3 s) < 10 ^ 7 = rw seven at (value-lt (drop 3 s) (every_drop is_digit 3 s all_digits)) in
      rw (lt-ltb (value_of (take 3 s)) (10 ^ 3) a, lt-ltb (value_of (drop 3 s)) (10 ^ 7) b)

  pub serial-reads-back : serial_read (serial_text s) ≡ record { ok = true; serial = s }
  unfolding serial_read
  serial-reads-back =
      let f : fits (pattern serial_form) (serial_text s) ≡ true = rw as-numbers at (text-fits serial_form (value_of (take 3 s) ∷ value_of (drop 3 s) ∷ []) serial-plain within) in
      rw f (ap (λ (l : List ℕ). record { ok = true; serial = l }) (around (take 3 s) (drop 3 s) (serial_text s) three text ∙ take-append-drop 3 s))
    where
      text : serial_text s ≡ take 3 s ++ (32 ∷ drop 3 s)
      text = shown s

pub serial-read-is-text : (s : List ℕ) → (serial_read s).ok ≡ true → serial_text (serial_read s).serial ≡ s
unfolding serial_read layout_text numbers_from
serial-read-is-text s h =
    let f : fits (pattern serial_form) s ≡ true = chosen (λ (r : SerialRead). r.ok) (fits (pattern serial_form) s) _ no_serial refl h in
    let d = decimal 3 (number_at s 0 3) in
    let e = decimal 7 (number_at s 4 7) in
    let text : s ≡ d ++ (32 ∷ e) = sym (form-is-text serial_form s serial-plain f) ∙ ap (λ (l : List ℕ). d ++ (32 ∷ l)) (append-nil e) in
    let three : length d ≡ 3 = length-decimal 3 (number_at s 0 3) in
    rw f (ap serial_text (around d e s three text) ∙ shown-around d e three ∙ sym text)

pub account-reads-back : (s : List ℕ) → good_account s ≡ true → account_read s ≡ record { ok = true; account = s }
unfolding account_read
account-reads-back s h = rw h

pub account-read-is-text : (s : List ℕ) → (account_read s).ok ≡ true → (account_read s).account ≡ s
unfolding account_read
account-read-is-text s h =
    rw (chosen (λ (r : AccountRead). r.ok) (good_account s) (record { ok = true; account = s }) _ refl h)

pub row-reads-back : (s : List ℕ) → good_row s ≡ true → row_read s ≡ record { ok = true; row = s }
unfolding row_read
row-reads-back s h = rw h

pub row-read-is-text : (s : List ℕ) → (row_read s).ok ≡ true → (row_read s).row ≡ s
unfolding row_read
row-read-is-text s h =
    rw (chosen (λ (r : RowRead). r.ok) (good_row s) (record { ok = true; row = s }) _ refl h)

-- what is read has its size, read or refused
of_either : {A : Type 0} (f : A → List ℕ) (b : Bool) (x y : A) (n : ℕ) → (b ≡ true → length (f x) ≡ n) → length (f y) ≡ n → length (f (cond b x y)) ≡ n
of_either f true x y n h k = h refl
of_either f false x y n h k = k

serial-digits-long : (s : List ℕ) → fits (pattern serial_form) s ≡ true → length (take 3 s ++ drop 4 s) ≡ 10
unfolding pattern
serial-digits-long s f =
    let n : length s ≡ 11 = fits-long (pattern serial_form) s f in
    let three : length (take 3 s) ≡ 3 = length-take-le 3 s (omega arith) in
    omega (arith, length-append (take 3 s) (drop 4 s), length-drop 4 s)

pub serial-read-long : (s : List ℕ) → length (serial_read s).serial ≡ 10
unfolding serial_read
serial-read-long s = of_either (λ (r : SerialRead). r.serial) (fits (pattern serial_form) s) _ no_serial 10 (serial-digits-long s) refl

pub account-read-long : (s : List ℕ) → length (account_read s).account ≡ 10
unfolding account_read
account-read-long s = of_either (λ (r : AccountRead). r.account) (good_account s) _ _ 10 (account-long s) refl

pub row-read-long : (s : List ℕ) → length (row_read s).row ≡ row_length
unfolding row_read
row-read-long s = of_either (λ (r : RowRead). r.row) (good_row s) _ _ row_length (row-long s) refl
