-- Digits without leading zeros: how many there are, and the number put in from its last digit on. Assumes nothing.
use mathlib.Core.Path.{◌≡◌, refl, sym, ap, ◌∙◌}
use mathlib.Core.Bool.{Bool, true, false, cond}
use mathlib.Core.List.{List, [], ◌∷◌, ◌++◌}
use Prim.Native.Nat.{ℕ, zero, suc, ◌+◌, ◌-◌, ◌*◌, ◌/◌, ◌%◌, ◌^◌, ◌<◌, ◌≤◌}
use native.Mathlib.Nat.{pow-suc}
use native.Mathlib.Omega.{arith}
use borrow.Author.Tests.{ltb-true, lt-ltb, le-ltb}
use lib.Dec.{ltb}
use lib.ListN.{length, set, length-append}
use lib.Seq.{set_comm}
use Rattle.text.specs.Decimal.{decimal, value_of}
use Rattle.text.specs.Writing.{stored}
use Rattle.text.proofs.Decimal.{length-decimal, value-decimal}
use Rattle.text.proofs.Writing.{stored-append}
use Rattle.numerals.specs.Numerals.{width_within, width_of, digits_of, number_line}

-- a digit fewer is left
pub width-more : (limit n : ℕ) → 0 < limit → 10 ≤ n → width_within limit n ≡ width_within (limit - 1) (n / 10) + 1
unfolding width_within
width-more zero n l h = absurd (omega arith)
width-more (suc limit) n l h =
    let e : suc limit - 1 ≡ limit = omega arith in
    rw (le-ltb n 10 h, e) (omega arith)

pub width_one : (limit n : ℕ) → n < 10 → width_within limit n ≡ 1
unfolding width_within
width_one zero n h = refl
width_one (suc limit) n h = rw (lt-ltb n 10 h)

pub width-none : (n : ℕ) → width_within 0 n ≡ 1
unfolding width_within
width-none n = refl

-- so many digits hold the number
pub width-holds : (limit n : ℕ) → n < 10 ^ suc limit → n < 10 ^ width_within limit n
unfolding width_within
width-holds zero n h = h
width-holds (suc limit) n h =
    let k : n < 10 ^ suc limit * 10 = rw (pow-suc 10 (suc limit)) at h in
    by (ltb n 10) refl (width-holds limit (n / 10) (omega arith))
  where
    by : (b : Bool) → ltb n 10 ≡ b → n / 10 < 10 ^ width_within limit (n / 10) → n < 10 ^ cond b 1 (suc (width_within limit (n / 10)))
    by true e r = omega (arith, ltb-true n 10 e)
    by false e r = rw (pow-suc 10 (width_within limit (n / 10))) (omega arith)

-- a number's last digit, and the digits before it
pub last-digit : (i n : ℕ) → 0 < i → decimal i n ≡ decimal (i - 1) (n / 10) ++ ((48 + n % 10) ∷ [])
unfolding decimal
last-digit zero n h = absurd (omega arith)
last-digit (suc i) n h =
    let e : i ≡ suc i - 1 = omega arith in
    ap (λ (k : ℕ). decimal k (n / 10) ++ ((48 + n % 10) ∷ [])) e

-- a character put in past a text may be put in before it
put-past : (xs buf : List ℕ) (at p x : ℕ) → at + length xs ≤ p → stored (set buf p x) at xs ≡ set (stored buf at xs) p x
unfolding stored
put-past [] buf at p x h = refl
put-past (y ∷ xs) buf at p x h =
    ap (λ (l : List ℕ). stored l (at + 1) xs) (set_comm buf p at x y (omega arith)) ∙ put-past xs (set buf at y) (at + 1) p x (omega arith)

stored_last : (buf : List ℕ) (at : ℕ) (xs : List ℕ) (x : ℕ) → stored buf at (xs ++ (x ∷ [])) ≡ stored (set buf (at + length xs) x) at xs
unfolding stored
stored_last buf at xs x = sym (stored-append buf at xs (x ∷ [])) ∙ sym (put-past xs buf at (at + length xs) x (omega arith))

-- one turn: the last digit of what is left
pub digit-turn : (buf : List ℕ) (at i n : ℕ) → 0 < i → stored buf at (decimal i n) ≡ stored (set buf (at + (i - 1)) (48 + n % 10)) at (decimal (i - 1) (n / 10))
digit-turn buf at i n h =
    rw (last-digit i n h)
    (stored_last buf at (decimal (i - 1) (n / 10)) (48 + n % 10)
    ∙ ap (λ (k : ℕ). stored (set buf (at + k) (48 + n % 10)) at (decimal (i - 1) (n / 10))) (length-decimal (i - 1) (n / 10)))

pub length_digits : (n : ℕ) → length (digits_of n) ≡ width_of n
unfolding digits_of
length_digits n = length-decimal (width_of n) n

-- no digit is left
pub digits-done : (buf : List ℕ) (at i n : ℕ) → i ≡ 0 → stored buf at (decimal i n) ≡ buf
unfolding stored decimal
digits-done buf at i n e = rw e

-- a u64 has 20 digits at most
width-limit : (limit n : ℕ) → width_within limit n ≤ limit + 1
unfolding width_within
width-limit zero n = omega arith
width-limit (suc limit) n = by (ltb n 10) (width-limit limit (n / 10))
  where
    by : (b : Bool) → width_within limit (n / 10) ≤ limit + 1 → cond b 1 (suc (width_within limit (n / 10))) ≤ suc limit + 1
    by true r = omega arith
    by false r = omega arith

pub digits-few : (n : ℕ) → length (digits_of n) ≤ 20
unfolding width_of
digits-few n = omega (arith, length_digits n, width-limit 19 n)

pub line-long : (n m : ℕ) → length (number_line n m) ≡ length (digits_of n) + 1 + length (digits_of m) + 1
unfolding number_line
line-long n m =
    omega (
      arith,
      length-append (digits_of n) ((32 ∷ []) ++ (digits_of m ++ (10 ∷ []))),
      length-append (digits_of m) (10 ∷ []),
    )

pub line-few : (n m : ℕ) → length (number_line n m) ≤ 42
line-few n m = omega (arith, line-long n m, digits-few n, digits-few m)

-- the digits say the number
pub digits-say : (n : ℕ) → n < 10 ^ 20 → value_of (digits_of n) ≡ n
unfolding digits_of width_of
digits-say n h = value-decimal (width_within 19 n) n (width-holds 19 n h)
