-- A number written in digits reads back, and digits that are read are written back. Assumes nothing.
use mathlib.Core.Path.{◌≡◌, refl, sym, ap, ap₂, ◌∙◌}
use mathlib.Core.Bool.{true}
use mathlib.Core.List.{List, [], ◌∷◌, ◌++◌, append-nil, append_assoc}
use Prim.Native.Nat.{ℕ, zero, suc, ◌+◌, ◌-◌, ◌*◌, ◌/◌, ◌%◌, ◌^◌, ◌<◌, ◌≤◌}
use native.Mathlib.Nat.{lt_of_lt_of_le, le_trans, le_of_eq, mul-le-mul_right, mul_assoc, mul_comm, one-mul, pow-suc, pow-succ', add-suc, add-zero, zero-add, mod-lt, zero-lt-suc, div-one, div-div-eq-div-mul}
use native.Mathlib.Omega.{arith}
use borrow.Author.Tests.{leb-true, le-leb}
use lib.Arith.{digits_div, digits_mod, mod-mul}
use lib.Dec.{leb, lit<}
use lib.ListN.{length, get_or, length-append}
use Rattle.line.specs.Runs.{every}
use Rattle.line.proofs.Runs.{left-next, every_append, and_left, and_right}
use Rattle.text.specs.Classes.{between, is_digit}
use Rattle.text.specs.Decimal.{decimal, value_from, value_of, number_at}

pub digit_low : (c : ℕ) → is_digit c ≡ true → 48 ≤ c
unfolding is_digit between
digit_low c e = leb-true 48 c (and_left (leb 48 c) (leb c 57) e)

pub digit-high : (c : ℕ) → is_digit c ≡ true → c ≤ 57
unfolding is_digit between
digit-high c e = leb-true c 57 (and_right (leb 48 c) (leb c 57) e)

pub digit-is : (n : ℕ) → n < 10 → is_digit (48 + n) ≡ true
unfolding is_digit between
digit-is n h = rw (le-leb 48 (48 + n) (omega arith), le-leb (48 + n) 57 (omega arith))

pub length-decimal : (w n : ℕ) → length (decimal w n) ≡ w
unfolding decimal
length-decimal zero n = refl
length-decimal (suc w) n = length-append (decimal w (n / 10)) ((48 + n % 10) ∷ []) ∙ (rw (length-decimal w (n / 10)) (omega arith))

value-snoc : (acc : ℕ) (s : List ℕ) (c : ℕ) → value_from acc (s ++ (c ∷ [])) ≡ value_from acc s * 10 + (c - 48)
unfolding value_from
value-snoc acc [] c = refl
value-snoc acc (x ∷ s) c = value-snoc (acc * 10 + (x - 48)) s c

pub value-decimal : (w n : ℕ) → n < 10 ^ w → value_of (decimal w n) ≡ n
unfolding value_of decimal
value-decimal zero n h = omega arith
value-decimal (suc w) n h =
    let k : n < 10 ^ w * 10 = rw (pow-suc 10 w) at h in
    let e = value-decimal w (n / 10) (omega arith) in
    value-snoc 0 (decimal w (n / 10)) (48 + n % 10) ∙ (rw e (omega arith))

-- the last digit, put back
last-digit : (w acc c : ℕ) (s : List ℕ) → 48 ≤ c → c ≤ 57 → decimal (suc w) (acc * 10 + (c - 48)) ++ s ≡ decimal w acc ++ (c ∷ s)
unfolding decimal
last-digit w acc c s low high =
    let q : (acc * 10 + (c - 48)) / 10 ≡ acc = omega arith in
    let r : 48 + (acc * 10 + (c - 48)) % 10 ≡ c = omega arith in
    rw (q, r) (append_assoc (decimal w acc) (c ∷ []) s)

-- digits after those of acc
decimal-from : (s : List ℕ) (w acc : ℕ) → every is_digit s ≡ true → decimal (w + length s) (value_from acc s) ≡ decimal w acc ++ s
unfolding value_from every
decimal-from [] w acc e = ap (λ (k : ℕ). decimal k acc) (add-zero w) ∙ sym (append-nil (decimal w acc))
decimal-from (c ∷ s) w acc e =
    let d = and_left (is_digit c) (every is_digit s) e in
    let low = digit_low c d in
    let high = digit-high c d in
    ap (λ (k : ℕ). decimal k (value_from (acc * 10 + (c - 48)) s)) (omega arith)
    ∙ decimal-from s (suc w) (acc * 10 + (c - 48)) (and_right (is_digit c) (every is_digit s) e)
    ∙ last-digit w acc c s low high

pub decimal-value : (s : List ℕ) → every is_digit s ≡ true → decimal (length s) (value_of s) ≡ s
unfolding value_of decimal
decimal-value s e = ap (λ (k : ℕ). decimal k (value_from 0 s)) (sym (zero-add (length s))) ∙ decimal-from s 0 0 e

pub decimal-digits : (w n : ℕ) → every is_digit (decimal w n) ≡ true
unfolding decimal every
decimal-digits zero n = refl
decimal-digits (suc w) n =
    every_append is_digit (decimal w (n / 10)) ((48 + n % 10) ∷ []) (decimal-digits w (n / 10))
    (rw (digit-is (n % 10) (mod-lt n (zero-lt-suc 9))))

value-below : (s : List ℕ) (acc : ℕ) → every is_digit s ≡ true → value_from acc s < (acc + 1) * 10 ^ length s
unfolding value_from every
value-below [] acc e = omega arith
value-below (c ∷ s) acc e =
    let high = digit-high c (and_left (is_digit c) (every is_digit s) e) in
    let step = value-below s (acc * 10 + (c - 48)) (and_right (is_digit c) (every is_digit s) e) in
    lt_of_lt_of_le step
    (le_trans (mul-le-mul_right (10 ^ length s) (omega arith))
    (le_of_eq (mul_assoc (acc + 1) 10 (10 ^ length s) ∙ ap (λ (k : ℕ). (acc + 1) * k) (mul_comm 10 (10 ^ length s) ∙ sym (pow-suc 10 (length s))))))

-- so many digits say a number of so many digits
pub value-lt : (s : List ℕ) → every is_digit s ≡ true → value_of s < 10 ^ length s
unfolding value_of
value-lt s e = lt_of_lt_of_le (value-below s 0 e) (le_of_eq (one-mul (10 ^ length s)))

pub ten-pos : (k : ℕ) → 0 < 10 ^ k
ten-pos zero = lit< tt
ten-pos (suc k) = rw (pow-suc 10 k) (omega (arith, ten-pos k))

-- digits cut in two: the last b are the number's own last digits
pub decimal-split : (a b n : ℕ) → decimal (a + b) n ≡ decimal a (n / 10 ^ b) ++ decimal b n
unfolding decimal
decimal-split a zero n = ap₂ decimal (add-zero a) (sym (div-one n)) ∙ sym (append-nil (decimal a (n / 10 ^ 0)))
decimal-split a (suc b) n =
    let ten : 10 * 10 ^ b ≡ 10 ^ suc b = sym (pow-succ' 10 b) in
    let one = (48 + n % 10) ∷ [] in
    ap (λ (k : ℕ). decimal k n) (add-suc a b)
    ∙ ap (λ (s : List ℕ). s ++ one) (decimal-split a b (n / 10))
    ∙ append_assoc (decimal a (n / 10 / 10 ^ b)) (decimal b (n / 10)) one
    ∙ ap (λ (k : ℕ). decimal a k ++ (decimal b (n / 10) ++ one)) (div-div-eq-div-mul n 10 (10 ^ b) ∙ ap (λ (k : ℕ). n / k) ten)

-- and a number's last digits are those of what it leaves
pub decimal-mod : (b n : ℕ) → decimal b (n % 10 ^ b) ≡ decimal b n
unfolding decimal
decimal-mod zero n = refl
decimal-mod (suc b) n =
    let cut : n % 10 ^ suc b ≡ (n / 10 % 10 ^ b) * 10 + n % 10 = ap (λ (k : ℕ). n % k) (pow-suc 10 b) ∙ mod-mul n (ten-pos b) (lit< tt) in
    let low : n % 10 < 10 = mod-lt n (zero-lt-suc 9) in
    rw (cut, digits_div (n / 10 % 10 ^ b) low, digits_mod (n / 10 % 10 ^ b) low, decimal-mod b (n / 10))

-- the two digits at a place, and a number that is cut in two
pub two_at : (s : List ℕ) (at : ℕ) → at + 2 ≤ length s → number_at s at 2 ≡ (get_or s at 0 - 48) * 10 + (get_or s (at + 1) 0 - 48)
unfolding number_at value_of value_from
two_at s at h =
    rw (left-next at s (omega arith), left-next (at + 1) s (omega arith)) (omega arith)

pub four-at : (s : List ℕ) (at : ℕ) → at + 4 ≤ length s → number_at s at 4 ≡ number_at s at 2 * 100 + number_at s (at + 2) 2
unfolding number_at value_of value_from
four-at s at h =
    let a : at < length s = omega arith in
    let b : at + 1 < length s = omega arith in
    let c : at + 1 + 1 < length s = omega arith in
    let d : at + 1 + 1 + 1 < length s = omega arith in
    let e : at + 2 ≡ at + 1 + 1 = omega arith in
    rw (e, left-next at s a, left-next (at + 1) s b, left-next (at + 1 + 1) s c, left-next (at + 1 + 1 + 1) s d) (omega arith)
