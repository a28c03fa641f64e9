-- The count of ones, even or odd: of an exclusive-or it is that of the two counts, and the CRC's polynomial keeps it, since it has the factor
-- x + 1. So a CRC is odd just where its message is. Assumes nothing.
use mathlib.Core.Path.{◌≡◌, refl, sym, ap, ap₂, ◌∙◌}
use mathlib.Core.List.{List, [], ◌∷◌}
use Prim.Native.Nat.{ℕ, zero, suc, ◌+◌, ◌*◌, ◌/◌, ◌%◌, ◌<◌}
use native.Mathlib.Nat.{mod-lt, zero-lt-suc}
use native.Mathlib.Omega.{arith}
use lib.Arith.{bin_ind}
use lib.Count.{ones, ones_step}
use lib.Bits.{bit_xor, xor_shr, xor_mod}
use Rattle.crc.specs.Crc.{bit_out, out, joined, crc_from, POLYNOMIAL}
use Rattle.crc.specs.Splitting.{ODD}

digits-differ : (x y : ℕ) → x < 2 → y < 2 → bit_xor x y ≡ (x + y) % 2
digits-differ zero zero hx hy = refl
digits-differ zero (suc zero) hx hy = refl
digits-differ zero (suc (suc y)) hx hy = absurd (omega arith)
digits-differ (suc zero) zero hx hy = refl
digits-differ (suc zero) (suc zero) hx hy = refl
digits-differ (suc zero) (suc (suc y)) hx hy = absurd (omega arith)
digits-differ (suc (suc x)) y hx hy = absurd (omega arith)

-- sums of what is even or odd alike
alike : (x h s t : ℕ) → x ≡ s % 2 → h % 2 ≡ t % 2 → (x + h) % 2 ≡ (s + t) % 2
alike x h s t e f = omega arith

both-alike : (h s t u : ℕ) → h % 2 ≡ s % 2 → t % 2 ≡ u % 2 → (h + t) % 2 ≡ (s + u) % 2
both-alike h s t u e f = omega arith

no_ones : ones 0 ≡ 0
unfolding ones
no_ones = refl

pub ones-xor : (a b : ℕ) → ones (bit_xor a b) % 2 ≡ (ones a + ones b) % 2
ones-xor a =
    bin_ind (λ (n : ℕ). (b : ℕ) → ones (bit_xor n b) % 2 ≡ (ones n + ones b) % 2) (λ b. ap (λ (k : ℕ). k % 2) (omega (arith, no_ones))) step a
  where
    step : (n : ℕ) → ((b : ℕ) → ones (bit_xor (n / 2) b) % 2 ≡ (ones (n / 2) + ones b) % 2) → (b : ℕ) → ones (bit_xor n b) % 2 ≡ (ones n + ones b) % 2
    step n ih b =
        let low : bit_xor n b % 2 ≡ (n % 2 + b % 2) % 2 =
        xor_mod n b 1 ∙ digits-differ (n % 2) (b % 2) (mod-lt n (zero-lt-suc 1)) (mod-lt b (zero-lt-suc 1)) in
        let high : ones (bit_xor n b / 2) % 2 ≡ (ones (n / 2) + ones (b / 2)) % 2 = ap (λ (k : ℕ). ones k % 2) (xor_shr n b 1) ∙ ih (b / 2) in
        let regrouped : (n % 2 + b % 2) + (ones (n / 2) + ones (b / 2)) ≡ (n % 2 + ones (n / 2)) + (b % 2 + ones (b / 2)) = omega arith in
        ap (λ (k : ℕ). k % 2) (ones_step (bit_xor n b))
        ∙ alike (bit_xor n b % 2) (ones (bit_xor n b / 2)) (n % 2 + b % 2) (ones (n / 2) + ones (b / 2)) low high
        ∙ ap (λ (k : ℕ). k % 2) (regrouped ∙ sym (ap₂ ◌+◌ (ones_step n) (ones_step b)))

-- the polynomial has three ones
ones-come : (x : ℕ) → x < 2 → ones (x * POLYNOMIAL) % 2 ≡ x
unfolding ones
ones-come zero h = refl
ones-come (suc zero) h = refl
ones-come (suc (suc x)) h = absurd (omega arith)

-- and so has what the factor goes on making
pub ones_odd : (x : ℕ) → x < 2 → ones (x * ODD) % 2 ≡ x
unfolding ones
ones_odd zero h = refl
ones_odd (suc zero) h = refl
ones_odd (suc (suc x)) h = absurd (omega arith)

ones_bit : (c : ℕ) → ones (bit_out POLYNOMIAL c) % 2 ≡ ones c % 2
unfolding bit_out
ones_bit c =
    omega (arith, ones-xor (c / 2) (c % 2 * POLYNOMIAL), ones-come (c % 2) (mod-lt c (zero-lt-suc 1)), ones_step c)

ones-out : (n c : ℕ) → ones (out POLYNOMIAL n c) % 2 ≡ ones c % 2
unfolding out
ones-out zero c = refl
ones-out (suc n) c = ones-out n (bit_out POLYNOMIAL c) ∙ ones_bit c

-- the exclusive-or of all bytes
unfoldable pub sum_of : List ℕ → ℕ
sum_of [] = 0
sum_of (b ∷ s) = bit_xor b (sum_of s)

pub ones-crc : (c : ℕ) (s : List ℕ) → ones (crc_from POLYNOMIAL c s) % 2 ≡ (ones c + ones (sum_of s)) % 2
unfolding crc_from joined sum_of
ones-crc c [] = ap (λ (n : ℕ). n % 2) (omega (arith, no_ones))
ones-crc c (b ∷ s) =
    let j = joined POLYNOMIAL c b in
    let e : ones j % 2 ≡ (ones c + ones b) % 2 = ones-out 8 (bit_xor c b) ∙ ones-xor c b in
    let grouped : ones c + ones b + ones (sum_of s) ≡ ones c + (ones b + ones (sum_of s)) = omega arith in
    ones-crc j s
    ∙ both-alike (ones j) (ones c + ones b) (ones (sum_of s)) (ones (sum_of s)) e refl
    ∙ ap (λ (k : ℕ). k % 2) grouped
    ∙ both-alike (ones c) (ones c) (ones b + ones (sum_of s)) (ones (bit_xor b (sum_of s))) refl (sym (ones-xor b (sum_of s)))
