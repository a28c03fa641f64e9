-- The two kinds of character, as the code tests them: one computed test over all 256 bytes each, and one law that reads it. Assumes nothing.
use mathlib.Core.Path.{◌≡◌, refl, sym}
use mathlib.Core.Bool.{Bool, true, false, cond, not, ◌&&◌, ◌||◌}
use Prim.Native.Nat.{ℕ, ◌<◌, ◌≤◌}
use native.Mathlib.Omega.{arith}
use borrow.Author.Tests.{leb-true, le-leb, ne_eqb}
use lib.Dec.{eqb, leb}
use Rattle.line.proofs.Runs.{all_below, below_all, and_left, and_right}
use Rattle.text.specs.Classes.{between, is_digit, is_letter, is_printable, is_address, is_value}
use Rattle.reading.specs.Sets.{is_plain}

-- the same answer
agree : Bool → Bool → Bool
agree a b = cond a b (not b)

agreed : (a b : Bool) → agree a b ≡ true → a ≡ b
unfolding agree
agreed true true h = refl
agreed true false h = sym h
agreed false true h = h
agreed false false h = refl

-- two tests that are computed to agree at every byte agree at each
module _ (p q : ℕ → Bool) (same : all_below 256 (λ c. agree (p c) (q c)) ≡ true) where
  at_byte : (c : ℕ) → c < 256 → p c ≡ q c
  at_byte c h = agreed (p c) (q c) (below_all 256 (λ c. agree (p c) (q c)) same c h)

abbrev pub address_test : ℕ → Bool
address_test c = cond (leb 48 c && leb c 57) true ((eqb c 46 || eqb c 42) || ((leb 65 c && leb c 90) || (leb 97 c && leb c 122)))

abbrev pub value_test : ℕ → Bool
value_test c = cond (leb 48 c && leb c 126) true ((eqb c 32 || (leb 34 c && leb c 39)) || (leb 42 c && leb c 46))

pub address-test : (c : ℕ) → c < 256 → address_test c ≡ is_address c
unfolding agree is_address is_letter is_digit between
address-test = at_byte address_test is_address refl

pub value-test : (c : ℕ) → c < 256 → value_test c ≡ is_value c
unfolding agree is_value is_printable between
value-test = at_byte value_test is_value refl

-- what is passed eight at a time may stand in a value
pub plain_value : (c : ℕ) → is_plain c ≡ true → is_value c ≡ true
unfolding between is_plain is_value is_printable
plain_value c h =
    let range = and_left (leb 42 c && leb c 126) (not (eqb c 47)) h in
    let low : 42 ≤ c = leb-true 42 c (and_left (leb 42 c) (leb c 126) range) in
    let high : c ≤ 126 = leb-true c 126 (and_right (leb 42 c) (leb c 126) range) in
    let slash : eqb c 47 ≡ false = not-true-false (eqb c 47) (and_right (leb 42 c && leb c 126) (not (eqb c 47)) h) in
    rw (
      le-leb 32 c (omega arith),
      le-leb c 126 high,
      ne_eqb c 40 (λ e. omega arith),
      ne_eqb c 41 (λ e. omega arith),
      slash,
      ne_eqb c 33 (λ e. omega arith),
    )
  where
    not-true-false : (b : Bool) → not b ≡ true → b ≡ false
    not-true-false true e = sym e
    not-true-false false e = refl
