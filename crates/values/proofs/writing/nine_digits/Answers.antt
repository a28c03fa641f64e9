-- `values::writing::nine_digits` meets its contract: one digit, four and four, those in pairs, each digit by digit. Assumes nothing.
use mathlib.Core.Path.{◌≡◌, sym, ap, ap₂, ◌∙◌}
use mathlib.Core.List.{List, ◌++◌}
use Prim.Native.Nat.{ℕ, ◌/◌, ◌%◌}
use Rattle.text.specs.Decimal.{decimal}
use Rattle.text.proofs.Decimal.{decimal-split, decimal-mod}
use Rattle.values.proofs.writing.nine_digits.Goals as goal

-- the last four digits are those of what is left below ten thousand
parted : (w n : ℕ) → decimal w (n / 10000) ++ decimal 4 (n % 10000) ≡ decimal w (n / 10000) ++ decimal 4 n
parted w n = rw (decimal-mod 4 n)

nine : (n : ℕ) → (decimal 1 (n / 10000 / 10000) ++ decimal 4 (n / 10000 % 10000)) ++ decimal 4 (n % 10000) ≡ decimal 9 n
nine n =
    ap₂ (λ (a b : List ℕ). a ++ b) (parted 1 (n / 10000) ∙ sym (decimal-split 1 4 (n / 10000))) (decimal-mod 4 n) ∙ sym (decimal-split 5 4 n)

-- four of them are two pairs
pairs : (n : ℕ) → decimal 2 (n / 100) ++ decimal 2 (n % 100) ≡ decimal 4 n
pairs n = ap (λ (l : List ℕ). decimal 2 (n / 100) ++ l) (decimal-mod 2 n) ∙ sym (decimal-split 2 2 n)

in_pairs : (n : ℕ)
    → (decimal 1 (n / 10000 / 10000) ++ (decimal 2 (n / 10000 % 10000 / 100) ++ decimal 2 (n / 10000 % 10000 % 100)))
    ++ (decimal 2 (n % 10000 / 100) ++ decimal 2 (n % 10000 % 100)) ≡ decimal 9 n
in_pairs n = ap₂ (λ (a b : List ℕ). (decimal 1 (n / 10000 / 10000) ++ a) ++ b) (pairs (n / 10000 % 10000)) (pairs (n % 10000)) ∙ nine n

pub returns : goal.returns
unfolding decimal
returns c = rw (c.tens.ensures, c.units.ensures, c.tens-2.ensures, c.units-2.ensures, c.tens-3.ensures, c.units-3.ensures, c.tens-4.ensures, c.units-4.ensures) (in_pairs _)
