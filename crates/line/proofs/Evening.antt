-- The law that connects the balance to the count of ones: a test computed of all 256 bytes, since nothing shorter shows it.
-- Then what a loop gathers of it by bits. Assumes nothing.
use mathlib.Core.Path.{◌≡◌, refl, sym, ap, ◌∙◌}
use mathlib.Core.Bool.{Bool, true, false, not, ◌&&◌}
use Prim.Native.Nat.{ℕ, zero, suc, ◌*◌, ◌/◌, ◌%◌, ◌<◌, ◌≤◌}
use native.Mathlib.Nat.{mul-le-mul_left}
use native.Mathlib.Omega.{arith}
use borrow.Author.Tests.{eqb-true, ne_eqb}
use lib.Count.{ones}
use lib.Bits.{bit_or, bit_xor, xor_lt, or_shr, or_zero_l, or_add_and, and_le_r}
use lib.Dec.{eqb, lit<}
use Rattle.line.specs.Characters.{damaged_at, undamaged_at, seven}
use Rattle.line.specs.Balance.{balance_of, turned, folded}
use Rattle.line.proofs.Runs.{and_left, and_right, below_all}

-- the top bit evens the seven data bits; with the byte's own it says whether the ones of the byte are even
evens : ℕ → Bool
evens b = eqb (balance_of b / 128) (ones (seven b) % 2)

strays : ℕ → Bool
strays b = eqb (bit_xor (balance_of b) b / 128) (ones b % 2)

balances : ℕ → Bool
balances b = evens b && strays b

balanced : (b : ℕ) → b < 256 → balances b ≡ true
unfolding balances evens strays balance_of ones seven
balanced = below_all 256 balances refl

pub balance-evens : (b : ℕ) → b < 256 → balance_of b / 128 ≡ ones (seven b) % 2
unfolding balances evens
balance-evens b h = eqb-true _ _ (and_left (evens b) (strays b) (balanced b h))

pub stray-counts : (b : ℕ) → b < 256 → bit_xor (balance_of b) b / 128 ≡ ones b % 2
unfolding balances strays
stray-counts b h = eqb-true _ _ (and_right (evens b) (strays b) (balanced b h))

-- the fold leaves what the count does, by the same kind of test
folds : ℕ → Bool
folds b = eqb (folded b % 2) (ones b % 2)

pub folded-counts : (b : ℕ) → b < 256 → folded b % 2 ≡ ones b % 2
unfolding folds ones
folded-counts b h = eqb-true _ _ (below_all 256 folds refl b h)

-- the product is that of two bytes
pub turned_lt : (b : ℕ) → b < 256 → turned b < 256
turned_lt b h = xor_lt 8 b _ h (lit< tt)

pub product_le : (b : ℕ) → b < 256 → b * turned b ≤ 255 * 255
product_le b h =
    let t : turned b < 256 = turned_lt b h in
    let p : b * turned b ≤ b * 255 = mul-le-mul_left b (omega arith) in
    omega arith

-- what is gathered by its bits is nothing just where each part is
none-gathered : (x y : ℕ) → eqb (bit_or x y) 0 ≡ (eqb x 0 && eqb y 0)
none-gathered zero y = ap (λ (n : ℕ). eqb n 0) (or_zero_l y)
none-gathered (suc x) y =
    rw (ne_eqb (suc x) 0 (λ e. omega arith)) (ne_eqb (bit_or (suc x) y) 0 (λ e. omega (arith, or_add_and (suc x) y, and_le_r (suc x) y)))

pub none-stray : (a b : ℕ) → b < 256 → eqb (bit_or a (bit_xor (balance_of b) b) / 128) 0 ≡ (eqb (a / 128) 0 && undamaged_at b)
unfolding damaged_at
none-stray a b h =
    ap (λ (n : ℕ). eqb n 0) (or_shr a (bit_xor (balance_of b) b) 7)
    ∙ none-gathered (a / 128) (bit_xor (balance_of b) b / 128)
    ∙ ap (λ (n : ℕ). eqb (a / 128) 0 && eqb n 0) (stray-counts b h)
    ∙ ap (λ (t : Bool). eqb (a / 128) 0 && t) (sym (twice (eqb (ones b % 2) 0)))
  where
    twice : (t : Bool) → not (not t) ≡ t
    twice true = refl
    twice false = refl
