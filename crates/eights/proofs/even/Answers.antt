-- `eights::even` meets its contract: a bit on top of every lane of seven bits is within eight lanes. Assumes nothing.
use Rattle.std.proofs.Common.{ℕ, ◌≤◌, refl, arith}
use lib.Bits.{bit_and, and_le_r}
use Rattle.line.specs.Balance.{folded}
use Rattle.eights.specs.Lanes.{evened}
use Rattle.eights.proofs.even.Goals as goal

bits-le : (m : ℕ) → bit_and (folded m) 0x0101010101010101 ≤ 0x0101010101010101
bits-le m = and_le_r (folded m) 0x0101010101010101

pub overflow_mul-result : goal.overflow_mul-result
overflow_mul-result c = omega (arith, bits-le c.args.m)

pub overflow_add-result : goal.overflow_add-result
overflow_add-result c = omega (arith, bits-le c.args.m, c.requires)

pub returns : goal.returns
unfolding evened
returns c = refl
