-- `line::balance` meets its contract: the product fits sixteen bits. Assumes nothing.
use mathlib.Core.Path.{refl}
use native.Mathlib.Omega.{arith}
use Rattle.line.specs.Balance.{balance_of}
use Rattle.line.proofs.Evening.{turned_lt, product_le}
use Rattle.line.proofs.balance.Goals as goal

pub overflow_cast-result-2 : goal.overflow_cast-result-2
overflow_cast-result-2 c = record { fits = omega (arith, turned_lt c.args.b (omega arith)) }

pub overflow_mul-result : goal.overflow_mul-result
overflow_mul-result c = record { fits = omega (arith, product_le c.args.b (omega arith)) }

pub overflow_add-result : goal.overflow_add-result
overflow_add-result c = record { fits = omega (arith, product_le c.args.b (omega arith)) }

pub returns : goal.returns
unfolding balance_of
returns c = refl
