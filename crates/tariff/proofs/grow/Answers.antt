-- `tariff::grow` meets its contract: below an end a number stays as it is. Assumes nothing.
use mathlib.Core.Path.{sym}
use native.Mathlib.Nat.{mod-eq_of_lt}
use native.Mathlib.Omega.{arith}
use Rattle.tariff.proofs.grow.Goals as goal

pub returns-then-sum-end : goal.returns-then-sum-end
returns-then-sum-end c = sym (mod-eq_of_lt (omega (arith, c.if-sum-end.true)))
