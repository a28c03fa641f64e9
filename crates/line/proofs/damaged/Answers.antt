-- `line::damaged` meets its contract by the law of the fold. Assumes nothing.
use mathlib.Core.Path.{ap}
use mathlib.Core.Bool.{not}
use Prim.Native.Nat.{ℕ}
use native.Mathlib.Omega.{arith}
use lib.Dec.{eqb}
use Rattle.line.specs.Characters.{damaged_at}
use Rattle.line.proofs.Evening.{folded-counts}
use Rattle.line.proofs.damaged.Goals as goal

pub returns : goal.returns
unfolding damaged_at
returns c = ap (λ (n : ℕ). not (eqb n 0)) (folded-counts c.args.b (omega arith))
