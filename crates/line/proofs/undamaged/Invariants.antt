-- `line::undamaged` meets its contract: whether no stray top bit is gathered, with what is left, says it of the whole. Assumes nothing.
use mathlib.Core.Path.{◌≡◌}
use mathlib.Core.Bool.{◌&&◌}
use Prim.Native.Nat.{◌/◌}
use lib.Dec.{eqb}
use lib.ListN.{drop}
use Rattle.line.specs.Runs.{every}
use Rattle.line.specs.Characters.{undamaged_at}
use Rattle.line.proofs.undamaged.Given as goal

abbrev pub invariant-loop-at : goal.invariant-loop-at
invariant-loop-at l = (eqb (l.strays / 128) 0 && every undamaged_at (drop l.at l.s)) ≡ every undamaged_at l.s
