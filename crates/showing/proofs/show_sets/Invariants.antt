-- `showing::show_sets` meets its contract: what is shown so far, with what is found from here on, is all (`Goes`). Assumes nothing.
use mathlib.Core.Path.{◌≡◌}
use Prim.Native.Nat.{◌-◌}
use lib.ListN.{length}
use Rattle.showing.proofs.Going.{Goes}
use Rattle.showing.proofs.show_sets.Given as goal

abbrev pub invariant-loop-set : goal.invariant-loop-set
invariant-loop-set l = (length l.out ≡ length l.initial.out) × Goes l.sets l.initial.out l.at l.to l.out

abbrev pub decreases-loop-set : goal.decreases-loop-set
decreases-loop-set l = length l.sets - l.at
