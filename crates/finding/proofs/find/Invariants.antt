-- `finding::find` meets its contract: the search from the place reached is the lookup. Assumes nothing.
use Prim.Native.Nat.{◌-◌}
use lib.ListN.{length}
use Rattle.finding.proofs.Finding.{Sought}
use Rattle.finding.proofs.find.Given as goal

abbrev pub invariant-loop-set : goal.invariant-loop-set
invariant-loop-set l = Sought l.«data» l.address l.at l.count

abbrev pub decreases-loop-set : goal.decreases-loop-set
decreases-loop-set l = length l.«data» - l.at
