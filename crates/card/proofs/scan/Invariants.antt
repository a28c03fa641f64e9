-- `card::scan` meets its contract: what is right behind the fields passed is right of the whole. Assumes nothing.
use Prim.Native.Nat.{◌-◌, ◌≤◌}
use lib.ListN.{length}
use Rattle.card.specs.Fields.{Passed}
use Rattle.card.proofs.scan.Given as goal

abbrev pub invariant-loop-above : goal.invariant-loop-above
invariant-loop-above l = (l.at ≤ length l.text) × Passed l.tables l.text l.at l.above

abbrev pub decreases-loop-above : goal.decreases-loop-above
decreases-loop-above l = length l.text - l.at
