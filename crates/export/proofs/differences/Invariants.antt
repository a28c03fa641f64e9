-- `export::differences` meets its contract: the columns gone through hold what they differ in. Assumes nothing.
use mathlib.Core.Path.{◌≡◌}
use Prim.Native.Nat.{◌≤◌}
use lib.ListN.{length, take, replicate}
use Rattle.text.specs.Writing.{stored}
use Rattle.export.specs.Changed.{change}
use Rattle.export.proofs.differences.Given as goal

abbrev pub invariant-loop-i : goal.invariant-loop-i
invariant-loop-i l = (l.i ≤ 36) × (length l.changes ≡ 36) × (l.changes ≡ stored (replicate 36 0) 0 (take l.i change))
