-- `reading::run` meets its contract: those passed, with those that lead what is left, are those that lead the whole. Assumes nothing.
use mathlib.Core.Path.{◌≡◌}
use Prim.Native.Nat.{◌+◌, ◌-◌, ◌≤◌}
use lib.ListN.{length, drop}
use Rattle.reading.specs.Sets.{of_kind, leading}
use Rattle.reading.proofs.run.Given as goal

abbrev pub invariant-loop-i : goal.invariant-loop-i
invariant-loop-i l =
    (l.at ≤ l.i) × (l.i ≤ l.i-end) × (l.i-end ≡ l.at + l.n) × (l.i-end ≤ length l.s) × (l.n ≤ l.most) × ((l.i - l.at) + leading (of_kind l.value) (l.most - (l.i - l.at)) (drop l.i l.s) ≡ leading (of_kind l.value) l.most (drop l.at l.s))
