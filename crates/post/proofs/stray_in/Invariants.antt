-- `post::stray_in` meets its contract: the smallest of the columns that stray so far, in each window. Assumes nothing.
use Rattle.std.proofs.Common.{◌≡◌, ◌+◌, ◌≤◌, drop}
use Rattle.post.proofs.Strays.{Least}
use Rattle.post.proofs.stray_in.Given as goal

abbrev pub invariant-loop-j : goal.invariant-loop-j
invariant-loop-j l = (l.end ≡ l.third + 16) × (l.j ≤ 16) × (Least (drop l.at l.text) l.second l.third l.j l.column)
