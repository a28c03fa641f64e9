-- `post::take_line` meets its contract: the flags passed took the line in, the others are as they were. Assumes nothing.
use Rattle.std.proofs.Common.{◌≡◌, ◌≤◌, length, drop}
use Rattle.post.specs.Columns.{TookLine}
use Rattle.post.proofs.take_line.Given as goal

abbrev pub invariant-loop-j : goal.invariant-loop-j
invariant-loop-j l = (l.j ≤ 16) × (length l.fits ≡ 16) × (TookLine (drop l.at l.text) l.initial.fits l.fits l.j)
