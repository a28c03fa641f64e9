-- `text::all_between` meets its contract: the flag, with what is left, says it of the whole. Assumes nothing.
use mathlib.Core.Path.{◌≡◌}
use mathlib.Core.Bool.{◌&&◌}
use lib.ListN.{drop}
use Rattle.line.specs.Runs.{every}
use Rattle.text.specs.Classes.{between}
use Rattle.text.proofs.all_between.Given as goal

abbrev pub invariant-loop-c : goal.invariant-loop-c
invariant-loop-c l = (l.ok && every (between l.lo l.hi) (drop l.c-index l.s)) ≡ every (between l.lo l.hi) l.s
