-- `whole::has_no` meets its contract: the flag, with what is left, says it of the whole. Assumes nothing.
use Rattle.std.proofs.Common.{◌≡◌, ◌&&◌, drop}
use Rattle.line.specs.Runs.{every}
use Rattle.whole.specs.Gathering.{is_not}
use Rattle.whole.proofs.has_no.Given as goal

abbrev pub invariant-loop-b : goal.invariant-loop-b
invariant-loop-b l = (l.ok && every (is_not l.c) (drop l.b-index l.s)) ≡ every (is_not l.c) l.s
