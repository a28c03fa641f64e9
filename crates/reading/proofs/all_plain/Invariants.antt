-- `reading::all_plain` meets its contract: the flag, with what is left, says it of the whole. Assumes nothing.
use mathlib.Core.Path.{◌≡◌}
use mathlib.Core.Bool.{◌&&◌}
use Prim.Native.Nat.{◌≤◌}
use lib.ListN.{length, drop}
use Rattle.line.specs.Runs.{every}
use Rattle.reading.specs.Sets.{is_plain}
use Rattle.reading.proofs.all_plain.Given as goal

abbrev pub invariant-loop-c : goal.invariant-loop-c
invariant-loop-c l = (l.c-index ≤ length l.s) × ((l.ok && every is_plain (drop l.c-index l.s)) ≡ every is_plain l.s)
