-- `text::agreeing` meets its contract: the flag, with what is left, says it of the whole. Assumes nothing.
use mathlib.Core.Path.{◌≡◌}
use mathlib.Core.Bool.{◌&&◌}
use lib.ListN.{length, drop}
use Rattle.text.specs.Classes.{matching}
use Rattle.text.proofs.agreeing.Given as goal

abbrev pub invariant-loop-i : goal.invariant-loop-i
invariant-loop-i g l = (length l.s ≡ length l.t) × ((l.all && matching g.p (drop l.i l.s) (drop l.i l.t)) ≡ matching g.p l.s l.t)
