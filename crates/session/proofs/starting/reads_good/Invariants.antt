-- `session::starting::reads_good` meets its contract: what was looked at is good, and what is left decides. Assumes nothing.
use mathlib.Core.Path.{◌≡◌}
use mathlib.Core.Bool.{◌&&◌}
use lib.ListN.{length}
use Rattle.session.specs.Messages.{reads_good}
use Rattle.session.proofs.starting.reads_good.Given as goal

abbrev pub invariant-loop-rest : goal.invariant-loop-rest
invariant-loop-rest l = (l.good && reads_good l.tables l.family l.rest) ≡ reads_good l.tables l.family l.work

abbrev pub decreases-loop-rest : goal.decreases-loop-rest
decreases-loop-rest l = length l.rest
