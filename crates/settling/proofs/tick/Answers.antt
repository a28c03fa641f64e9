-- `settling::tick` meets its contract: each way out is the case of the definition that its test names. Assumes nothing.
use Rattle.settling.specs.Settling.{ticked_by}
use Rattle.settling.proofs.tick.Goals as goal

pub returns-then-month_starts : goal.returns-then-month_starts
unfolding ticked_by
returns-then-month_starts c = rw (← c.next_second-next.ensures, ← c.month_starts.ensures, c.if-month_starts.true)

pub returns : goal.returns
unfolding ticked_by
returns c = rw (← c.next_second-next.ensures, ← c.month_starts.ensures, c.if-month_starts.false, c.kept_in.ensures)
