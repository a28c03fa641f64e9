-- `clock::is_stamp` meets its contract: each way out is the case of the definition that its tests name. Assumes nothing.
use Rattle.clock.specs.Seconds.{real_stamp}
use Rattle.clock.proofs.is_stamp.Goals as goal

pub returns-then-is_date : goal.returns-then-is_date
unfolding real_stamp
returns-then-is_date c = rw (c.is_time.ensures, ← c.is_date.ensures, c.if-is_date.true)

pub returns-else-is_date : goal.returns-else-is_date
unfolding real_stamp
returns-else-is_date c = rw (← c.is_date.ensures, c.if-is_date.false)
