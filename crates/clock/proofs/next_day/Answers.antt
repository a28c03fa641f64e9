-- `clock::next_day` meets its contract: each way out is the case of the definition that its tests name. Assumes nothing.
use Rattle.clock.specs.Seconds.{next_day}
use borrow.Author.Tests.{le-ltb, lt-ltb}
use Rattle.clock.proofs.next_day.Goals as goal

pub returns-then-d-days_in : goal.returns-then-d-days_in
unfolding next_day
returns-then-d-days_in c = rw (← c.days_in.ensures, lt-ltb _ _ c.if-d-days_in.true)

pub returns : goal.returns
unfolding next_day
returns c = rw (← c.days_in.ensures, le-ltb _ _ c.if-d-days_in.false, c.next_month.ensures)
