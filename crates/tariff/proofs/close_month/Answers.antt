-- `tariff::close_month` meets its contract: each way out is the case of the definition that its tests name. Assumes nothing.
use Rattle.tariff.specs.Months.{month_closed}
use Rattle.tariff.proofs.close_month.Goals as goal

pub returns-then-month_starts : goal.returns-then-month_starts
unfolding month_closed
returns-then-month_starts c = rw (← c.month_starts.ensures, c.if-month_starts.true, c.close.ensures)

pub returns : goal.returns
unfolding month_closed
returns c = rw (← c.month_starts.ensures, c.if-month_starts.false)
