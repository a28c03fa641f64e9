-- `tariff::second_later` meets its contract: the clock a second on, and the month looked at. Assumes nothing.
use Rattle.tariff.proofs.second_later.Goals as goal

pub close_month-requires : goal.close_month-requires
close_month-requires c = rw c.with_clock.ensures c.requires

pub returns : goal.returns
returns c = rw (c.close_month.ensures, c.with_clock.ensures, c.next_second.ensures)
