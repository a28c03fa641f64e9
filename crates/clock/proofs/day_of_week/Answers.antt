-- `clock::day_of_week` meets its contract: each way out is the case of the definition that its tests name. Assumes nothing.
use Rattle.clock.specs.Weekday.{day_number, weekday}
use Rattle.clock.proofs.day_of_week.Goals as goal

pub returns : goal.returns
unfolding day_number weekday
returns c = rw (c.saturating_sub-k.ensures, c.days_before.ensures, c.leap_day.ensures.value, c.saturating_sub.ensures)
