-- `clock::next_second` meets its contract: each way out is the case of the definition that its tests name. Assumes nothing.
use Rattle.clock.specs.Seconds.{next_second}
use borrow.Author.Tests.{le-ltb, lt-ltb}
use Rattle.clock.proofs.next_second.Goals as goal

pub returns-then-second-lt59 : goal.returns-then-second-lt59
unfolding next_second
returns-then-second-lt59 c = rw (c.time_of-time.ensures, lt-ltb _ _ c.if-second-lt59.true)

pub returns-then-minute-lt59 : goal.returns-then-minute-lt59
unfolding next_second
returns-then-minute-lt59 c = rw (c.time_of-time-then-minute-lt59.ensures, le-ltb _ _ c.if-second-lt59.false, lt-ltb _ _ c.if-minute-lt59.true)

pub returns-then-hour-lt23 : goal.returns-then-hour-lt23
unfolding next_second
returns-then-hour-lt23 c = rw (c.time_of-time-then-hour-lt23.ensures, le-ltb _ _ c.if-second-lt59.false, le-ltb _ _ c.if-minute-lt59.false, lt-ltb _ _ c.if-hour-lt23.true)

pub returns : goal.returns
unfolding next_second
returns c = rw (le-ltb _ _ c.if-second-lt59.false, le-ltb _ _ c.if-minute-lt59.false, le-ltb _ _ c.if-hour-lt23.false, c.next_day.ensures, c.time_of.ensures)
