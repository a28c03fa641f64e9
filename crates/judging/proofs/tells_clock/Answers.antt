-- `judging::tells_clock` meets its contract: the first line, and the rest. Assumes nothing.
use Rattle.judging.specs.Right.{tells_clock}
use Rattle.judging.proofs.tells_clock.Goals as goal

pub returns : goal.returns
unfolding tells_clock
returns c = rw (c.tells_time.ensures, c.first.ensures.result_value, c.tells_date.ensures, c.rest.ensures.result_value)
