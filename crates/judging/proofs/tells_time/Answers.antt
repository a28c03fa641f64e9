-- `judging::tells_time` meets its contract: the line, and the value that it holds. Assumes nothing.
use mathlib.Core.Path.{ap}
use Rattle.values.specs.Reading.{TimeRead}
use Rattle.judging.specs.Right.{tells_time}
use Rattle.judging.proofs.tells_time.Goals as goal

pub returns-in-Some : goal.returns-in-Some
unfolding tells_time
returns-in-Some c =
    rw (c.in-Some.ensures.0, ← c.in-Some.ensures.1, c.is_some.ensures, ap (λ (r : TimeRead). r.ok) c.read_time.ensures)

pub returns-in-None : goal.returns-in-None
unfolding tells_time
returns-in-None c = rw c.in-None.ensures
