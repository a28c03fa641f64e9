-- `judging::tells_date` meets its contract: the line, and the value that it holds. Assumes nothing.
use mathlib.Core.Path.{ap}
use Rattle.values.specs.Reading.{DateRead}
use Rattle.judging.specs.Right.{tells_date}
use Rattle.judging.proofs.tells_date.Goals as goal

pub returns-in-Some : goal.returns-in-Some
unfolding tells_date
returns-in-Some c =
    rw (c.in-Some.ensures.0, ← c.in-Some.ensures.1, c.is_some.ensures, ap (λ (r : DateRead). r.ok) c.read_date.ensures)

pub returns-in-None : goal.returns-in-None
unfolding tells_date
returns-in-None c = rw c.in-None.ensures
