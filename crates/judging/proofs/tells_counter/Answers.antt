-- `judging::tells_counter` meets its contract: the line, and the value that it holds. Assumes nothing.
use mathlib.Core.Path.{ap}
use Rattle.values.specs.Reading.{CounterRead}
use Rattle.judging.specs.Right.{tells_counter}
use Rattle.judging.proofs.tells_counter.Goals as goal

pub returns-in-Some : goal.returns-in-Some
unfolding tells_counter
returns-in-Some c =
    rw (c.in-Some.ensures.0, ← c.in-Some.ensures.1, c.is_some.ensures, ap (λ (r : CounterRead). r.ok) c.read_counter.ensures)

pub returns-in-None : goal.returns-in-None
unfolding tells_counter
returns-in-None c = rw c.in-None.ensures
