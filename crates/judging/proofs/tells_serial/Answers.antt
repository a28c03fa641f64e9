-- `judging::tells_serial` meets its contract: the line, and the value that it holds. Assumes nothing.
use mathlib.Core.Path.{ap}
use Rattle.values.specs.Serials.{SerialRead}
use Rattle.judging.specs.Right.{tells_serial}
use Rattle.judging.proofs.tells_serial.Goals as goal

pub returns-in-Some : goal.returns-in-Some
unfolding tells_serial
returns-in-Some c =
    rw (c.in-Some.ensures.0, ← c.in-Some.ensures.1, c.is_some.ensures, ap (λ (r : SerialRead). r.ok) c.read_serial.ensures)

pub returns-in-None : goal.returns-in-None
unfolding tells_serial
returns-in-None c = rw c.in-None.ensures
