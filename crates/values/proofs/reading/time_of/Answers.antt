-- `values::reading::time_of` meets its contract: the rule decides. Assumes nothing.
use Rattle.values.specs.Reading.{time_found}
use Rattle.values.proofs.Found.{let-through}
use Rattle.values.proofs.reading.time_of.Goals as goal

pub returns : goal.returns
returns c = rw (c.then_some.ensures, c.is_time.ensures) (let-through time_found _ _)
