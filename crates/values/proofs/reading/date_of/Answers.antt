-- `values::reading::date_of` meets its contract: the rule decides. Assumes nothing.
use Rattle.values.specs.Reading.{date_found}
use Rattle.values.proofs.Found.{let-through}
use Rattle.values.proofs.reading.date_of.Goals as goal

pub returns : goal.returns
returns c = rw (c.then_some.ensures, c.is_date.ensures) (let-through date_found _ _)
