-- `values::reading::table_of` meets its contract: the rule decides. Assumes nothing.
use Rattle.values.specs.Reading.{table_found}
use Rattle.values.proofs.Found.{let-through}
use Rattle.values.proofs.reading.table_of.Goals as goal

pub returns : goal.returns
returns c = rw (c.then_some.ensures, c.is_table.ensures) (let-through table_found _ _)
