-- `deciding::telling::table` meets its contract: each way out is the case of the definition that its tests name. Assumes nothing.
use Rattle.deciding.specs.Verdicts.{command_of, number_of, verdict_of}
use Rattle.deciding.specs.Telling.{table_told}
use Rattle.deciding.proofs.telling.table.Goals as goal

pub returns-then-not-good : goal.returns-then-not-good
unfolding table_told command_of number_of verdict_of
returns-then-not-good c = rw (← c.at.ensures, ← c.rest.ensures.result_value, ← c.is_row.ensures, c.if-not-good.true)

pub returns-in-Some : goal.returns-in-Some
unfolding table_told command_of number_of verdict_of
returns-in-Some c = rw (← c.at.ensures, ← c.rest.ensures.result_value, ← c.is_row.ensures, c.if-not-good.false, ← c.first.ensures.result_value, ← c.in-Some.ensures)

pub returns-in-None : goal.returns-in-None
unfolding table_told command_of number_of verdict_of
returns-in-None c = rw (← c.at.ensures, ← c.rest.ensures.result_value, ← c.is_row.ensures, c.if-not-good.false, ← c.first.ensures.result_value, ← c.in-None.ensures)
