-- `deciding::asking::table` meets its contract: each way out is the case of the definition that its tests name. Assumes nothing.
use Rattle.deciding.specs.Verdicts.{command_of, number_of, verdict_of}
use Rattle.deciding.specs.Asking.{table_asked}
use Rattle.deciding.proofs.asking.table.Goals as goal

pub returns-then-not-has_form : goal.returns-then-not-has_form
unfolding table_asked command_of number_of verdict_of
returns-then-not-has_form c = rw (← c.has_form.ensures, c.if-not-has_form.true)

pub returns-in-Some : goal.returns-in-Some
unfolding table_asked command_of number_of verdict_of
returns-in-Some c = rw (← c.has_form.ensures, c.if-not-has_form.false, ← c.rest.ensures.result_value, ← c.first.ensures.result_value, ← c.in-Some.ensures)

pub returns-in-None : goal.returns-in-None
unfolding table_asked command_of number_of verdict_of
returns-in-None c = rw (← c.has_form.ensures, c.if-not-has_form.false, ← c.rest.ensures.result_value, ← c.first.ensures.result_value, ← c.in-None.ensures)
