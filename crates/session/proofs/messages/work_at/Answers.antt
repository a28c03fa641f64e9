-- `session::messages::work_at` meets its contract: each way out is the case of the definition that its tests name. Assumes nothing.
use borrow.Author.Tests.{eq-eqb, ne_eqb}
use Rattle.session.specs.Messages.{work_at, read_at, row_at}
use Rattle.session.proofs.messages.work_at.Goals as goal

pub returns-then-s-eq1 : goal.returns-then-s-eq1
unfolding work_at row_at
returns-then-s-eq1 c = rw (← c.tables_of-tables.ensures.value, eq-eqb _ _ c.if-s-eq1.true, ← c.rest.ensures.result_value, ← c.first.ensures.result_value) c.write_row.ensures

pub returns : goal.returns
unfolding work_at read_at
returns c = rw (← c.tables_of-tables.ensures.value, ne_eqb _ _ c.if-s-eq1.false, ← c.at.ensures, ← c.at-2.ensures) c.read.ensures
