-- `session::turning::is_right_work` meets its contract: each way out is the case of the definition that its tests name. Assumes nothing.
use borrow.Author.Tests.{eq-eqb, ne_eqb}
use Rattle.session.specs.Turns.{right_work}
use Rattle.session.proofs.turning.is_right_work.Goals as goal

pub returns-then-s-eq1 : goal.returns-then-s-eq1
unfolding right_work
returns-then-s-eq1 c = rw (eq-eqb _ _ c.if-s-eq1.true, c.is_ack.ensures)

pub returns : goal.returns
unfolding right_work
returns c = rw (ne_eqb _ _ c.if-s-eq1.false, c.is_right_read.ensures, c.tables_of-tables.ensures.value, c.at.ensures, c.at-2.ensures)
