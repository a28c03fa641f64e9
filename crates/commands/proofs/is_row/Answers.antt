-- `commands::is_row` meets its contract: one of another length is none. Assumes nothing.
use borrow.Author.Tests.{ne_eqb}
use Rattle.values.proofs.Rules.{no_row}
use Rattle.commands.proofs.is_row.Goals as goal

pub returns-else-s-eq-ROW_LENGTH : goal.returns-else-s-eq-ROW_LENGTH
returns-else-s-eq-ROW_LENGTH c = rw (ne_eqb _ _ c.if-s-eq-ROW_LENGTH.false, no_row c.args.s.now c.if-s-eq-ROW_LENGTH.false)
