-- `values::characters::read_row` meets its contract: the rule decides. Assumes nothing.
use Rattle.values.proofs.Rules.{no_row}
use Rattle.values.specs.Serials.{row_read}
use Rattle.values.proofs.characters.read_row.Goals as goal

pub returns-then-s-ne-ROW_LENGTH : goal.returns-then-s-ne-ROW_LENGTH
unfolding row_read
returns-then-s-ne-ROW_LENGTH c = rw (no_row c.args.s.now c.if-s-ne-ROW_LENGTH.true)

pub returns-then-is_row : goal.returns-then-is_row
unfolding row_read
returns-then-is_row c = rw (← c.is_row.ensures, c.if-is_row.true, c.array_of.ensures)

pub returns : goal.returns
unfolding row_read
returns c = rw (← c.is_row.ensures, c.if-is_row.false)
