-- `judging::tells_row` meets its contract: the line, and the value that it holds. Assumes nothing.
use Rattle.text.specs.Decimal.{decimal}
use Rattle.text.specs.Layout.{layout_text}
use Rattle.values.specs.Texts.{table_text}
use Rattle.judging.specs.Right.{tells_row}
use Rattle.judging.proofs.tells_row.Goals as goal

pub returns-in-Some : goal.returns-in-Some
unfolding tells_row table_text layout_text decimal
returns-in-Some c = rw (c.in-Some.ensures.0, ← c.in-Some.ensures.1, c.is_row.ensures)

pub returns-in-None : goal.returns-in-None
unfolding tells_row table_text layout_text decimal
returns-in-None c = rw c.in-None.ensures
