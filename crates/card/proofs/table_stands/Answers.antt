-- `card::table_stands` meets its contract: each way out is the case of the definition that its test names. Assumes nothing.
use borrow.Author.Tests.{le-leb, lt-leb}
use Rattle.card.specs.Columns.{table_stands}
use Rattle.card.proofs.table_stands.Goals as goal

pub returns-then-s-lt-TABLE_FIELD : goal.returns-then-s-lt-TABLE_FIELD
unfolding table_stands
returns-then-s-lt-TABLE_FIELD c = rw (lt-leb _ _ c.if-s-lt-TABLE_FIELD.true)

pub returns : goal.returns
unfolding table_stands
returns c = rw (le-leb 28 _ c.if-s-lt-TABLE_FIELD.false, c.all_between.ensures)
