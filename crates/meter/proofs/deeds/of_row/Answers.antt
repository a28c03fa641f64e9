-- `meter::deeds::of_row` meets its contract: each way out is the case of the definition that its tests name. Assumes nothing.
use Rattle.deciding.specs.Verdicts.{number_of}
use Rattle.meter.specs.Deeds.{row_deed}
use borrow.Author.Rules.{rules}
use Rattle.meter.proofs.deeds.of_row.Goals as goal

pub returns-then-is_table : goal.returns-then-is_table
unfolding row_deed number_of
returns-then-is_table c =
    rw (← c.tables_of.ensures.value, ← c.is_table.ensures, c.if-is_table.true, c.stay.ensures)

pub returns : goal.returns
unfolding row_deed number_of
returns c =
    rw (← c.tables_of.ensures.value, ← c.is_table.ensures, c.if-is_table.false, c.refuse.ensures)
