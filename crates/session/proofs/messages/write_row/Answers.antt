-- `session::messages::write_row` meets its contract: the number and the row stand at their places in the line. Assumes nothing.
use Rattle.session.specs.Messages.{row_in}
use Rattle.commands.specs.Spoken.{good_fields, spoken, letters_of, data_of}
use Rattle.session.proofs.messages.write_row.Goals as goal

pub returns-then-not-is_whole : goal.returns-then-not-is_whole
unfolding row_in good_fields spoken letters_of data_of
returns-then-not-is_whole c = rw (← c.is_whole.ensures, c.if-not-is_whole.true) c.write_table_of.ensures

pub returns : goal.returns
unfolding row_in good_fields spoken letters_of data_of
returns c =
    rw (← c.is_whole.ensures, c.if-not-is_whole.false, ← c.rest.ensures.result_value, ← c.first.ensures.result_value, ← c.read_table-read.ensures, ← c.unwrap_or-table.ensures, ← c.rest-2.ensures.result_value, ← c.first-2.ensures.result_value) c.write_table_of-2.ensures
