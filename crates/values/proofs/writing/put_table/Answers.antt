-- `values::writing::put_table` meets its contract: what is put in is the text, digit by digit. Assumes nothing.
use Rattle.values.specs.Texts.{table_text}
use Rattle.text.specs.Layout.{layout_text}
use Rattle.text.specs.Decimal.{decimal}
use Rattle.values.proofs.writing.put_table.Goals as goal

pub returns : goal.returns
unfolding table_text layout_text decimal
returns c = record { next = c.put.ensures.next; held = rw (c.tens.ensures, c.units.ensures) at c.put.ensures.held }
