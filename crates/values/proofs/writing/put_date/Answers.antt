-- `values::writing::put_date` meets its contract: what is put in is the text, digit by digit. Assumes nothing.
use Rattle.values.specs.Texts.{date_text}
use Rattle.text.specs.Layout.{layout_text}
use Rattle.text.specs.Decimal.{decimal}
use Rattle.values.proofs.writing.put_date.Goals as goal

pub returns : goal.returns
unfolding date_text layout_text decimal
returns c = record { next = c.put.ensures.next; held = rw (c.saturating_sub-y.ensures, c.tens.ensures, c.units.ensures, c.tens-2.ensures, c.units-2.ensures) at c.put.ensures.held }
