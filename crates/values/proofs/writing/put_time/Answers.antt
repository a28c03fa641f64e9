-- `values::writing::put_time` meets its contract: what is put in is the text, digit by digit. Assumes nothing.
use Rattle.values.specs.Texts.{time_text}
use Rattle.text.specs.Layout.{layout_text}
use Rattle.text.specs.Decimal.{decimal}
use Rattle.values.proofs.writing.put_time.Goals as goal

pub returns : goal.returns
unfolding time_text layout_text decimal
returns c = record { next = c.put.ensures.next; held = rw (c.tens.ensures, c.units.ensures, c.tens-2.ensures, c.units-2.ensures, c.tens-3.ensures, c.units-3.ensures) at c.put.ensures.held }
