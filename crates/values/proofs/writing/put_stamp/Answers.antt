-- `values::writing::put_stamp` meets its contract: the date's text and then the rest, digit by digit. Assumes nothing.
use Rattle.values.specs.Texts.{date_text, stamp_text}
use Rattle.text.specs.Layout.{layout_text}
use Rattle.text.specs.Decimal.{decimal}
use native.Mathlib.Omega.{arith}
use Rattle.text.proofs.Writing.{and_then}
use Rattle.values.proofs.writing.put_stamp.Goals as goal

pub returns : goal.returns
unfolding stamp_text date_text layout_text decimal
returns c =
    let first = c.put_date-a.ensures in
    let then-rest = c.put.ensures in
    record { next = omega (arith, first.next, then-rest.next); held = and_then _ _ _ _ _ _ _ first.held first.next (rw (c.tens.ensures, c.units.ensures, c.tens-2.ensures, c.units-2.ensures) at then-rest.held) }
