-- `values::writing::put_clock` meets its contract: what is put in is the text, digit by digit. Assumes nothing.
use Rattle.values.specs.Texts.{clock_text, time_text}
use Rattle.text.specs.Layout.{layout_text}
use Rattle.text.specs.Decimal.{decimal}
use native.Mathlib.Omega.{arith}
use Rattle.text.proofs.Writing.{and_then}
use Rattle.values.proofs.writing.put_clock.Goals as goal

pub returns : goal.returns
unfolding clock_text time_text layout_text decimal
returns c =
    let first = c.put-a.ensures in
    let then-time = c.put_time.ensures in
    record { next = omega (arith, first.next, then-time.next); held = and_then _ _ _ _ _ _ _ (rw (c.tens.ensures, c.units.ensures, c.tens-2.ensures, c.units-2.ensures) at first.held) first.next then-time.held }
