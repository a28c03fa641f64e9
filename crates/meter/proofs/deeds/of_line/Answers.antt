-- `meter::deeds::of_line` meets its contract: each way out is the case of the definition that its tests name. Assumes nothing.
use borrow.Author.Tests.{eq-eqb, ne_eqb}
use Rattle.meter.specs.Deeds.{line_deed}
use borrow.Author.Rules.{rules}
use Rattle.meter.proofs.deeds.of_line.Goals as goal

pub returns-then-s-eq1 : goal.returns-then-s-eq1
unfolding line_deed
returns-then-s-eq1 c = rw (eq-eqb _ _ c.if-s-eq1.true, c.rest.ensures)

pub returns-then-signs_on : goal.returns-then-signs_on
unfolding line_deed
returns-then-signs_on c =
    rw (ne_eqb _ _ c.if-s-eq1.false, ← c.first-line.ensures.result_value, ← c.signs_on.ensures, c.if-signs_on.true, c.sign_on.ensures)

pub returns-then-closes : goal.returns-then-closes
unfolding line_deed
returns-then-closes c =
    rw (ne_eqb _ _ c.if-s-eq1.false, ← c.first-line.ensures.result_value, ← c.signs_on.ensures, c.if-signs_on.false, ← c.closes.ensures, c.if-closes.true, c.sign_on-then-closes.ensures)

pub returns : goal.returns
unfolding line_deed
returns c =
    rw (ne_eqb _ _ c.if-s-eq1.false, ← c.first-line.ensures.result_value, ← c.signs_on.ensures, c.if-signs_on.false, ← c.closes.ensures, c.if-closes.false, c.rest-2.ensures)
