-- `meter::deeds::of_password` meets its contract: each way out is the case of the definition that its tests name. Assumes nothing.
use borrow.Author.Tests.{eq-eqb, ne_eqb}
use Rattle.deciding.specs.Verdicts.{number_of}
use Rattle.meter.specs.Deeds.{password_deed}
use borrow.Author.Rules.{rules}
use Rattle.meter.proofs.deeds.of_password.Goals as goal

pub returns-then-s-eq3 : goal.returns-then-s-eq3
unfolding password_deed number_of
returns-then-s-eq3 c = rw (eq-eqb _ _ c.if-s-eq3.true, c.refuse.ensures)

pub returns-then-same : goal.returns-then-same
unfolding password_deed number_of
returns-then-same c =
    rw (ne_eqb _ _ c.if-s-eq3.false, ← c.rest.ensures.result_value, ← c.first.ensures.result_value, ← c.same.ensures, c.if-same.true, c.go_to.ensures)

pub returns : goal.returns
unfolding password_deed number_of
returns c =
    rw (ne_eqb _ _ c.if-s-eq3.false, ← c.rest.ensures.result_value, ← c.first.ensures.result_value, ← c.same.ensures, c.if-same.false, c.refuse-2.ensures)
