-- `mercury::answering::as_quantity` meets its contract. Assumes nothing.
use borrow.Author.Tests.{eq-eqb, ne_eqb}
use Rattle.mercury.specs.Answering.{quantity_of}
use Rattle.mercury.proofs.answering.as_quantity.Goals as goal

pub returns-then-n-eq4294967295 : goal.returns-then-n-eq4294967295
unfolding quantity_of
returns-then-n-eq4294967295 c = rw (eq-eqb _ _ c.if-n-eq4294967295.true)

pub returns-else-n-eq4294967295 : goal.returns-else-n-eq4294967295
unfolding quantity_of
returns-else-n-eq4294967295 c = rw (ne_eqb _ _ c.if-n-eq4294967295.false)
