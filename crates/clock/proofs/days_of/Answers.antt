-- `clock::days_of` meets its contract: each way out is the case of the definition that its tests name. Assumes nothing.
use Rattle.clock.specs.Dates.{thirty}
use borrow.Author.Tests.{eq-eqb, ne_eqb}
use Rattle.clock.proofs.days_of.Goals as goal

pub returns-then-long : goal.returns-then-long
unfolding thirty
returns-then-long c = rw (eq-eqb _ _ c.if-m-eq2.true, c.if-long.true)

pub returns-else-long : goal.returns-else-long
unfolding thirty
returns-else-long c = rw (eq-eqb _ _ c.if-m-eq2.true, c.if-long.false)

pub returns-then-short : goal.returns-then-short
unfolding thirty
returns-then-short c = rw (ne_eqb _ _ c.if-m-eq2.false, c.if-short.true)

pub returns-else-short : goal.returns-else-short
unfolding thirty
returns-else-short c = rw (ne_eqb _ _ c.if-m-eq2.false, c.if-short.false)
