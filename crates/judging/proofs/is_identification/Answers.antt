-- `judging::is_identification` meets its contract: the byte strings are the identifications with their parity, by computing. Assumes nothing.
use borrow.Author.Tests.{eq-eqb, ne_eqb}
use Rattle.judging.specs.Right.{identifies}
use Rattle.replies.specs.Fixed.{identification}
use Rattle.line.specs.Characters.{seven, sent}
use lib.Count.{ones}
use Rattle.judging.proofs.is_identification.Goals as goal

pub returns-then-edition-eq2 : goal.returns-then-edition-eq2
unfolding identifies identification sent seven ones
returns-then-edition-eq2 c = rw (eq-eqb _ _ c.if-edition-eq2.true) c.same.ensures

pub returns : goal.returns
unfolding identifies identification sent seven ones
returns c = rw (ne_eqb _ _ c.if-edition-eq2.false) c.same-2.ensures
