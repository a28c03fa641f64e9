-- `deciding::decide` meets its contract: each way out is the case of the definition that its tests name. Assumes nothing.
use Rattle.deciding.specs.Verdicts.{command_of, number_of, verdict_of}
use Rattle.deciding.specs.Verdict.{verdict}
use borrow.Author.Tests.{eq-eqb, ne_eqb}
use borrow.Author.Rules.{rules}
use Rattle.deciding.proofs.decide.Goals as goal

pub returns-then-mark : goal.returns-then-mark
unfolding verdict command_of number_of verdict_of
returns-then-mark c = rw c.if-mark.true

pub returns-then-sum-bcc : goal.returns-then-sum-bcc
unfolding verdict command_of number_of verdict_of
returns-then-sum-bcc c = rw (c.if-mark.false, ← c.rest.ensures.result_value, ← c.bcc.ensures, eq-eqb _ _ c.if-sum-bcc.true, c.by_shape.ensures)

pub returns : goal.returns
unfolding verdict command_of number_of verdict_of
returns c = rw (c.if-mark.false, ← c.rest.ensures.result_value, ← c.bcc.ensures, ne_eqb _ _ c.if-sum-bcc.false)
