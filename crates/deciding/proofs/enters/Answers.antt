-- `deciding::enters` meets its contract: each way out is the case of the definition that its tests name. Assumes nothing.
use Rattle.deciding.specs.Verdicts.{command_of, number_of, verdict_of}
use Rattle.deciding.specs.Verdict.{entry}
use Rattle.frames.specs.Commands.{bracketed}
use borrow.Author.Rules.{rules}
use Rattle.deciding.proofs.enters.Goals as goal

pub returns-then-same : goal.returns-then-same
unfolding entry bracketed command_of number_of verdict_of
returns-then-same c = rw (← c.same.ensures, c.if-same.true)

pub returns-then-has_form : goal.returns-then-has_form
unfolding entry bracketed command_of number_of verdict_of
returns-then-has_form c = rw (← c.same.ensures, c.if-same.false, ← c.has_form.ensures, c.if-has_form.true)

pub returns : goal.returns
unfolding entry bracketed command_of number_of verdict_of
returns c = rw (← c.same.ensures, c.if-same.false, ← c.has_form.ensures, c.if-has_form.false)
