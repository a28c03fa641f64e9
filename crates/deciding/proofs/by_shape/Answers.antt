-- `deciding::by_shape` meets its contract: each way out is the case of the definition that its tests name. Assumes nothing.
use Rattle.deciding.specs.Verdicts.{command_of, number_of, verdict_of}
use Rattle.deciding.specs.Verdict.{shape_verdict}
use borrow.Author.Rules.{rules}
use Rattle.deciding.proofs.by_shape.Goals as goal

pub returns-then-is_bare : goal.returns-then-is_bare
unfolding shape_verdict command_of number_of verdict_of
returns-then-is_bare c = rw (← c.is_bare.ensures, c.if-is_bare.true, c.bare.ensures, c.at-then-is_bare.ensures, c.at.ensures)

pub returns-then-is_framed : goal.returns-then-is_framed
unfolding shape_verdict command_of number_of verdict_of
returns-then-is_framed c = rw (← c.is_bare.ensures, c.if-is_bare.false, ← c.is_framed.ensures, c.if-is_framed.true, c.framed.ensures, c.content_of.ensures, c.at-then-is_framed-2.ensures, c.at-then-is_framed.ensures)

pub returns : goal.returns
unfolding shape_verdict command_of number_of verdict_of
returns c = rw (← c.is_bare.ensures, c.if-is_bare.false, ← c.is_framed.ensures, c.if-is_framed.false)
