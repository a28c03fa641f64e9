-- `deciding::telling::tells` meets its contract: each way out is the case of the definition that its tests name. Assumes nothing.
use Rattle.deciding.specs.Verdicts.{command_of, number_of, verdict_of}
use Rattle.deciding.specs.Telling.{told}
use borrow.Author.Rules.{rules}
use Rattle.deciding.proofs.telling.tells.Goals as goal

pub returns-then-is_enclosed : goal.returns-then-is_enclosed
unfolding told command_of number_of verdict_of
returns-then-is_enclosed c = rw (← c.is_enclosed.ensures, c.if-is_enclosed.true, c.clock.ensures, c.inside.ensures)

pub returns-then-is_enclosed-2 : goal.returns-then-is_enclosed-2
unfolding told command_of number_of verdict_of
returns-then-is_enclosed-2 c = rw (← c.is_enclosed.ensures, c.if-is_enclosed.false, ← c.is_enclosed-2.ensures, c.if-is_enclosed-2.true, c.account.ensures, c.inside-then-is_enclosed-2.ensures)

pub returns-then-is_enclosed-3 : goal.returns-then-is_enclosed-3
unfolding told command_of number_of verdict_of
returns-then-is_enclosed-3 c = rw (← c.is_enclosed.ensures, c.if-is_enclosed.false, ← c.is_enclosed-2.ensures, c.if-is_enclosed-2.false, ← c.is_enclosed-3.ensures, c.if-is_enclosed-3.true, c.table.ensures, c.inside-then-is_enclosed-3.ensures)

pub returns : goal.returns
unfolding told command_of number_of verdict_of
returns c = rw (← c.is_enclosed.ensures, c.if-is_enclosed.false, ← c.is_enclosed-2.ensures, c.if-is_enclosed-2.false, ← c.is_enclosed-3.ensures, c.if-is_enclosed-3.false)
