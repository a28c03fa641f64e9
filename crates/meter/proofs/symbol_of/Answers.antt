-- `meter::symbol_of` meets its contract: each way out is the case of the definition that its tests name. Assumes nothing.
use Rattle.meter.specs.Character.{symbol}
use borrow.Author.Rules.{rules}
use Rattle.meter.proofs.symbol_of.Goals as goal

pub returns-then-damaged : goal.returns-then-damaged
unfolding symbol
returns-then-damaged c = rw (← c.damaged.ensures, c.if-damaged.true)

pub returns : goal.returns
unfolding symbol
returns c = rw (← c.damaged.ensures, c.if-damaged.false, c.character.ensures)
