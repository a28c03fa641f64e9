-- `meter::link::signs_on` meets its contract: each way out is the case of the definition that its test names. Assumes nothing.
use Rattle.meter.specs.Link.{calls}
use borrow.Author.Rules.{rules}
use Rattle.meter.proofs.link.signs_on.Goals as goal

pub returns-then-is_wired : goal.returns-then-is_wired
unfolding calls
returns-then-is_wired c = rw (← c.is_wired.ensures, c.if-is_wired.true, c.called_by_wire.ensures)

pub returns : goal.returns
unfolding calls
returns c = rw (← c.is_wired.ensures, c.if-is_wired.false, c.called.ensures)
