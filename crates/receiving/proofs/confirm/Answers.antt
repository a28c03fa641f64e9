-- `receiving::confirm` meets its contract: each way out is the case of the definition that its tests name. Assumes nothing.
use Rattle.receiving.specs.Hearing.{confirming}
use borrow.Author.Tests.{le-leb, lt-leb}
use Rattle.receiving.proofs.confirm.Goals as goal

pub returns-then-count-ge5 : goal.returns-then-count-ge5
unfolding confirming
returns-then-count-ge5 c = rw (le-leb _ _ c.if-count-ge5.true)

pub returns : goal.returns
unfolding confirming
returns c = rw (lt-leb _ _ c.if-count-ge5.false)
