-- `judging::tells_account` meets its contract: the line, and the value that it holds. Assumes nothing.
use Rattle.judging.specs.Right.{tells_account}
use Rattle.judging.proofs.tells_account.Goals as goal

pub returns-in-Some : goal.returns-in-Some
unfolding tells_account
returns-in-Some c = rw (c.in-Some.ensures.0, ← c.in-Some.ensures.1, c.is_account.ensures)

pub returns-in-None : goal.returns-in-None
unfolding tells_account
returns-in-None c = rw c.in-None.ensures
