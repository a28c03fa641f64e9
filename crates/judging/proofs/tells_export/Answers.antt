-- `judging::tells_export` meets its contract: the address is that of what went out. Assumes nothing.
use Rattle.text.specs.Decimal.{decimal}
use Rattle.judging.specs.Right.{tells_export}
use Rattle.judging.proofs.tells_export.Goals as goal

pub returns : goal.returns
unfolding tells_export decimal
returns c = c.tells_counter.ensures
