-- `meter::acting::small_of` meets its contract: the registers without what is long, and all else as it is. Assumes nothing.
use borrow.Author.Rules.{rules}
use Rattle.meter.proofs.acting.small_of.Goals as goal

pub returns : goal.returns
returns c = rw c.plain_of.ensures
