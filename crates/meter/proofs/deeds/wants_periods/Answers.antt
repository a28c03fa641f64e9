-- `meter::deeds::wants_periods` meets its contract: each way out is the case of the definition that its tests name. Assumes nothing.
use Rattle.meter.specs.SignOn.{wants_periods}
use borrow.Author.Rules.{rules}
use Rattle.meter.proofs.deeds.wants_periods.Goals as goal

pub returns : goal.returns
unfolding wants_periods
returns c = rw c.confirms.ensures
