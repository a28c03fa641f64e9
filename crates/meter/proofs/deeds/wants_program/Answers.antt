-- `meter::deeds::wants_program` meets its contract: each way out is the case of the definition that its tests name. Assumes nothing.
use Rattle.meter.specs.SignOn.{wants_program}
use borrow.Author.Rules.{rules}
use Rattle.meter.proofs.deeds.wants_program.Goals as goal

pub returns : goal.returns
unfolding wants_program
returns c = rw c.confirms.ensures
