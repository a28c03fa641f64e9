-- `meter::deeds::go_to` meets its contract: each way out is the case of the definition that its tests name. Assumes nothing.
use borrow.Author.Rules.{rules}
use Rattle.meter.proofs.deeds.go_to.Goals as goal

pub returns : goal.returns
returns c = rw (c.stay.ensures, c.speed_in.ensures)
