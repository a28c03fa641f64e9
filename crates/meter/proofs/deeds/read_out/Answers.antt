-- `meter::deeds::read_out` meets its contract: each way out is the case of the definition that its tests name. Assumes nothing.
use borrow.Author.Rules.{rules}
use Rattle.meter.proofs.deeds.read_out.Goals as goal

pub returns : goal.returns
returns c = rw (c.stay.ensures, c.rest_speed.ensures)
