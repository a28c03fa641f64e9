-- `meter::deeds::at_rest` meets its contract: the speed is the definition's own. Assumes nothing.
use borrow.Author.Rules.{rules}
use Rattle.meter.proofs.deeds.at_rest.Goals as goal

pub returns : goal.returns
returns c = rw (c.stay.ensures, c.rest_speed-speed.ensures)
