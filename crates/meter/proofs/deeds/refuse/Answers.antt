-- `meter::deeds::refuse` meets its contract: each way out is the case of the definition that its tests name. Assumes nothing.
use borrow.Author.Rules.{rules}
use Rattle.meter.proofs.deeds.refuse.Goals as goal

pub returns : goal.returns
returns c = rw (c.stay.ensures, c.speed_in.ensures, c.fall-mode.ensures, c.number.ensures)
