-- `meter::deeds::wants_block` meets its contract: each way out is the case of the definition that its tests name. Assumes nothing.
use Rattle.meter.specs.SignOn.{wants_block}
use borrow.Author.Rules.{rules}
use Rattle.meter.proofs.deeds.wants_block.Goals as goal

pub returns : goal.returns
unfolding wants_block
returns c = rw (c.confirms.ensures, c.confirms-2.ensures)
