-- `state::make` meets its contract: each way out is the case of the definition that its tests name. Assumes nothing.
use Rattle.state.specs.Making.{made_of, told}
use Rattle.state.proofs.make.Goals as goal

pub returns-then-factory_good : goal.returns-then-factory_good
unfolding made_of told
returns-then-factory_good c = rw (← c.factory_good.ensures, c.if-factory_good.true, c.meter_of.ensures)

pub returns : goal.returns
unfolding made_of
returns c = rw (← c.factory_good.ensures, c.if-factory_good.false, c.not_made.ensures)
