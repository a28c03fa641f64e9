-- `state::facts_good` meets its contract: each way out is the case of the definition that its tests name. Assumes nothing.
use Rattle.state.specs.WellFormed.{facts_good}
use Rattle.state.proofs.facts_good.Goals as goal

pub returns : goal.returns
unfolding facts_good
returns c = rw (c.numbers_good.ensures, c.is_edition.ensures, c.link_good.ensures, c.is_family.ensures)
