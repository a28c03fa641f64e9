-- `state::closing::both_below` meets its contract: both tests are the definition's own. Assumes nothing.
use Rattle.state.specs.WellFormed.{both_below}
use Rattle.state.proofs.closing.both_below.Goals as goal

pub returns : goal.returns
unfolding both_below
returns c = rw (c.four_below.ensures, c.four_below-2.ensures)
