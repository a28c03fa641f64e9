-- `state::closing::is_unused` meets its contract: both tests are the definition's own. Assumes nothing.
use Rattle.state.specs.WellFormed.{unused}
use Rattle.state.proofs.closing.is_unused.Goals as goal

pub returns : goal.returns
unfolding unused
returns c = rw (c.has_no_time.ensures, c.both_below.ensures)
