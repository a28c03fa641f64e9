-- `state::closing::close_with` meets its contract: the period is made of the clock and the counters. Assumes nothing.
use Rattle.state.proofs.closing.close_with.Goals as goal

pub returns : goal.returns
returns c = rw (c.with_period.ensures, c.stamp_of.ensures)
