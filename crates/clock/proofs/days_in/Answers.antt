-- `clock::days_in` meets its contract: what its helper says of the year. Assumes nothing.
use Rattle.clock.specs.Dates.{days_in}
use Rattle.clock.proofs.days_in.Goals as goal

pub returns : goal.returns
unfolding days_in
returns c = rw (c.days_of.ensures, c.is_leap.ensures)
