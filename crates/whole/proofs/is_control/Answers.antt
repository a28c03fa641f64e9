-- `whole::is_control` meets its contract. Assumes nothing.
use Rattle.whole.specs.Gathering.{is}
use Rattle.whole.proofs.is_control.Goals as goal

pub returns : goal.returns
unfolding is
returns c = rw c.symbol_of.ensures
