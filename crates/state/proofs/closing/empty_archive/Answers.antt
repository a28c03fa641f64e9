-- `state::closing::empty_archive` meets its contract: every place is the unused one. Assumes nothing.
use Rattle.state.proofs.closing.empty_archive.Goals as goal

pub returns : goal.returns
returns c = rw c.no_period-p.ensures
