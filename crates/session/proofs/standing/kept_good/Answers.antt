-- `session::standing::kept_good` meets its contract: its tests are those of the definition. Assumes nothing.
use Rattle.session.specs.Standing.{kept_good}
use Rattle.session.proofs.standing.kept_good.Goals as goal

pub returns : goal.returns
unfolding kept_good
returns c = rw c.all_between.ensures
