-- `session::standing::work_good` meets its contract: its tests are those of the definition. Assumes nothing.
use mathlib.Core.Path.{refl}
use Rattle.session.specs.Standing.{work_good}
use Rattle.session.proofs.standing.work_good.Goals as goal

pub returns : goal.returns
unfolding work_good
returns c = refl
