-- `session::standing::fact_good` meets its contract: its tests are those of the definition. Assumes nothing.
use mathlib.Core.Path.{refl}
use Rattle.session.specs.Standing.{fact_good}
use Rattle.session.proofs.standing.fact_good.Goals as goal

pub returns : goal.returns
unfolding fact_good
returns c = refl
