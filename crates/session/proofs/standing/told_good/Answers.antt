-- `session::standing::told_good` meets its contract: its tests are those of the definition. Assumes nothing.
use mathlib.Core.Path.{refl}
use Rattle.session.specs.Standing.{told_good}
use Rattle.session.proofs.standing.told_good.Goals as goal

pub returns : goal.returns
unfolding told_good
returns c = refl
