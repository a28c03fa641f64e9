-- `session::standing::place_good` meets its contract: its tests are those of the definition. Assumes nothing.
use mathlib.Core.Path.{refl}
use Rattle.session.specs.Standing.{place_good}
use Rattle.session.proofs.standing.place_good.Goals as goal

pub returns : goal.returns
unfolding place_good
returns c = refl
