-- `clock::is_leap` meets its contract: each way out is the case of the definition that its tests name. Assumes nothing.
use mathlib.Core.Path.{refl}
use Rattle.clock.specs.Dates.{leap}
use Rattle.clock.proofs.is_leap.Goals as goal

pub returns : goal.returns
unfolding leap
returns c = refl
