-- `clock::is_time` meets its contract: each way out is the case of the definition that its tests name. Assumes nothing.
use mathlib.Core.Path.{refl}
use Rattle.clock.specs.Dates.{real_time}
use Rattle.clock.proofs.is_time.Goals as goal

pub returns : goal.returns
unfolding real_time
returns c = refl
