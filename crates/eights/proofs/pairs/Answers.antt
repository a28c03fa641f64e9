-- `eights::pairs` meets its contract: what is above the least times eleven fits, and so do the pairs. Assumes nothing.
use Rattle.std.proofs.Common.{refl}
use Rattle.eights.specs.Lanes.{paired}
use Rattle.eights.proofs.pairs.Goals as goal

pub returns : goal.returns
unfolding paired
returns c = refl
