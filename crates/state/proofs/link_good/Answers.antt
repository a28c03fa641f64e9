-- `state::link_good` meets its contract: the same test. Assumes nothing.
use Rattle.std.proofs.Common.{refl}
use Rattle.state.specs.WellFormed.{link_good}
use Rattle.state.proofs.link_good.Goals as goal

pub returns : goal.returns
unfolding link_good
returns c = refl
