-- `state::closing::has_no_time` meets its contract: the same tests, joined as the definition joins them. Assumes nothing.
use Rattle.std.proofs.Common.{refl}
use Rattle.state.specs.WellFormed.{no_time}
use Rattle.state.proofs.closing.has_no_time.Goals as goal

pub returns : goal.returns
unfolding no_time
returns c = refl
