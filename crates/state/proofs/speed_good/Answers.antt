-- `state::speed_good` meets its contract: the same tests, joined as the definition joins them. Assumes nothing.
use Rattle.state.specs.WellFormed.{speed_good}
use Rattle.state.proofs.speed_good.Goals as goal

pub returns : goal.returns
unfolding speed_good
returns c = rw c.rest_speed.ensures
