-- `state::link::rest_speed` meets its contract: each way out is the case of the definition that its test names. Assumes nothing.
use Rattle.state.specs.Link.{rest_speed}
use Rattle.state.proofs.link.rest_speed.Goals as goal

pub returns-then-is_wired : goal.returns-then-is_wired
unfolding rest_speed
returns-then-is_wired c = rw (← c.is_wired.ensures, c.if-is_wired.true)

pub returns-else-is_wired : goal.returns-else-is_wired
unfolding rest_speed
returns-else-is_wired c = rw (← c.is_wired.ensures, c.if-is_wired.false)
