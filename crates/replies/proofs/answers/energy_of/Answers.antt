-- `replies::answers::energy_of` meets its contract: each way out is the case of the definition that its tests name. Assumes nothing.
use Rattle.replies.specs.Shown.{energy}
use Rattle.replies.proofs.answers.energy_of.Goals as goal

pub returns-in-Total : goal.returns-in-Total
unfolding energy
returns-in-Total c = rw c.in-Total.is

pub returns-in-Zone : goal.returns-in-Zone
unfolding energy
returns-in-Zone c = rw (c.in-Zone.is, c.counter_of.ensures)
