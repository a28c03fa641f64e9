-- `values::energy_no` meets its contract: each way out is the case of the definition that its tests name. Assumes nothing.
use Rattle.values.specs.Registers.{energy_no}
use Rattle.values.proofs.energy_no.Goals as goal

pub returns-in-Total : goal.returns-in-Total
unfolding energy_no
returns-in-Total c = rw c.in-Total.is

pub returns-in-Zone : goal.returns-in-Zone
unfolding energy_no
returns-in-Zone c = rw c.in-Zone.is
