-- `mercury::answering::energy_in` meets its contract: four quantities at their places. Assumes nothing.
use Rattle.mercury.specs.Answering.{energy_of}
use Rattle.mercury.proofs.answering.energy_in.Goals as goal

pub returns : goal.returns
unfolding energy_of
returns c =
    rw (c.quantity_at.ensures, c.quantity_at-2.ensures, c.quantity_at-3.ensures, c.quantity_at-4.ensures)
