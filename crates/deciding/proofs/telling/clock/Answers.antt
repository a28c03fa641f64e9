-- `deciding::telling::clock` meets its contract: each way out is the case of the definition that its tests name. Assumes nothing.
use Rattle.deciding.specs.Verdicts.{command_of, number_of, verdict_of}
use Rattle.deciding.specs.Telling.{clock_told}
use Rattle.deciding.proofs.telling.clock.Goals as goal

pub returns-in-Some : goal.returns-in-Some
unfolding clock_told command_of number_of verdict_of
returns-in-Some c = rw (← c.in-Some.ensures)

pub returns-in-None : goal.returns-in-None
unfolding clock_told command_of number_of verdict_of
returns-in-None c = rw (← c.in-None.ensures)
