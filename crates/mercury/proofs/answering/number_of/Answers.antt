-- `mercury::answering::number_of` meets its contract, case by case. Assumes nothing.
use Rattle.mercury.specs.Answering.{answer_number}
use Rattle.mercury.proofs.answering.number_of.Goals as goal

pub returns-in-Ok : goal.returns-in-Ok
unfolding answer_number
returns-in-Ok c = rw c.in-Ok.is

pub returns-in-Err : goal.returns-in-Err
returns-in-Err c = rw c.in-Err.is c.number.ensures
