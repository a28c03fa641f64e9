-- `mercury::answering::code_of` meets its contract, case by case. Assumes nothing.
use Rattle.mercury.specs.Answering.{answer_code}
use Rattle.mercury.proofs.answering.code_of.Goals as goal

pub returns-in-Ok : goal.returns-in-Ok
unfolding answer_code
returns-in-Ok c = rw c.in-Ok.is

pub returns-in-Err : goal.returns-in-Err
returns-in-Err c = rw c.in-Err.is c.code.ensures
