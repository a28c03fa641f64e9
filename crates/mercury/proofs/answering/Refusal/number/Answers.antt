-- `mercury::answering::Refusal::number` meets its contract, case by case. Assumes nothing.
use Rattle.mercury.specs.Answering.{answer_number}
use Rattle.mercury.proofs.answering.Refusal.number.Goals as goal

pub returns-in-WrongLength : goal.returns-in-WrongLength
unfolding answer_number
returns-in-WrongLength c = rw c.in-WrongLength.is

pub returns-in-WrongCrc : goal.returns-in-WrongCrc
unfolding answer_number
returns-in-WrongCrc c = rw c.in-WrongCrc.is

pub returns-in-OtherAddress : goal.returns-in-OtherAddress
unfolding answer_number
returns-in-OtherAddress c = rw c.in-OtherAddress.is

pub returns-in-Status : goal.returns-in-Status
unfolding answer_number
returns-in-Status c = rw c.in-Status.is
