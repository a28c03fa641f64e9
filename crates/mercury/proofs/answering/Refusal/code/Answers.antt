-- `mercury::answering::Refusal::code` meets its contract, case by case. Assumes nothing.
use mathlib.Core.Logic.{inl, inr}
use Rattle.mercury.specs.Answering.{answer_code}
use Rattle.mercury.proofs.answering.Refusal.code.Goals as goal

pub returns-in-Status : goal.returns-in-Status
unfolding answer_code
returns-in-Status c = rw c.in-Status.is

pub returns-in-WrongLength : goal.returns-in-WrongLength
unfolding answer_code
returns-in-WrongLength c = elim c.in-WrongLength.is [ inl e ↦ rw e | inr r ↦ elim r [ inl e ↦ rw e | inr e ↦ rw e ] ]
