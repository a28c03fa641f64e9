-- `mercury::answering::number` meets its contract. Assumes nothing.
use native.Mathlib.Omega.{arith}
use Rattle.mercury.specs.Answering.{number_from}
use Rattle.mercury.proofs.answering.number.Goals as goal

pub returns : goal.returns
unfolding number_from
returns c = omega (arith, c.from_be_bytes.ensures)
