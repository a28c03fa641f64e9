-- `mercury::answering::good_length` meets its contract. Assumes nothing.
use mathlib.Core.Path.{refl}
use Rattle.mercury.specs.Answering.{good_length}
use Rattle.mercury.proofs.answering.good_length.Goals as goal

pub returns : goal.returns
unfolding good_length
returns c = refl
