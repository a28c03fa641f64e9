-- `values::family::is_eqm` meets its contract: the definition's test is the code's. Assumes nothing.
use mathlib.Core.Path.{refl}
use Rattle.values.specs.Family.{is_eqm}
use Rattle.values.proofs.family.is_eqm.Goals as goal

pub returns : goal.returns
unfolding is_eqm
returns c = refl
