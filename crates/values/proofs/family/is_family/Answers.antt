-- `values::family::is_family` meets its contract: the definition's tests are the code's. Assumes nothing.
use mathlib.Core.Path.{refl}
use Rattle.values.specs.Family.{is_family}
use Rattle.text.specs.Classes.{between}
use Rattle.values.proofs.family.is_family.Goals as goal

pub returns : goal.returns
unfolding is_family between
returns c = refl
