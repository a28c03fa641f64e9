-- `values::is_edition` meets its contract: each way out is the case of the definition that its tests name. Assumes nothing.
use mathlib.Core.Path.{refl}
use Rattle.values.specs.Edition.{is_edition}
use Rattle.text.specs.Classes.{between}
use Rattle.values.proofs.is_edition.Goals as goal

pub returns : goal.returns
unfolding is_edition between
returns c = refl
