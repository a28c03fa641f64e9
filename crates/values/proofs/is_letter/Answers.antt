-- `values::is_letter` meets its contract. Assumes nothing.
use mathlib.Core.Path.{refl}
use Rattle.text.specs.Classes.{between, is_letter}
use Rattle.values.proofs.is_letter.Goals as goal

pub returns : goal.returns
unfolding between is_letter
returns c = refl
