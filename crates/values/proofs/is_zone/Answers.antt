-- `values::is_zone` meets its contract: each way out is the case of the definition that its tests name. Assumes nothing.
use mathlib.Core.Path.{refl}
use Rattle.values.specs.Registers.{good_zone}
use Rattle.text.specs.Classes.{between, is_digit, is_letter}
use Rattle.values.proofs.is_zone.Goals as goal

pub returns : goal.returns
unfolding good_zone between is_digit is_letter
returns c = refl
