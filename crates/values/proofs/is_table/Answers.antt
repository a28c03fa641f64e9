-- `values::is_table` meets its contract: each way out is the case of the definition that its tests name. Assumes nothing.
use mathlib.Core.Path.{refl}
use Rattle.values.specs.Registers.{good_table}
use Rattle.text.specs.Classes.{between, is_digit, is_letter}
use Rattle.values.proofs.is_table.Goals as goal

pub returns : goal.returns
unfolding good_table between is_digit is_letter
returns c = refl
