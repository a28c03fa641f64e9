-- `values::is_row` meets its contract: each way out is the case of the definition that its tests name. Assumes nothing.
use Rattle.values.specs.Registers.{good_row}
use Rattle.text.specs.Classes.{between, is_digit, is_letter}
use Rattle.values.proofs.is_row.Goals as goal

pub returns : goal.returns
unfolding good_row between is_digit is_letter
returns c = rw c.all_between.ensures
