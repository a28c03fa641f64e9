-- `mercury::asking::in_range` meets its contract. Assumes nothing.
use mathlib.Core.Path.{refl}
use Rattle.mercury.specs.Asking.{good_array, monthly, good_month, good_fields}
use Rattle.mercury.proofs.asking.in_range.Goals as goal

pub returns : goal.returns
unfolding good_fields good_array good_month monthly
returns c = refl
