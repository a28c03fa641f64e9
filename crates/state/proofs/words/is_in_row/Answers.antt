-- `state::words::is_in_row` meets its contract: it is the definition. Assumes nothing.
use Rattle.std.proofs.Common.{refl}
use Rattle.state.specs.Fours.{in_row}
use Rattle.state.proofs.words.is_in_row.Goals as goal

pub returns : goal.returns
unfolding in_row
returns c = refl
