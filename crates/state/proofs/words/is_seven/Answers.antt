-- `state::words::is_seven` meets its contract: it is the definition. Assumes nothing.
use Rattle.std.proofs.Common.{refl}
use Rattle.state.specs.Fours.{in_seven}
use Rattle.state.proofs.words.is_seven.Goals as goal

pub returns : goal.returns
unfolding in_seven
returns c = refl
