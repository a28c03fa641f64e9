-- `state::words::four` meets its contract: it is the definition. Assumes nothing.
use Rattle.std.proofs.Common.{refl}
use Rattle.state.specs.Fours.{four_of}
use Rattle.state.proofs.words.four.Goals as goal

pub returns : goal.returns
unfolding four_of
returns c = refl
