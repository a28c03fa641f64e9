-- `state::link::is_wired` meets its contract: the same test. Assumes nothing.
use Rattle.std.proofs.Common.{refl}
use Rattle.state.specs.Link.{is_wired}
use Rattle.state.proofs.link.is_wired.Goals as goal

pub returns : goal.returns
unfolding is_wired
returns c = refl
