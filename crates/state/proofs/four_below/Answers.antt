-- `state::four_below` meets its contract: the four of an array of four, named one by one. Assumes nothing.
use Rattle.std.proofs.Common.{◌≡◌, length, rules}
use Rattle.state.specs.WellFormed.{below}
use Rattle.state.proofs.Archives.{four_below}
use Rattle.state.proofs.four_below.Goals as goal

pub returns : goal.returns
unfolding below
returns c =
    let long : length c.args.zones ≡ 4 = search rules in
    four_below c.args.end c.args.zones long
