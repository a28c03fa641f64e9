-- `state::held_good` meets its contract: the words, and that of the count. Assumes nothing.
use Rattle.std.proofs.Common.{◌≡◌, length, rules}
use Rattle.state.specs.Sizes.{held_places}
use Rattle.state.proofs.Fours.{held-split}
use Rattle.state.proofs.held_good.Goals as goal

pub returns : goal.returns
returns c =
    let long : length c.args.held.now ≡ held_places = search rules in
    rw (c.part_unused.ensures, c.words_held.ensures) (held-split c.args.held.now c.args.count long)
