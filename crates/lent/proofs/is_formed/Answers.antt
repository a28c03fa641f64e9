-- `lent::is_formed` meets its contract: the pieces that it hands on make a state well-formed. Assumes nothing.
use Rattle.state.proofs.Parts.{pieces-formed}
use Rattle.lent.proofs.is_formed.Goals as goal

pub returns : goal.returns
returns c =
    rw (c.lent_good-kept.ensures, c.runs_good-runs.ensures, c.small_good-small.ensures) (pieces-formed c.args.m.now)
