-- `state::is_well_formed` meets its contract: its pieces make it well-formed. Assumes nothing.
use Rattle.state.proofs.Parts.{pieces-formed}
use Rattle.state.proofs.is_well_formed.Goals as goal

pub returns : goal.returns
returns c =
    rw (c.archive_good.ensures, c.runs_good-runs.ensures, c.small_good-small.ensures) (pieces-formed c.args.m)
