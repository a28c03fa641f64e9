-- `settling::keep` meets its contract: each field is the definition's. Assumes nothing.
use Rattle.settling.specs.Settling.{heard_as}
use Rattle.settling.proofs.keep.Goals as goal

pub returns : goal.returns
unfolding heard_as
returns c = rw (c.hurt_at.ensures, c.mark_after.ensures)
