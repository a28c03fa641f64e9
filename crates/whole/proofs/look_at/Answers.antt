-- `whole::look_at` meets its contract: that of `look`, with the test of the state by value. Assumes nothing.
use Rattle.whole.proofs.look_at.Goals as goal

pub returns : goal.returns
returns c = rw (c.look.ensures, c.is_well_formed.ensures)
