-- `settling::deed_of` meets its contract: the deed is that of the event that it names. Assumes nothing.
use Rattle.settling.proofs.deed_of.Goals as goal

pub returns : goal.returns
returns c = rw (c.of_small.ensures, c.event_of.ensures)
