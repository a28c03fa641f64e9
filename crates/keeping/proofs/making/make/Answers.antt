-- `keeping::making::make` meets its contract. Assumes nothing.
use Rattle.keeping.proofs.making.make.Goals as goal

pub returns : goal.returns
returns c = rw (c.make_from.ensures, c.clock_of-clock.ensures)
