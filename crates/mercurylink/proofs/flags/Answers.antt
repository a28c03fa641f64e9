-- `mercurylink::flags` meets its contract: a bit for each of four quantities. Assumes nothing.
use Rattle.mercurylink.specs.Telling.{told_energy}
use Rattle.mercurylink.proofs.flags.Goals as goal

pub returns : goal.returns
unfolding told_energy
returns c = rw (c.flag.ensures, c.flag-2.ensures, c.flag-3.ensures, c.flag-4.ensures)
