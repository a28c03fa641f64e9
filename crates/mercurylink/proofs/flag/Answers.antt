-- `mercurylink::flag` meets its contract, case by case. Assumes nothing.
use Rattle.mercurylink.specs.Telling.{flag_of}
use Rattle.mercurylink.proofs.flag.Goals as goal

pub returns-in-Some : goal.returns-in-Some
unfolding flag_of
returns-in-Some c = rw c.in-Some.is

pub returns-in-None : goal.returns-in-None
unfolding flag_of
returns-in-None c = rw c.in-None.is
