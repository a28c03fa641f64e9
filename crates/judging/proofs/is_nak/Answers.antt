-- `judging::is_nak` meets its contract: the byte string is NAK with its parity, by computing. Assumes nothing.
use Rattle.judging.specs.Right.{refuses}
use Rattle.line.specs.Characters.{seven, sent}
use lib.Count.{ones}
use Rattle.judging.proofs.is_nak.Goals as goal

pub returns : goal.returns
unfolding refuses sent seven ones
returns c = c.same.ensures
