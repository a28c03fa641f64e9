-- `judging::is_ack` meets its contract: the byte string is ACK with its parity, by computing. Assumes nothing.
use Rattle.judging.specs.Right.{accepts}
use Rattle.line.specs.Characters.{seven, sent}
use lib.Count.{ones}
use Rattle.judging.proofs.is_ack.Goals as goal

pub returns : goal.returns
unfolding accepts sent seven ones
returns c = c.same.ensures
