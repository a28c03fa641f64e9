-- `judging::is_password_ask` meets its contract: the byte string is the P0 ask with its parity, by computing. Assumes nothing.
use Rattle.judging.specs.Right.{asks_password}
use Rattle.line.specs.Characters.{seven, sent}
use lib.Count.{ones}
use Rattle.replies.specs.Fixed.{password_ask}
use Rattle.frames.specs.Frames.{frame_of, closed}
use Rattle.frames.specs.Commands.{bracketed}
use Rattle.line.specs.Checksum.{bcc_of}
use Rattle.judging.proofs.is_password_ask.Goals as goal

pub returns : goal.returns
unfolding asks_password sent seven ones password_ask frame_of closed bracketed bcc_of
returns c = c.same.ensures
