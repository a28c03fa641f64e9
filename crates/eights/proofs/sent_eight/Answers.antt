-- `eights::sent_eight` meets its contract: parity on all lanes is parity on each character. Assumes nothing.
use lib.Bits.{and_le_r}
use Rattle.eights.proofs.Sending.{window-sent}
use Rattle.eights.proofs.sent_eight.Goals as goal

pub even-requires : goal.even-requires
even-requires c = and_le_r c.eight-w.result 0x7F7F7F7F7F7F7F7F

pub returns : goal.returns
returns c =
    rw (c.apart.ensures, c.even.ensures) (window-sent c.args.s.now c.args.at _ c.requires c.eight-w.ensures.0 c.eight-w.ensures.1)
