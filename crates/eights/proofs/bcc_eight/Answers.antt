-- `eights::bcc_eight` meets its contract: halves one upon the other leave the BCC. Assumes nothing.
use Rattle.std.proofs.Common.{refl}
use Rattle.eights.proofs.Sending.{window-bcc}
use Rattle.eights.proofs.bcc_eight.Goals as goal

pub returns : goal.returns
returns c =
    window-bcc c.args.s.now c.args.at _ c.requires c.eight-w.ensures.0 c.eight-w.ensures.1 _ _ refl refl
