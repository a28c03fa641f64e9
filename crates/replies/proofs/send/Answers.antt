-- `replies::send` meets its contract: the part that was lent carries parity, and the rest came back as it was. Assumes nothing.
use mathlib.Core.Path.{sym}
use native.Mathlib.Omega.{arith}
use lib.Seq.{length-take-le}
use Rattle.text.proofs.Writing.{length-stored}
use Rattle.frames.proofs.Sealing.{sent_front}
use Rattle.replies.proofs.send.Goals as goal

pub slice_bounds-put_parity-end-2 : goal.slice_bounds-put_parity-end-2
slice_bounds-put_parity-end-2 c = let written = c.put-n.ensures in
    sym (length-take-le c.put-n.result c.put-n.new.buf (rw (written.held, length-stored c.args.buf.now 0 c.args.s.now) (omega (arith, written.next, c.requires))))

pub returns : goal.returns
returns c =
    let written = c.put-n.ensures in
    record { whole = omega (arith, written.next); held = rw c.put_parity.ensures (sent_front c.args.buf.now c.args.s.now c.put-n.new.buf c.put-n.result c.requires (omega (arith, written.next)) written.held) }
