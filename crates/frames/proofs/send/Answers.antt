-- `frames::send` meets its contract: the part that was lent carries parity, and the rest came back as it was. Assumes nothing.
use mathlib.Core.Path.{sym}
use lib.Seq.{length-take-le}
use Rattle.frames.proofs.send.Goals as goal

pub slice_bounds-put_parity-end-2 : goal.slice_bounds-put_parity-end-2
slice_bounds-put_parity-end-2 c = sym (length-take-le c.args.n c.args.buf.now c.requires)

pub returns : goal.returns
returns c = rw c.put_parity.ensures
