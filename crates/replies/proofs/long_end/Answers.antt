-- `replies::long_end` meets its contract: the line that ends the block, put behind it, and then closed. Assumes nothing.
use native.Mathlib.Omega.{arith}
use Rattle.replies.proofs.Long.{end-sealed}
use Rattle.replies.proofs.long_end.Goals as goal

pub returns : goal.returns
returns c =
    let a = c.args in
    let line = c.put-end.ensures in
    let shut = c.seal.ensures in
    record { whole = omega (arith, line.next, shut.whole); held = end-sealed a.buf.now a.at _ _ _ c.requires.1 line.next line.held shut.held }
