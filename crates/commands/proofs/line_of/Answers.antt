-- `commands::line_of` meets its contract: three texts one after the other, then parity on all of them. Assumes nothing.
use native.Mathlib.Omega.{arith}
use Rattle.commands.proofs.Making.{three, line-of-three}
use Rattle.commands.proofs.line_of.Goals as goal

pub returns : goal.returns
returns c =
    let a = c.args in let k = three a.buf.now a.start.now a.content.now a.end.now _ _ _ _ _ _ c.put-a.ensures.next c.put-a.ensures.held c.put-b.ensures.next c.put-b.ensures.held c.put-n.ensures.next c.put-n.ensures.held in line-of-three a.buf.now a.start.now a.content.now a.end.now _ _ _ k (omega (arith, c.requires)) c.send.ensures
