-- `line::bcc` meets its contract. The invariant: the sum so far, with the BCC of what is left, is the BCC of the whole.
-- The bytes are summed whole and the parity bit dropped once, at the end, which `seven-xor` allows. Assumes nothing.
use native.Mathlib.Omega.{arith}
use Rattle.line.specs.Characters.{seven}
use Rattle.line.proofs.Xor.{bcc-start, bcc-turn, bcc-end}
use Rattle.line.proofs.bcc.Goals as goal

pub loop-b-init : goal.loop-b-init
loop-b-init c = bcc-start _

pub loop-b-preserved : goal.loop-b-preserved
loop-b-preserved c = bcc-turn c.args.s.now c.loop-b.b-index c.loop-b.sum _ (omega arith) c.loop-b.invariant

pub returns : goal.returns
unfolding seven
returns c = bcc-end c.args.s.now c.loop-b.b-index c.loop-b.sum _ (omega arith) c.loop-b.invariant
