-- `whole::has_no` meets its contract: the flag, with what is left, says it of the whole. Assumes nothing.
use Rattle.std.proofs.Common.{arith}
use Rattle.line.proofs.Runs.{every-turn, every-end}
use Rattle.whole.specs.Gathering.{is_not}
use Rattle.whole.proofs.has_no.Goals as goal

pub loop-b-preserved : goal.loop-b-preserved
loop-b-preserved c =
    let a = c.args in
    rw c.is_control.ensures (every-turn (is_not a.c) a.s.now c.loop-b.b-index c.loop-b.ok _ (omega arith) c.loop-b.invariant)

pub returns : goal.returns
returns c =
    let a = c.args in
    every-end (is_not a.c) a.s.now c.loop-b.b-index c.loop-b.ok _ (omega arith) c.loop-b.invariant
