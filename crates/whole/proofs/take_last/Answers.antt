-- `whole::take_last` meets its contract: the meter takes the last byte upon the filled receiver. Assumes nothing.
use native.Mathlib.Omega.{arith}
use Rattle.whole.proofs.Finishing.{told-fits, told_is}
use Rattle.whole.proofs.take_last.Goals as goal

pub act-requires : goal.act-requires
act-requires c =
    (rw c.with_receiver.ensures c.requires.0, told-fits _ _ _ c.requires.1 (omega arith))

pub returns : goal.returns
returns c =
    let is = told_is c.with_receiver.result c.args.last (omega arith) in
    record { result = rw (c.act.ensures.result, is, c.with_receiver.ensures); held = (rw (is, c.with_receiver.ensures) at c.act.ensures.held) }
