-- `meter::after::pulse` meets its contract: each way out is the case of the definition that its tests name. Assumes nothing.
use Rattle.meter.proofs.Known.{counters-good, exported-good, month-low}
use borrow.Author.Rules.{rules}
use Rattle.meter.proofs.after.pulse.Goals as goal

pub count_out-requires : goal.count_out-requires
count_out-requires c =
    let m = c.args.m in
    ((month-low m c.requires.0, exported-good m c.requires.0), c.requires.1)

pub returns-then-out : goal.returns-then-out
returns-then-out c =
    rw (c.if-out.true, c.quiet.ensures, c.with_registers.ensures, c.count_out.ensures)

pub count_in-requires : goal.count_in-requires
count_in-requires c =
    let m = c.args.m in
    ((month-low m c.requires.0, counters-good m c.requires.0), c.requires.1)

pub returns : goal.returns
returns c =
    rw (c.if-out.false, c.quiet-2.ensures, c.with_registers-2.ensures, c.count_in.ensures)
