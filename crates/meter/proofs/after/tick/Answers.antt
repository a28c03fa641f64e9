-- `meter::after::tick` meets its contract: the registers alone are others. Assumes nothing.
use Rattle.meter.proofs.Known.{archive-good}
use borrow.Author.Rules.{rules}
use Rattle.meter.proofs.after.tick.Goals as goal

pub second_later-requires : goal.second_later-requires
second_later-requires c = archive-good c.args.m c.requires

pub returns : goal.returns
returns c = rw (c.quiet.ensures, c.with_registers.ensures, c.second_later.ensures)
