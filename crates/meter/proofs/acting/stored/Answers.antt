-- `meter::acting::stored` meets its contract: the session and the receiver, upon the registers. Assumes nothing.
use borrow.Author.Rules.{rules}
use Rattle.meter.proofs.acting.stored.Goals as goal

pub returns : goal.returns
returns c = rw (c.with_registers-next.ensures, c.registers_after.ensures)
