-- `meter::acting::answer_with` meets its contract: what is stored, field by field. Assumes nothing.
use borrow.Author.Rules.{rules}
use Rattle.meter.proofs.acting.answer_with.Goals as goal

pub returns : goal.returns
returns c = rw (c.receiver_after.ensures, c.account_after.ensures, c.clock_after.ensures)
