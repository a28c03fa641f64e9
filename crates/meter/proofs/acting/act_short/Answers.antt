-- `meter::acting::act_short` meets its contract: what is said is put there, and the rest follows from the deed. Assumes nothing.
use borrow.Author.Rules.{rules}
use Rattle.meter.proofs.acting.act_short.Goals as goal

pub returns : goal.returns
returns c = let said = c.say-length.ensures in record { result = rw (c.answer_with.ensures, said.whole); held = said.held }
