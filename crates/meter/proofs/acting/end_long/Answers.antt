-- `meter::acting::end_long` meets its contract: the end is put there, and the rest follows from the deed. Assumes nothing.
use borrow.Author.Rules.{rules}
use Rattle.meter.proofs.acting.end_long.Goals as goal

pub returns : goal.returns
returns c = let shut = c.long_end-length.ensures in record { result = rw (c.answer_with.ensures, shut.whole); held = shut.held }
