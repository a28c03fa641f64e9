-- `meter::deeds::confirms` meets its contract: what is held is compared without the character that is on its way. Assumes nothing.
use Rattle.meter.proofs.SignOn.{confirms-by-held}
use borrow.Author.Rules.{rules}
use Rattle.meter.proofs.deeds.confirms.Goals as goal

pub returns : goal.returns
returns c = rw (c.same-2.ensures, c.slow_too.ensures, c.same.ensures) (confirms-by-held _ _ _ _)
