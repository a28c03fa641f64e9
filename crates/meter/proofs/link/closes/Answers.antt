-- `meter::link::closes` meets its contract: the line is compared without its LF. Assumes nothing.
use Rattle.meter.proofs.SignOn.{closes-by-held}
use borrow.Author.Rules.{rules}
use Rattle.meter.proofs.link.closes.Goals as goal

pub returns : goal.returns
returns c = rw (c.same.ensures, c.is_wired.ensures) (closes-by-held _ _)
