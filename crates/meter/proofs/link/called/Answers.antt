-- `meter::link::called` meets its contract: the line is compared without its LF. Assumes nothing.
use Rattle.meter.proofs.SignOn.{called-by-held}
use borrow.Author.Rules.{rules}
use Rattle.meter.proofs.link.called.Goals as goal

pub returns : goal.returns
returns c =
    rw (c.same-3.ensures, c.same-2.ensures, c.same.ensures, c.our_line-ours.ensures) (called-by-held _ _)
