-- `meter::link::slow_too` meets its contract: the same test. Assumes nothing.
use Rattle.meter.specs.Link.{slow_too}
use borrow.Author.Rules.{rules}
use Rattle.meter.proofs.link.slow_too.Goals as goal

pub returns : goal.returns
unfolding slow_too
returns c = rw c.is_wired.ensures
