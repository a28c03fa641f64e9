-- `meter::after::power_up` meets its contract: mode, receiver and attempts alone are others. Assumes nothing.
use borrow.Author.Rules.{rules}
use Rattle.meter.proofs.after.power_up.Goals as goal

pub returns : goal.returns
returns c = rw (c.quiet.ensures, c.with_attempts.ensures, c.in_mode.ensures)
