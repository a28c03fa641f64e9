-- `meter::link::fall` meets its contract: each way out is the case of the definition that its test names. Assumes nothing.
use Rattle.meter.specs.Link.{after_refusal}
use borrow.Author.Rules.{rules}
use Rattle.meter.proofs.link.fall.Goals as goal

pub returns-then-is_wired-mode : goal.returns-then-is_wired-mode
unfolding after_refusal
returns-then-is_wired-mode c = rw (← c.is_wired.ensures, c.if-is_wired-mode.true)

pub returns-else-is_wired-mode : goal.returns-else-is_wired-mode
unfolding after_refusal
returns-else-is_wired-mode c = rw (← c.is_wired.ensures, c.if-is_wired-mode.false)
