-- `meter::link::refuse` meets its contract: each way out is the case of the definition that its test names. Assumes nothing.
use Rattle.text.specs.Writing.{holding}
use Rattle.meter.specs.Link.{refused_reply}
use borrow.Author.Rules.{rules}
use Rattle.meter.proofs.link.refuse.Goals as goal

pub returns-then-is_wired : goal.returns-then-is_wired
unfolding refused_reply holding
returns-then-is_wired c = record { whole = rw (← c.is_wired.ensures, c.if-is_wired.true); held = rw (← c.is_wired.ensures, c.if-is_wired.true) }

pub returns : goal.returns
unfolding refused_reply
returns c =
    let sent = c.refuse.ensures in
    record { whole = rw (← c.is_wired.ensures, c.if-is_wired.false) sent.whole; held = rw (← c.is_wired.ensures, c.if-is_wired.false) sent.held }
