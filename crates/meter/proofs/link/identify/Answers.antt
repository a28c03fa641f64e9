-- `meter::link::identify` meets its contract: each way out is the case of the definition that its test names. Assumes nothing.
use mathlib.Core.Path.{sym, ◌∙◌}
use Rattle.frames.proofs.Lines.{wired-line-long}
use Rattle.meter.specs.Link.{identified}
use borrow.Author.Rules.{rules}
use Rattle.meter.proofs.link.identify.Goals as goal

pub returns-then-is_wired : goal.returns-then-is_wired
unfolding identified
returns-then-is_wired c =
    let sent = c.answer_call.ensures in
    let long = wired-line-long 103 c.args.serial.now c.requires.0 in
    record { whole = rw (← c.is_wired.ensures, c.if-is_wired.true) (sent.whole ∙ sym long); held = rw (← c.is_wired.ensures, c.if-is_wired.true) sent.held }

pub returns : goal.returns
unfolding identified
returns c =
    let sent = c.identify.ensures in
    record { whole = rw (← c.is_wired.ensures, c.if-is_wired.false) sent.whole; held = rw (← c.is_wired.ensures, c.if-is_wired.false) sent.held }
