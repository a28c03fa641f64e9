-- `replies::answer_call` meets its contract: the line of the wired link, sent. Assumes nothing.
use mathlib.Core.Path.{◌∙◌}
use Rattle.frames.proofs.Lines.{wired-line-long}
use Rattle.replies.proofs.answer_call.Goals as goal

pub returns : goal.returns
returns c =
    let sent = c.send.ensures in
    let shown = c.wired_line-shown.ensures in
    record { whole = (rw shown at sent.whole) ∙ wired-line-long 103 c.args.serial.now c.requires.0; held = rw shown at sent.held }
