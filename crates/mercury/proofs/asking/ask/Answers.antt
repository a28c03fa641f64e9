-- `mercury::asking::ask` meets its contract: a field out of range, too short an output, or the request at its front. Assumes nothing.
use mathlib.Core.Path.{sym, ap, ◌∙◌}
use Rattle.text.specs.Writing.{stored}
use Rattle.mercury.proofs.Ranges.{fields_le}
use Rattle.mercury.proofs.Asks.{out_of_range, no_room, built, six}
use Rattle.mercury.proofs.asking.ask.Goals as goal

pub returns-then-not-in_range : goal.returns-then-not-in_range
returns-then-not-in_range c = out_of_range _ _ _ (sym c.in_range.ensures ∙ c.if-not-in_range.true)

pub returns-then-out-lt-LENGTH : goal.returns-then-out-lt-LENGTH
returns-then-out-lt-LENGTH c = no_room _ _ _ (sym c.in_range.ensures ∙ c.if-not-in_range.false) c.if-out-lt-LENGTH.true

pub request-bytes-requires : goal.request-bytes-requires
request-bytes-requires c = fields_le _ _ _ (sym c.in_range.ensures ∙ c.if-not-in_range.false)

pub returns : goal.returns
returns c =
    let good = sym c.in_range.ensures ∙ c.if-not-in_range.false in
    built _ _ _ good c.if-out-lt-LENGTH.false (six _ _ _ _) _ (c.put.ensures.held ∙ ap (stored _ 0) c.request-bytes.ensures)
