-- `meter::link::called_by_wire` meets its contract: the line is compared without its LF. Assumes nothing.
use Rattle.meter.proofs.SignOn.{wired-by-held}
use borrow.Author.Rules.{rules}
use Rattle.meter.proofs.link.called_by_wire.Goals as goal

pub returns : goal.returns
returns c =
    rw (c.same-2.ensures, c.same.ensures, c.first.ensures.result_value, c.wired_line-ours.ensures) (wired-by-held c.args.line.now c.args.serial.now c.requires)
