-- `commands::with_serial` meets its contract: the digits stand at their places with their parity. Assumes nothing.
use Rattle.commands.proofs.Sent.{both-eights}
use Rattle.commands.proofs.with_serial.Goals as goal

pub returns : goal.returns
returns g c = both-eights c.args.call c.args.serial.now _ _ c.requires.1 c.sent_eight-a.ensures c.sent_eight-z.ensures
