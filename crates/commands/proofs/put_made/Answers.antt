-- `commands::put_made` meets its contract: what is put in from the front is made. Assumes nothing.
use Rattle.commands.proofs.Sent.{made_so}
use Rattle.commands.proofs.put_made.Goals as goal

pub returns : goal.returns
returns c = made_so c.args.buf.now c.args.made.now _ _ c.requires c.put.ensures.next c.put.ensures.held
