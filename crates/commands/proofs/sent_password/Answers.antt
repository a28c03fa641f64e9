-- `commands::sent_password` meets its contract: the digits with their parity, and the BCC of all. Assumes nothing.
use Rattle.commands.proofs.Sent.{password-sent}
use Rattle.commands.proofs.sent_password.Goals as goal

pub returns : goal.returns
returns c =
    password-sent c.args.password.now _ _ _ _ c.requires c.sent_eight-p.ensures c.bcc_eight.ensures c.bcc.ensures c.wire.ensures
