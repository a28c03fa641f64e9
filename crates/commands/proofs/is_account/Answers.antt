-- `commands::is_account` meets its contract: one of another length is none. Assumes nothing.
use borrow.Author.Tests.{ne_eqb}
use Rattle.values.proofs.Rules.{no-account}
use Rattle.commands.proofs.is_account.Goals as goal

pub returns-else-s-eq-ACCOUNT : goal.returns-else-s-eq-ACCOUNT
returns-else-s-eq-ACCOUNT c = rw (ne_eqb _ _ c.if-s-eq-ACCOUNT.false, no-account c.args.s.now c.if-s-eq-ACCOUNT.false)
