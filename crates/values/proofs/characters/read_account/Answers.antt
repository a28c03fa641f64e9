-- `values::characters::read_account` meets its contract: the rule decides. Assumes nothing.
use Rattle.values.proofs.Rules.{no-account}
use Rattle.values.specs.Serials.{account_read}
use Rattle.values.proofs.characters.read_account.Goals as goal

pub returns-then-s-ne10 : goal.returns-then-s-ne10
unfolding account_read
returns-then-s-ne10 c = rw (no-account c.args.s.now c.if-s-ne10.true)

pub returns-then-is_whole_account : goal.returns-then-is_whole_account
unfolding account_read
returns-then-is_whole_account c = rw (← c.is_whole_account.ensures, c.if-is_whole_account.true, c.array_of.ensures)

pub returns : goal.returns
unfolding account_read
returns c = rw (← c.is_whole_account.ensures, c.if-is_whole_account.false)
