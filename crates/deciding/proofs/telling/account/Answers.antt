-- `deciding::telling::account` meets its contract: each way out is the case of the definition that its tests name. Assumes nothing.
use Rattle.deciding.specs.Verdicts.{command_of, number_of, verdict_of}
use Rattle.deciding.specs.Telling.{account_told}
use borrow.Author.Rules.{rules}
use Rattle.deciding.proofs.telling.account.Goals as goal

pub returns-then-is_whole_account : goal.returns-then-is_whole_account
unfolding account_told command_of number_of verdict_of
returns-then-is_whole_account c = rw (← c.is_whole_account.ensures, c.if-is_whole_account.true)

pub returns : goal.returns
unfolding account_told command_of number_of verdict_of
returns c = rw (← c.is_whole_account.ensures, c.if-is_whole_account.false)
