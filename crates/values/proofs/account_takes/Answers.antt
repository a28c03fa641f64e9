-- `values::account_takes` meets its contract: a letter is such a character. Assumes nothing.
use Rattle.values.specs.Registers.{is_account_character}
use Rattle.values.proofs.account_takes.Goals as goal

pub returns-then-is_letter : goal.returns-then-is_letter
unfolding is_account_character
returns-then-is_letter c = rw (← c.is_letter.ensures, c.if-is_letter.true)

pub returns : goal.returns
returns c = c.is_account_character.ensures
