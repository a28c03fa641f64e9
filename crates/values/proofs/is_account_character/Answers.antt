-- `values::is_account_character` meets its contract. Assumes nothing.
use Rattle.values.specs.Registers.{is_account_character}
use Rattle.text.specs.Classes.{between, is_digit}
use Rattle.values.proofs.is_account_character.Goals as goal

pub returns : goal.returns
unfolding is_account_character between is_digit
returns c = rw c.is_letter.ensures
