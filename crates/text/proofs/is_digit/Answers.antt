-- `text::is_digit` meets its contract: the code is the definition. Assumes nothing.
use mathlib.Core.Path.{refl}
use Rattle.text.specs.Classes.{between, is_digit}
use Rattle.text.proofs.is_digit.Goals as goal

pub returns : goal.returns
unfolding is_digit between
returns c = refl
