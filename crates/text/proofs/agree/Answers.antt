-- `text::agree` meets its contract: the code is the definition. Assumes nothing.
use Rattle.text.specs.Layout.{agrees}
use Rattle.text.proofs.agree.Goals as goal

pub returns : goal.returns
unfolding agrees
returns c = rw c.is_digit.ensures
