-- `text::same` meets its contract: its test is the one that the definition matches by. Assumes nothing.
use Rattle.text.specs.Classes.{same_text}
use Rattle.text.proofs.same.Goals as goal

pub returns : goal.returns
unfolding same_text
returns c = c.agreeing.ensures
