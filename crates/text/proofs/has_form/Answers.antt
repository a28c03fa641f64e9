-- `text::has_form` meets its contract: its test is the one that the definition matches by. Assumes nothing.
use Rattle.text.specs.Layout.{fits}
use Rattle.text.proofs.has_form.Goals as goal

pub returns : goal.returns
unfolding fits
returns c = c.agreeing.ensures
