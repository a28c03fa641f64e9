-- `mercury::answering::quantity_at` meets its contract: the four bytes, by the two functions that it calls. Assumes nothing.
use mathlib.Core.Path.{ap, ◌∙◌}
use Rattle.mercury.specs.Answering.{quantity_of, quantity_at}
use Rattle.mercury.proofs.answering.quantity_at.Goals as goal

pub returns : goal.returns
unfolding quantity_at
returns c = c.as_quantity.ensures ∙ ap quantity_of c.number.ensures
