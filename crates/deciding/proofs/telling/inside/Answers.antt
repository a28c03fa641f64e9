-- `deciding::telling::inside` meets its contract: each way out is the case of the definition that its tests name. Assumes nothing.
use Rattle.deciding.specs.Telling.{inner}
use borrow.Author.Rules.{rules}
use Rattle.deciding.proofs.telling.inside.Goals as goal

pub returns : goal.returns
unfolding inner
returns c = rw (c.first.ensures.result_value, c.rest.ensures.result_value, c.saturating_sub.ensures)
