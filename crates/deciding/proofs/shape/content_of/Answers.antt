-- `deciding::shape::content_of` meets its contract: each way out is the case of the definition that its tests name. Assumes nothing.
use Rattle.deciding.specs.Shape.{content}
use borrow.Author.Rules.{rules}
use Rattle.deciding.proofs.shape.content_of.Goals as goal

pub returns : goal.returns
unfolding content
returns c = rw (c.first.ensures.result_value, c.rest.ensures.result_value, c.saturating_sub.ensures)
